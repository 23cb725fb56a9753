-- `live_entries::lists::last_held` meets its contract: none of no edits, and else the one at the last place.
-- Assumes nothing.
use mathlib.Core.Path.{◌≡◌, ◌∙◌}
use Prim.Native.Nat.{◌-◌}
use native.Mathlib.Omega.{arith}
use lib.IntN.{pos}
use lib.ListN.{get_or}
use mir.Syntax.{w16}
use mir.Val.{SFits}
use borrow.Author.Rules.{rules}
use Rattle.judging.proofs.JudgingLaws.{change-kept}
use Rattle.live_entries.proofs.LastLaws.{last-of-none, last-of-some}
use Rattle.live_entries.proofs.lists.last_held.Goals as goal

pub returns-in_err-at : goal.returns-in_err-at
returns-in_err-at c =
    let a = c.args in
    let f = c.in_err-at.ensures in
    let none : a.held ≡ 0 = omega arith in
    rw none (c.from_residual.ensures ∙ last-of-none a.editors.now a.times.now a.cells.now a.changes.now)

pub returns : goal.returns
returns c =
    let a = c.args in
    let f = c.in_ok-at.ensures in
    let last : a.held - 1 ≡ c.in_ok-at.at = omega arith in
    let fits : SFits w16 (get_or a.changes.now c.in_ok-at.at (pos 0)) = search rules in
    rw (change-kept _ _ _ _ fits)
    (rw last at (last-of-some a.editors.now a.times.now a.cells.now a.changes.now a.held (omega arith) c.requires))
