-- `construction::losers::loses_in` meets its contract: an empty loss set has no seat, and else `any` looks for one of the seats that the send of
-- one round did not reach.
-- Assumes nothing.
use Rattle.std.proofs.Common.{rules, refl, sym, ◌∙◌}
use native.Mathlib.Omega.{arith}
use borrow.Author.Tests.{tests}
use Rattle.std.proofs.lemmas.Iterator.{YieldsList-from_range}
use Rattle.std.proofs.lemmas.Iterator.Search.{any_from_yields_List}
use Rattle.construction.proofs.AnyOf.{any-range, any-empty}
use Rattle.viewing.specs.Counts.{farm_in}
use Prim.Native.Nat.{suc, ◌+◌, ◌*◌}
use Rattle.knowledge.specs.Farm.{lost_in, loses_in}
use Rattle.construction.proofs.losers.loses_in.Goals as goal

pub returns-else-loss_set-ne0 : goal.returns-else-loss_set-ne0
unfolding loses_in lost_in
returns-else-loss_set-ne0 c =
    let a = c.args in
    let n = a.farm.sizes.seats in
    let none = c.if-loss_set-ne0.false in
    rw (none, any-empty n a.farm.losses.now (a.begun.0 * n + a.z.0) (sym c.loss_set.ensures ∙ none) (omega arith))

pub returns-then-loss_set-ne0 : goal.returns-then-loss_set-ne0
unfolding loses_in
returns-then-loss_set-ne0 c =
    let a = c.args in
    let test = (farm_in a.farm).lost (suc a.begun.0) a.z.0 in
    any_from_yields_List test _ _ _ c.any.ensures.ran (YieldsList-from_range 0 _ _ refl refl) (λ x b q k. search (rules, tests)) ∙ any-range _ test
