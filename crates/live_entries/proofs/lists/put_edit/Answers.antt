-- `live_entries::lists::put_edit` meets its contract: one entry put into each of four lists.
-- Assumes nothing.
use mathlib.Core.Path.{◌∙◌, ap}
use native.Mathlib.Omega.{arith}
use lib.IntN.{ℤ}
use lib.ListN.{set}
use mir.Syntax.{w16}
use mir.ValLaws.{to_z-of_z}
use borrow.Author.Rules.{rules}
use Rattle.live_table.proofs.ListLaws.{over-one}
use Rattle.live_entries.proofs.lists.put_edit.Goals as goal

pub returns : goal.returns
returns c =
    let a = c.args in
    let room = c.requires in (
      over-one a.at a.edit.seat.0 a.editors.now (omega arith),
      over-one a.at a.edit.time.0 a.times.now (omega arith),
      over-one a.at a.edit.cell a.cells.now (omega arith),
      ap (λ (z : ℤ). set a.changes.now a.at z) (to_z-of_z w16 a.edit.change (search rules)) ∙ over-one a.at a.edit.change a.changes.now (omega arith),
    )
