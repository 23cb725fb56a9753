-- `host_table::calls::ricecrock_table_add_edit` meets its contract: the number of what the library's call answers.
-- Assumes nothing.
use native.Mathlib.Omega.{arith}
use mir.Syntax.{w16, w32}
use mir.Val.{SFits}
use mir.ValLaws.{to_z-of_z}
use Rattle.host_table.proofs.WideLaws.{ends_with, edit-handed}
use Rattle.host_table.proofs.calls.ricecrock_table_add_edit.Goals as goal

pub returns : goal.returns
returns c =
    let fits : SFits w16 c.small_edit-small.result.change = record { sfits = omega arith } in
    let ends = rw (to_z-of_z w16 _ fits) at c.edit_into.ensures in
    let handed = rw (to_z-of_z w32 _ c.ranges.change) at c.small_edit-small.ensures in
    ends_with (edit-handed _ _ _ _ _ _ handed) ends c.refusal_number.ensures
