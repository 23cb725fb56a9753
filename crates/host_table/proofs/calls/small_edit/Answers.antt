-- `host_table::calls::small_edit` meets its contract: the change fits, or the seat is one that no record has.
-- Assumes nothing.
use mathlib.Core.Path.{◌≡◌}
use mir.Syntax.{w16, w32}
use mir.Val.{SFits}
use mir.ValLaws.{to_z-of_z}
use Rattle.host_table.proofs.WideLaws.{near-change, far-change}
use Rattle.host_table.proofs.calls.small_edit.Goals as goal

pub returns-in-Ok : goal.returns-in-Ok
returns-in-Ok c =
    let small : (SFits w16 c.args.change) × (c.in-Ok.change ≡ c.args.change) = rw (to_z-of_z w32 c.args.change c.ranges.change) at c.in-Ok.ensures in
    rw (small.1, to_z-of_z w16 c.args.change small.0) (near-change _ _ small.0 _ c.into.ensures)

pub returns-in-Err : goal.returns-in-Err
returns-in-Err c = far-change _ _ (rw (to_z-of_z w32 c.args.change c.ranges.change) at c.in-Err.ensures)
