-- Half of 16 bits is the change, or lies as far below −1 as the change does.
use Rattle.std.proofs.Common.{arith, sym, ◌∙◌, w16}
use Rattle.record.proofs.ChangeLaws.{half-kept, below_half, even-unmapped, odd-unmapped}
use mir.ValLaws.{to_z-of_z}
use Rattle.record.proofs.changes.unmap_change.Goals as goal

pub returns-then-number-eq0 : goal.returns-then-number-eq0
returns-then-number-eq0 c = half-kept c.args.number (omega arith) ∙ sym (even-unmapped c.args.number c.if-number-eq0.true)

pub returns : goal.returns
returns c =
    rw (below_half c.args.number (omega arith))
    (to_z-of_z w16 _ (record { sfits = omega arith }) ∙ sym (odd-unmapped c.args.number c.if-number-eq0.false))
