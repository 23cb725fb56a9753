-- `text::fields::put_signed_field` meets its contract: a blank, and the signed number after it, which is the same once it is read from its bits.
-- Assumes nothing.
use native.Mathlib.Omega.{arith}
use mir.Syntax.{w16}
use mir.ValLaws.{to_z-of_z}
use Rattle.text.specs.Words.{blank}
use Rattle.text.proofs.PutLaws.{puts-byte, told-then}
use Rattle.text.proofs.fields.put_signed_field.Goals as goal

pub returns : goal.returns
returns c =
    let number = rw (to_z-of_z w16 c.args.value c.ranges.value) at c.put_signed.ensures in
    told-then (omega arith) (puts-byte c.args.out.now c.args.at blank (omega arith)) number
