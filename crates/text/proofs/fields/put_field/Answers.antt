-- `text::fields::put_field` meets its contract: a blank, and the digits after it.
-- Assumes nothing.
use native.Mathlib.Omega.{arith}
use Rattle.text.specs.Words.{blank}
use Rattle.text.proofs.PutLaws.{puts-byte, told-then}
use Rattle.text.proofs.fields.put_field.Goals as goal

pub returns : goal.returns
returns c =
    told-then (omega arith) (puts-byte c.args.out.now c.args.at blank (omega arith)) c.put_number.ensures
