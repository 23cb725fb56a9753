-- `text::fields::put_named` meets its contract: the name, and the field after it.
-- Assumes nothing.
use native.Mathlib.Omega.{arith}
use Rattle.text.proofs.PutLaws.{told-then}
use Rattle.text.proofs.fields.put_named.Goals as goal

pub returns : goal.returns
returns c =
    told-then (omega arith) c.put_word-number.ensures c.put_field.ensures
