-- `text::digits::put_number` meets its contract: the digits that are printed are those of the number. Assumes nothing.
use Rattle.std.proofs.Common.{◌∙◌, arith}
use Rattle.text.proofs.DigitLaws.{decimal-printed}
use Rattle.text.proofs.PutLaws.{few-put}
use Rattle.text.proofs.digits.put_number.Goals as goal

pub returns : goal.returns
returns c =
    few-put c.put_word.ensures (omega arith) (omega arith) (c.as_bytes.ensures.value ∙ c.format.ensures.text ∙ decimal-printed c.args.value (omega arith)) (omega (arith, c.as_bytes.ensures.len))
