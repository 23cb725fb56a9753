-- `text::digits::put_signed` meets its contract: the sign and the digits that are printed are those of the number. Assumes nothing.
use Rattle.std.proofs.Common.{◌∙◌, ap, arith}
use Rattle.std.specs.Fmt.{signed_decimal}
use mir.Syntax.{w16}
use mir.ValLaws.{to_z-of_z}
use Rattle.text.proofs.DigitLaws.{signed-printed}
use Rattle.text.proofs.PutLaws.{few-put}
use Rattle.text.proofs.digits.put_signed.Goals as goal

pub returns : goal.returns
returns c =
    let number = to_z-of_z w16 c.args.value c.ranges.value in
    let text = c.format.ensures.text ∙ ap signed_decimal number ∙ signed-printed c.args.value c.ranges.value in
    few-put c.put_word.ensures (omega arith) (omega arith) (c.as_bytes.ensures.value ∙ text) (omega (arith, c.as_bytes.ensures.len))
