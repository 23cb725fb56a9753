-- The promises of specs/Promises.antt. Assumes nothing.
use Rattle.lines.specs.Promises.{DigitsReadBack, DigitsShortest, DigitsFew, LinesTidy}
use Rattle.text.proofs.DigitLaws.{decimal-value, decimal-first, decimal-short-16, decimal-short-32}
use Rattle.lines.proofs.TidyLaws.{header-tidy, place-tidy, over-tidy, refused-tidy}

pub digits-read-back : DigitsReadBack
digits-read-back = decimal-value

pub digits-shortest : DigitsShortest
digits-shortest = decimal-first

pub digits-few : DigitsFew
digits-few = (decimal-short-16, decimal-short-32)

pub lines-tidy : LinesTidy
lines-tidy = (header-tidy, place-tidy, over-tidy, refused-tidy)
