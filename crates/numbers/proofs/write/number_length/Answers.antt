-- `numbers::write::number_length` meets its contract: the sizes at which a number takes another byte are 128 and 128 × 128.
-- Assumes nothing.
use mathlib.Core.Path.{sym, ap}
use native.Mathlib.Omega.{arith}
use lib.ListN.{length}
use Rattle.numbers.proofs.ByteLaws.{one_byte, two_bytes, three-bytes}
use Rattle.numbers.proofs.write.number_length.Goals as goal

pub returns-then-value-lt128 : goal.returns-then-value-lt128
returns-then-value-lt128 c = sym (ap length (one_byte _ c.if-value-lt128.true))

pub returns-then-value-lt16384 : goal.returns-then-value-lt16384
returns-then-value-lt16384 c = sym (ap length (two_bytes c.args.value c.if-value-lt128.false (omega arith)))

pub returns : goal.returns
returns c = sym (ap length (three-bytes c.args.value c.if-value-lt128.false (omega arith)))
