-- `writing::counting::header_length` meets its contract: it is the sum of the lengths of its numbers, of which each is at most three.
-- Assumes nothing.
use native.Mathlib.Omega.{arith}
use lib.ListN.{length-append}
use Rattle.record.specs.Header.{header_bytes}
use Rattle.numbers.proofs.ByteLaws.{at-most-three}
use Rattle.writing.proofs.counting.header_length.Goals as goal

pub overflow_add-first : goal.overflow_add-first
overflow_add-first c = omega (arith, at-most-three)

pub overflow_add-result : goal.overflow_add-result
overflow_add-result c = omega (arith, at-most-three)

pub overflow_add-result-2 : goal.overflow_add-result-2
overflow_add-result-2 c = omega (arith, at-most-three)

pub returns : goal.returns
unfolding header_bytes
returns c = simp length-append (omega arith)
