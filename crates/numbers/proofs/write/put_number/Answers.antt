-- `numbers::write::put_number` meets its contract: the bytes that are stored, one after the other, are the number's.
-- Assumes nothing.
use mathlib.Core.Path.{ap}
use native.Mathlib.Omega.{arith}
use lib.ListN.{length, length-set}
use Rattle.numbers.proofs.PlacingLaws.{put_one, put_two, put_three}
use Rattle.numbers.proofs.ByteLaws.{one_byte, two_bytes, three-bytes, some_byte}
use Rattle.numbers.proofs.write.put_number.Goals as goal

pub bounds-out-at : goal.bounds-out-at
bounds-out-at c = let size = ap length (one_byte c.args.value c.if-value-lt128.true) in omega arith

pub returns-then-value-lt128 : goal.returns-then-value-lt128
returns-then-value-lt128 c = put_one c.args.at c.args.value c.args.out.now c.requires.1 c.if-value-lt128.true

pub bounds-out-at-2 : goal.bounds-out-at-2
bounds-out-at-2 c = let size = some_byte c.args.value in omega arith

pub bounds-out-second : goal.bounds-out-second
bounds-out-second c = let size = ap length (two_bytes c.args.value c.if-value-lt128.false (omega arith)) in simp length-set (omega arith)

pub returns-then-high-lt128 : goal.returns-then-high-lt128
returns-then-high-lt128 c = put_two c.args.at c.args.value c.args.out.now c.requires.1 c.if-value-lt128.false (omega arith)

pub bounds-out-second-2 : goal.bounds-out-second-2
bounds-out-second-2 c = let size = ap length (three-bytes c.args.value c.if-value-lt128.false (omega arith)) in simp length-set (omega arith)

pub bounds-out-third : goal.bounds-out-third
bounds-out-third c = let size = ap length (three-bytes c.args.value c.if-value-lt128.false (omega arith)) in simp length-set (omega arith)

pub returns : goal.returns
returns c = put_three c.args.at c.args.value c.args.out.now c.requires.1 c.if-value-lt128.false (omega arith)
