-- `numbers::read::read_number` meets its contract: at each `return` the tests that led there say which byte ended the number, and how.
-- Assumes nothing.
use Rattle.std.proofs.Common.{true, false, arith, rules}
use Rattle.std.proofs.Math.Nat.{pos_of_ne-zero}
use Rattle.numbers.proofs.CursorLaws.{ends-here, last-here, zero-here, too-long-here, after-one, after-two, read-refused, read-value}
use Rattle.numbers.specs.Cursors.{number_at}
use Rattle.record.specs.Numbers.{take_number, with_group}
use borrow.Author.Tests.{lt-ltb}
use Rattle.numbers.proofs.read.read_number.Goals as goal

pub returns-then-bytes-first : goal.returns-then-bytes-first
unfolding number_at take_number
returns-then-bytes-first c =
    let bytes = c.args.bytes.now in
    read-refused bytes _ _ (ends-here bytes c.args.from.at 2 true c.if-bytes-first.true)

pub returns-then-low-lt128 : goal.returns-then-low-lt128
unfolding number_at take_number
returns-then-low-lt128 c =
    let bytes = c.args.bytes.now in
    read-value bytes _ _ _ (last-here bytes c.args.from.at c.if-bytes-first.false 2 true c.if-low-lt128.true (search rules)) (omega arith)

pub returns-then-bytes-second : goal.returns-then-bytes-second
unfolding number_at with_group
returns-then-bytes-second c =
    let bytes = c.args.bytes.now in
    read-refused bytes _ _
    (after-one bytes _ c.if-bytes-first.false c.if-low-lt128.false _ (ends-here bytes _ 1 false c.if-bytes-second.true))

pub returns-then-middle-eq0 : goal.returns-then-middle-eq0
unfolding number_at with_group
returns-then-middle-eq0 c =
    let bytes = c.args.bytes.now in
    read-refused bytes _ _
    (after-one bytes _ c.if-bytes-first.false c.if-low-lt128.false _ (zero-here bytes _ c.if-bytes-second.false 1 c.if-middle-eq0.true))

pub returns-then-middle-lt128 : goal.returns-then-middle-lt128
unfolding number_at with_group
returns-then-middle-lt128 c =
    let bytes = c.args.bytes.now in
    read-value bytes _ _ _
    (after-one bytes _ c.if-bytes-first.false c.if-low-lt128.false _
    (last-here bytes _ c.if-bytes-second.false 1 false c.if-middle-lt128.true (lt-ltb 0 _ (pos_of_ne-zero c.if-middle-eq0.false))))
    (omega (arith, c.if-bytes-second.false))

pub returns-then-bytes-third : goal.returns-then-bytes-third
unfolding number_at with_group
returns-then-bytes-third c =
    let bytes = c.args.bytes.now in
    read-refused bytes _ _
    (after-two bytes _ c.if-bytes-first.false c.if-low-lt128.false c.if-bytes-second.false c.if-middle-lt128.false _
    (ends-here bytes _ 0 false c.if-bytes-third.true))

pub returns-then-high-eq0 : goal.returns-then-high-eq0
unfolding number_at with_group
returns-then-high-eq0 c =
    let bytes = c.args.bytes.now in
    read-refused bytes _ _
    (after-two bytes _ c.if-bytes-first.false c.if-low-lt128.false c.if-bytes-second.false c.if-middle-lt128.false _
    (zero-here bytes _ c.if-bytes-third.false 0 c.if-high-eq0.true))

pub returns-then-high-ge128 : goal.returns-then-high-ge128
unfolding number_at with_group
returns-then-high-ge128 c =
    let bytes = c.args.bytes.now in
    read-refused bytes _ _
    (after-two bytes _ c.if-bytes-first.false c.if-low-lt128.false c.if-bytes-second.false c.if-middle-lt128.false _
    (too-long-here bytes _ c.if-bytes-third.false false c.if-high-ge128.true))

pub returns : goal.returns
unfolding number_at with_group
returns c =
    let bytes = c.args.bytes.now in
    read-value bytes _ _ _
    (after-two bytes _ c.if-bytes-first.false c.if-low-lt128.false c.if-bytes-second.false c.if-middle-lt128.false _
    (last-here bytes _ c.if-bytes-third.false 0 false c.if-high-ge128.false (lt-ltb 0 _ (pos_of_ne-zero c.if-high-eq0.false))))
    (omega (arith, c.if-bytes-third.false))
