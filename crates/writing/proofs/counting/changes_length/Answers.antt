-- `writing::counting::changes_length` meets its contract. The loop's invariant: what is counted and what is left are the whole, and a change takes at most three bytes.
-- Assumes nothing.
use native.Mathlib.Omega.{arith}
use lib.IntN.{pos}
use lib.ListN.{get_or}
use mir.ValLaws.{to_z-of_z}
use mir.Syntax.{w16}
use borrow.Author.Rules.{rules}
use Rattle.writing.proofs.CountingLaws.{changes-next, changes-done}
use Rattle.numbers.proofs.ByteLaws.{at-most-three}
use Rattle.writing.proofs.counting.changes_length.Goals as goal

pub overflow_add-total : goal.overflow_add-total
overflow_add-total c = omega (arith, at-most-three)

pub loop-change-preserved : goal.loop-change-preserved
loop-change-preserved c =
    let parts = changes-next c.loop-change.change-index c.args.changes.now c.loop-change-test.true in
    let kept = to_z-of_z w16 (get_or c.args.changes.now c.loop-change.change-index (pos 0)) (search rules) in
    let same = rw kept at c.map_change.ensures in
    let size = rw same at c.number_length-total.ensures in
    (omega (arith, at-most-three), omega arith)

pub returns : goal.returns
returns c = omega (arith, changes-done c.loop-change.change-index c.args.changes.now (omega arith))
