-- `writing::counting::cells_length` meets its contract. The loop's invariant: what is counted and what is left are the whole, and a cell takes at most three bytes.
-- Assumes nothing.
use native.Mathlib.Omega.{arith}
use Rattle.writing.proofs.CountingLaws.{numbers-next, numbers-done}
use Rattle.numbers.proofs.ByteLaws.{at-most-three}
use Rattle.writing.proofs.counting.cells_length.Goals as goal

pub overflow_add-total : goal.overflow_add-total
overflow_add-total c = omega (arith, at-most-three)

pub loop-cell-preserved : goal.loop-cell-preserved
loop-cell-preserved c =
    let parts = numbers-next c.loop-cell.cell-index c.args.cells.now c.loop-cell-test.true in
    (omega (arith, at-most-three), omega arith)

pub returns : goal.returns
returns c = omega (arith, numbers-done c.loop-cell.cell-index c.args.cells.now (omega arith))
