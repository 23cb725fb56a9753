-- `writing::counting::cells_length` meets its contract. The loop's invariant: what is counted and what is left are the whole, and a cell takes at most three bytes.
-- Assumes nothing.
use mathlib.Core.Path.{◌≡◌}
use Prim.Native.Nat.{◌+◌, ◌*◌, ◌≤◌}
use lib.ListN.{drop}
use Rattle.farm.specs.Limits.{limits}
use Rattle.record.specs.Lengths.{numbers_length}
use Rattle.writing.proofs.counting.cells_length.Given as goal

abbrev pub invariant-loop-cell : goal.invariant-loop-cell
invariant-loop-cell l = (l.total ≤ 3 * l.cell-index) × (l.total + numbers_length limits (drop l.cell-index l.cells) ≡ numbers_length limits l.cells)
