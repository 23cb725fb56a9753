-- `writing::counting::changes_length` meets its contract. The loop's invariant: what is counted and what is left are the whole, and a change takes at most three bytes.
-- Assumes nothing.
use mathlib.Core.Path.{◌≡◌}
use Prim.Native.Nat.{◌+◌, ◌*◌, ◌≤◌}
use lib.ListN.{drop}
use Rattle.farm.specs.Limits.{limits}
use Rattle.record.specs.Lengths.{changes_length}
use Rattle.writing.proofs.counting.changes_length.Given as goal

abbrev pub invariant-loop-change : goal.invariant-loop-change
invariant-loop-change l = (l.total ≤ 3 * l.change-index) × (l.total + changes_length limits (drop l.change-index l.changes) ≡ changes_length limits l.changes)
