-- `telling::marks::count_marks` meets its contract. The loop's invariant: the count so far and the count of the edits that are
-- left make the whole.
-- Assumes nothing.
use Rattle.telling.specs.Marks.{count_in}
use Rattle.viewing.specs.Counts.{held}
use Rattle.std.specs.Iterator.Adapters.{zip_first, zip_second}
use Rattle.std.specs.Slice.Iter.{iter_rest}
use Prim.Native.Nat.{◌+◌}
use mathlib.Core.Path.{◌≡◌}
use Rattle.telling.proofs.marks.count_marks.Given as goal

abbrev pub invariant-loop-editor : goal.invariant-loop-editor
invariant-loop-editor l =
    l.count + count_in (held l.core) (iter_rest (zip_first l.editor-iterator)) (iter_rest (zip_second l.editor-iterator))
    ≡ count_in (held l.core) l.edits.editors.now l.edits.times.now
