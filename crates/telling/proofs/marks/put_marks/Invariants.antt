-- `telling::marks::put_marks` meets its contract. The loop's invariant: laying the marks of the edits that are left behind the first
-- bytes gives the whole.
-- Assumes nothing.
use Rattle.telling.specs.Laid.{laid}
use Rattle.telling.specs.Marks.{marks_in}
use Rattle.viewing.specs.Counts.{held}
use Rattle.std.specs.Iterator.Adapters.{enumerate_source, enumerate_count, zip_first, zip_second}
use Rattle.std.specs.Slice.Iter.{iter_rest}
use lib.ListN.{length, take, drop}
use mathlib.Core.List.{◌++◌}
use Prim.Native.Nat.{◌+◌}
use mathlib.Core.Path.{◌≡◌}
use Rattle.telling.proofs.marks.put_marks.Given as goal

abbrev pub invariant-loop-edit : goal.invariant-loop-edit
invariant-loop-edit l =
    let i = enumerate_count l.edit-iterator in
    let seats = iter_rest (zip_first (enumerate_source l.edit-iterator)) in
    let times = iter_rest (zip_second (enumerate_source l.edit-iterator)) in
    (i + length seats ≡ length l.edits.editors.now)
    × (take i l.out ++ laid (marks_in (held l.core) seats times) (drop i l.out) ≡ laid (marks_in (held l.core) l.edits.editors.now l.edits.times.now) l.initial.out)
