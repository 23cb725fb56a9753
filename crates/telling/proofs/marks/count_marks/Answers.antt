-- `telling::marks::count_marks` meets its contract: each mark is counted.
-- Assumes nothing.
use Rattle.telling.proofs.MarkLaws.{count-few, count-one, count-none}
use Rattle.viewing.specs.Counts.{held}
use Rattle.std.proofs.lemmas.Slice.Zip.{either_empty_from_Zip}
use native.Mathlib.Omega.{arith}
use mathlib.Core.Path.{refl}
use Rattle.telling.proofs.marks.count_marks.Goals as goal

pub overflow_add-count : goal.overflow_add-count
overflow_add-count c =
    let few = count-few (held c.args.core.now) c.args.edits.editors.now c.args.edits.times.now in
    let s = c.in-Some.ensures.steps in
    let one = count-one (held c.args.core.now) _ _ _ _ _ _ _ _ s.0 s.1 c.loop-editor.invariant in
    omega arith

pub loop-editor-preserved : goal.loop-editor-preserved
loop-editor-preserved c =
    let s = c.in-Some.ensures.steps in
    rw c.mark_of.ensures (count-one (held c.args.core.now) _ _ _ _ _ _ _ _ s.0 s.1 c.loop-editor.invariant)

pub returns : goal.returns
returns c =
    let none = count-none (held c.args.core.now) _ _ (either_empty_from_Zip c.loop-editor.editor-iterator c.next.new.self _ refl c.in-None.ensures.steps) in
    let all = c.loop-editor.invariant in
    omega arith
