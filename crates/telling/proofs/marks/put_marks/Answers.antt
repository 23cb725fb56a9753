-- `telling::marks::put_marks` meets its contract: each mark is laid in its place.
-- Assumes nothing.
use Rattle.telling.proofs.MarkLaws.{mark-laid, marks-none}
use Rattle.viewing.specs.Counts.{held}
use Rattle.std.proofs.lemmas.List.{take-append-drop}
use Rattle.std.proofs.lemmas.Slice.Zip.{either_empty_from_Zip}
use Rattle.std.specs.Iterator.Adapters.{enumerate_source}
use lib.ListN.{length}
use native.Mathlib.Omega.{arith}
use mathlib.Core.Path.{refl, sym, ◌∙◌, ap}
use Rattle.telling.proofs.marks.put_marks.Goals as goal

pub loop-edit-preserved : goal.loop-edit-preserved
loop-edit-preserved c =
    let s = c.in-Some.ensures.steps in
    let l = c.loop-edit.invariant in
    let short = ap length s.0.0 in
    (omega arith, mark-laid (held c.args.core.now) _ _ _ _ _ _ c.loop-edit.out _ _ _ _ _ s.0.0 s.0.1 (omega (arith, s.1)) s.2 c.mark_of.ensures (omega arith) l.1)

pub returns : goal.returns
returns c =
    let none =
    marks-none (held c.args.core.now) _ _
    (either_empty_from_Zip (enumerate_source c.loop-edit.edit-iterator) (enumerate_source c.next.new.self) _ refl c.in-None.ensures.steps.0) in
    let all = rw none at c.loop-edit.invariant.1 in
    sym (take-append-drop _ c.loop-edit.out) ∙ all
