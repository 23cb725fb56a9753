-- `questions::marks::ask_marks` meets its contract: a refusal, or a mark for each edit at the buffer's front.
-- Assumes nothing.
use Rattle.questions.proofs.AskLaws.{settled-fits}
use Rattle.questions.proofs.BufferLaws.{refused-fills, found-fills}
use Rattle.questions.proofs.MarkLaws.{marks-refused, marks-found}
use Rattle.telling.specs.Laid.{laid}
use Rattle.telling.specs.Marks.{marks_in}
use Rattle.questions.specs.Question.{buffer}
use Rattle.viewing.specs.Counts.{farm_in}
use Rattle.knowledge.specs.Views.{View}
use Rattle.std.proofs.lemmas.Result.{err_from_is_err_and}
use lib.ListN.{length}
use mathlib.Core.Path.{refl, ◌∙◌, ap}
use Rattle.questions.proofs.marks.ask_marks.Goals as goal

pub returns-in_err-settled : goal.returns-in_err-settled
returns-in_err-settled c =
    let a = c.args in
    let p = err_from_is_err_and c.from_residual.result c.from_residual.ensures.1 in
    rw (p.1, p.2)
    (refused-fills _ a.out.now _
    (marks-refused (farm_in a.farm) a.edits.editors.now a.edits.times.now a.seat a.time (buffer (length a.out.now)) _
    (c.in_err-settled.ensures.refuses _ refl)))

pub put_marks-requires : goal.put_marks-requires
put_marks-requires c =
    let a = c.args in
    let found = c.in_ok-settled.ensures.answers _ refl in
    settled-fits (farm_in a.farm) a.seat a.time (length a.out.now) (length a.edits.editors.now) _ found.is

pub returns : goal.returns
returns c =
    let a = c.args in
    let found = c.in_ok-settled.ensures.answers _ refl in
    found-fills _ a.out.now _ _
    (marks-found (farm_in a.farm) a.edits.editors.now a.edits.times.now a.seat a.time (buffer (length a.out.now)) found.what found.is)
    (c.put_marks.ensures ∙ ap (λ (v : View). laid (marks_in v a.edits.editors.now a.edits.times.now) a.out.now) found.core)
