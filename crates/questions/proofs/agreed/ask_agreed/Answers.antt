-- `questions::agreed::ask_agreed` meets its contract: a refusal, or the parts of one settled answer.
-- Assumes nothing.
use Rattle.questions.proofs.AgreedLaws.{agreed-refused, agreed-found}
use Rattle.questions.proofs.AskLaws.{settled-unlent}
use Rattle.questions.specs.Answers.{agreed_from}
use Rattle.viewing.specs.Counts.{farm_in}
use Rattle.std.proofs.lemmas.Result.{err_from_is_err_and}
use Rattle.std.specs.Prelude.{Ok}
use mathlib.Core.Path.{refl, sym, ◌∙◌, ap}
use Rattle.questions.proofs.agreed.ask_agreed.Goals as goal

pub returns-in_err-settled : goal.returns-in_err-settled
returns-in_err-settled c =
    let a = c.args in
    let p = err_from_is_err_and c.from_residual.result c.from_residual.ensures.1 in
    rw (p.1, p.2)
    (agreed-refused a.farm.sizes.seats a.edits.editors.now a.edits.times.now _ _
    (settled-unlent (farm_in a.farm) a.seat a.time ∙ c.in_err-settled.ensures.refuses _ refl))

pub agreed_with-requires : goal.agreed_with-requires
agreed_with-requires c =
    let found = c.in_ok-settled.ensures.answers _ refl in
    (c.requires.0.seats, found.early, c.requires.1)

pub returns : goal.returns
returns c =
    let a = c.args in
    let found = c.in_ok-settled.ensures.answers _ refl in
    ap Ok c.agreed_with.ensures
    ∙ agreed-found a.farm.sizes.seats a.edits.editors.now a.edits.times.now _ _ found
    ∙ ap (agreed_from a.farm.sizes.seats a.edits.editors.now a.edits.times.now) (sym (settled-unlent (farm_in a.farm) a.seat a.time))
