-- `questions::cores::ask_core_into` meets its contract: a refusal, or the core's latest times at the buffer's front.
-- Assumes nothing.
use Rattle.questions.proofs.AskLaws.{settled-fits}
use Rattle.questions.proofs.BufferLaws.{refused-fills, found-fills}
use Rattle.questions.proofs.CoreLaws.{core-long, core-refused, core-found}
use Rattle.telling.specs.Laid.{laid}
use Rattle.questions.specs.Question.{buffer}
use Rattle.viewing.specs.Counts.{farm_in}
use Rattle.knowledge.specs.Views.{View, latest_times}
use Rattle.std.proofs.lemmas.Result.{err_from_is_err_and}
use lib.ListN.{length}
use native.Mathlib.Omega.{arith}
use mathlib.Core.Path.{refl, ◌∙◌, ap}
use Rattle.questions.proofs.cores.ask_core_into.Goals as goal

pub returns-in_err-settled : goal.returns-in_err-settled
returns-in_err-settled c =
    let a = c.args in
    let p = err_from_is_err_and c.from_residual.result c.from_residual.ensures.1 in
    rw (p.1, p.2)
    (refused-fills _ a.out.now _
    (core-refused (buffer (length a.out.now)) (farm_in a.farm) a.seat a.time _ (c.in_err-settled.ensures.refuses _ refl)))

pub put_times-requires : goal.put_times-requires
put_times-requires c =
    let a = c.args in
    let found = c.in_ok-settled.ensures.answers _ refl in
    let full = core-long _ _ _ found in
    let seats = c.requires.seats in
    (omega arith, settled-fits (farm_in a.farm) a.seat a.time (length a.out.now) a.farm.sizes.seats _ found.is, found.early)

pub returns : goal.returns
returns c =
    let a = c.args in
    let found = c.in_ok-settled.ensures.answers _ refl in
    found-fills _ a.out.now _ _
    (core-found (buffer (length a.out.now)) (farm_in a.farm) a.seat a.time found.what found.is)
    (c.put_times.ensures ∙ ap (λ (v : View). laid (latest_times a.farm.sizes.seats v) a.out.now) found.core)
