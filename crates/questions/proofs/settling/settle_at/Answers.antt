-- `questions::settling::settle_at` meets its contract: 8, 7, or what the construction answers.
-- Assumes nothing.
use Rattle.questions.proofs.AskLaws.{place-in-limits, settled-roomy}
use Rattle.questions.proofs.CoreLaws.{settled-so}
use Rattle.questions.specs.Question.{is_place}
use Rattle.viewing.specs.Counts.{farm_in}
use mathlib.Core.Path.{sym, ◌∙◌}
use Rattle.questions.proofs.settling.settle_at.Goals as goal

pub returns : goal.returns
unfolding is_place
returns c =
    let a = c.args in
    let farm = farm_in a.farm in
    let real = sym c.is_place.ensures ∙ c.if-not-is_place.false in
    let place = place-in-limits a.farm.sizes a.farm.losses.now c.requires a.seat a.time real in
    settled-so farm c.requires.bound c.requires.seats a.seat a.time place.1 place.2 _ c.settle.ensures _
    (settled-roomy farm a.seat a.time a.room a.need real c.if-room-need.false)
