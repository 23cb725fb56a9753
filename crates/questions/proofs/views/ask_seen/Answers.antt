-- `questions::views::ask_seen` meets its contract: 8, or the view's latest times and its known set.
-- Assumes nothing.
use Rattle.questions.proofs.AskLaws.{seen-found, view-in-limits}
use Rattle.telling.proofs.TimeLaws.{times-held}
use Rattle.telling.specs.Laid.{laid}
use Rattle.questions.specs.Answers.{no_times}
use Rattle.questions.specs.Question.{is_place}
use Rattle.construction.proofs.KnownSteps.{known-held}
use Rattle.viewing.specs.Counts.{farm_in}
use Rattle.knowledge.specs.Views.{view_of}
use lib.IntN.{ℤ}
use mathlib.Core.List.{List}
use mathlib.Core.Path.{sym, ◌∙◌, ap}
use Rattle.questions.proofs.views.ask_seen.Goals as goal

pub put_times-requires : goal.put_times-requires
unfolding is_place
put_times-requires c =
    let a = c.args in
    let v = view-in-limits a.farm.sizes a.farm.losses.now c.requires a.seat a.time (sym c.is_place.ensures ∙ c.if-not-is_place.false) _ c.view_of-view.ensures in
    (v.0, c.requires.seats, v.1)

pub returns : goal.returns
unfolding is_place
returns c =
    let a = c.args in
    let farm = farm_in a.farm in
    let seats = c.requires.seats in
    let view = view_of farm a.seat a.time in
    let e = c.view_of-view.ensures in
    seen-found farm a.seat a.time (sym c.is_place.ensures ∙ c.if-not-is_place.false) _ _
    (c.put_times.ensures ∙ ap (λ (l : List ℤ). laid l no_times) (times-held a.farm.sizes.seats view _ seats e))
    (c.known_in.ensures ∙ known-held farm view _ seats e)
