-- `questions::views::ask_view_into` meets its contract: 8, 7, or the view's latest times at the buffer's front.
-- Assumes nothing.
use Rattle.questions.proofs.AskLaws.{view-found, view-in-limits}
use Rattle.questions.proofs.BufferLaws.{found-fills}
use Rattle.telling.proofs.TimeLaws.{times-held}
use Rattle.telling.specs.Laid.{laid}
use Rattle.questions.specs.Question.{is_place}
use Rattle.viewing.specs.Counts.{farm_in}
use Rattle.knowledge.specs.Views.{view_of}
use lib.IntN.{ℤ}
use lib.ListN.{length}
use mathlib.Core.List.{List}
use mathlib.Core.Path.{sym, ◌∙◌, ap}
use Rattle.questions.proofs.views.ask_view_into.Goals as goal

pub put_times-requires : goal.put_times-requires
unfolding is_place
put_times-requires c =
    let a = c.args in
    let v = view-in-limits a.farm.sizes a.farm.losses.now c.requires a.seat a.time (sym c.is_place.ensures ∙ c.if-not-is_place.false) _ c.view_of-view.ensures in
    (v.0, c.if-out-farm.false, v.1)

pub returns : goal.returns
unfolding is_place
returns c =
    let a = c.args in
    let farm = farm_in a.farm in
    found-fills _ a.out.now _ _
    (view-found farm a.seat a.time (length a.out.now) (sym c.is_place.ensures ∙ c.if-not-is_place.false) c.if-out-farm.false)
    (c.put_times.ensures
    ∙ ap (λ (l : List ℤ). laid l a.out.now) (times-held a.farm.sizes.seats (view_of farm a.seat a.time) _ c.requires.seats c.view_of-view.ensures))
