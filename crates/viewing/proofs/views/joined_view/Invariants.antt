-- `viewing::views::joined_view` meets its contract: before seat q the array has the joined counts of the seats below q.
-- Assumes nothing.
use Rattle.viewing.specs.Counts.{room, filled, view_in}
use Rattle.knowledge.specs.Views.{joined}
use Rattle.farm.specs.Sets.{bit}
use mathlib.Core.Path.{◌≡◌}
use Rattle.viewing.proofs.views.joined_view.Given as goal

abbrev pub invariant-loop-q : goal.invariant-loop-q
invariant-loop-q l = l.view ≡ filled room l.q (joined l.seats (bit l.set) (view_in l.views))
