-- `viewing::views::seat_view` meets its contract: before seat q the array has the counts of the seats below q.
-- Assumes nothing.
use Rattle.viewing.specs.Counts.{room, filled, view_in}
use mathlib.Core.Path.{◌≡◌}
use Rattle.viewing.proofs.views.seat_view.Given as goal

abbrev pub invariant-loop-q : goal.invariant-loop-q
invariant-loop-q l = l.view ≡ filled room l.q (view_in l.views l.seat.0)
