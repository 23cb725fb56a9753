-- `viewing::views::join_row` meets its contract: before seat q the row has joined the counts of the seats below q.
-- Assumes nothing.
use Rattle.viewing.specs.Counts.{room, below, counts, held, both, view_in}
use mathlib.Core.Path.{◌≡◌}
use Rattle.viewing.proofs.views.join_row.Given as goal

abbrev pub invariant-loop-q : goal.invariant-loop-q
invariant-loop-q l = l.view ≡ counts room (both (held l.initial.view) (below l.q (view_in l.views l.p.0)))
