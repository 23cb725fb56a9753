-- `viewing::views::fill_view` meets its contract: before seat q the table has p's counts of the seats below q.
-- Assumes nothing.
use Rattle.viewing.specs.Counts.{room, counts_to, farm_in}
use Prim.Native.Nat.{suc, ◌+◌, ◌*◌}
use mathlib.Core.Path.{◌≡◌}
use Rattle.viewing.proofs.views.fill_view.Given as goal

abbrev pub invariant-loop-q : goal.invariant-loop-q
invariant-loop-q l = l.next ≡ counts_to (farm_in l.farm) (suc l.begun.0) (l.p.0 * room + l.q)
