-- `viewing::views::next_views` meets its contract: before seat p the table has the views of the seats below p.
-- Assumes nothing.
use Rattle.viewing.specs.Counts.{views_to, farm_in}
use Prim.Native.Nat.{suc}
use mathlib.Core.Path.{◌≡◌}
use Rattle.viewing.proofs.views.next_views.Given as goal

abbrev pub invariant-loop-p : goal.invariant-loop-p
invariant-loop-p l = l.next ≡ views_to (farm_in l.farm) (suc l.begun.0) l.p
