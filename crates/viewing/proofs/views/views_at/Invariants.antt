-- `viewing::views::views_at` meets its contract: before round k + 1 the table has the views at time k.
-- Assumes nothing.
use Rattle.viewing.specs.Counts.{all_counts, farm_in}
use mathlib.Core.Path.{◌≡◌}
use Rattle.viewing.proofs.views.views_at.Given as goal

abbrev pub invariant-loop-k : goal.invariant-loop-k
invariant-loop-k l = l.views.of ≡ all_counts (farm_in l.farm) l.k
