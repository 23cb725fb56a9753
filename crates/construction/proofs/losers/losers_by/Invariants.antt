-- `construction::losers::losers_by` meets its contract: before seat z the set has the losers below z.
-- Assumes nothing.
use Rattle.knowledge.specs.Farm.{loses_by}
use Rattle.viewing.specs.Counts.{farm_in}
use Rattle.farm.specs.Sets.{collect}
use mathlib.Core.Path.{◌≡◌}
use Rattle.construction.proofs.losers.losers_by.Given as goal

abbrev pub invariant-loop-z : goal.invariant-loop-z
invariant-loop-z l = l.set ≡ collect l.z (loses_by (farm_in l.farm) l.time.0)
