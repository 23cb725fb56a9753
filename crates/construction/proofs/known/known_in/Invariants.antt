-- `construction::known::known_in` meets its contract: before seat z the set has the known seats below z.
-- Assumes nothing.
use Rattle.knowledge.specs.Known.{missed}
use Rattle.viewing.specs.Counts.{farm_in, held}
use Rattle.farm.specs.Sets.{collect}
use mathlib.Core.Path.{◌≡◌}
use Rattle.construction.proofs.known.known_in.Given as goal

abbrev pub invariant-loop-z : goal.invariant-loop-z
invariant-loop-z l = l.set ≡ collect l.z (missed (farm_in l.farm) (held l.view))
