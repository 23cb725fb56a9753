-- `construction::known::known_sets` meets its contract: before seat p the array has the known sets of the seats below p.
-- Assumes nothing.
use Rattle.construction.proofs.KnownSteps.{known_from}
use Rattle.viewing.specs.Counts.{room, filled, farm_in}
use mathlib.Core.Path.{◌≡◌}
use Rattle.construction.proofs.known.known_sets.Given as goal

abbrev pub invariant-loop-p : goal.invariant-loop-p
invariant-loop-p l = l.sets ≡ filled room l.p (known_from (farm_in l.farm) l.views.of)
