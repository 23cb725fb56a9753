-- `construction::sets::size_of` meets its contract.
-- Assumes nothing.
use mathlib.Core.Path.{◌≡◌}
use Rattle.farm.specs.Sets.{size}
use Rattle.construction.proofs.sets.size_of.Given as goal

abbrev pub invariant-loop-q : goal.invariant-loop-q
invariant-loop-q l = l.members ≡ size l.q l.set
