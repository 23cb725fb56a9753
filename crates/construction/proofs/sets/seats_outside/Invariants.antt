-- `construction::sets::seats_outside` meets its contract.
-- Assumes nothing.
use mathlib.Core.Path.{◌≡◌}
use Rattle.farm.specs.Sets.{outside}
use Rattle.construction.proofs.sets.seats_outside.Given as goal

abbrev pub invariant-loop-q : goal.invariant-loop-q
invariant-loop-q l = l.out ≡ outside l.q l.set
