-- The measure of `construction::settled::settle_from` is the size of the known set: a step that brings a change takes a seat out.
-- Assumes nothing.
use Rattle.farm.specs.Sets.{size}
use Rattle.construction.proofs.settled.+settle_from.Given as goal

abbrev pub decreases-settle_from : goal.decreases-settle_from
decreases-settle_from l = size l.farm.sizes.seats l.known
