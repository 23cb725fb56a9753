-- `construction::settled::settle` meets its contract: rule 6 decides, and the asking seat's own known set begins the steps.
-- Assumes nothing.
use Rattle.construction.proofs.SettleSteps.{own-shrinks}
use Prim.Native.Nat.{◌≤◌}
use native.Mathlib.Omega.{arith}
use Rattle.farm.specs.Sets.{size}
use Rattle.viewing.specs.Counts.{farm_in}
use Rattle.construction.proofs.settled.settle.Goals as goal

pub settle_from-requires-clause-shrinks : goal.settle_from-requires-clause-shrinks
settle_from-requires-clause-shrinks c =
    let a = c.args in
    let within : size a.farm.sizes.seats c.known_of-known.result ≤ a.farm.sizes.bound = omega (arith, c.size_of.ensures) in
    own-shrinks (farm_in a.farm) c.requires.1 a.seat a.time c.requires.2 c.known_of-known.result c.known_of-known.ensures within
