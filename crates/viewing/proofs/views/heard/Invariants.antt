-- `viewing::views::heard` meets its contract: before seat s the set has those below s whose send arrived.
-- Assumes nothing.
use Rattle.viewing.specs.Counts.{arrives, farm_in}
use Rattle.farm.specs.Sets.{collect}
use Prim.Native.Nat.{suc}
use mathlib.Core.Path.{◌≡◌}
use Rattle.viewing.proofs.views.heard.Given as goal

abbrev pub invariant-loop-s : goal.invariant-loop-s
invariant-loop-s l = l.set ≡ collect l.s (arrives (farm_in l.farm) (suc l.begun.0) l.by.0)
