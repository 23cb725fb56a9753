-- `judging::lists::good_losses` meets its contract. The loop's invariant: all the sets are good if what is left of them is, from the sender that comes next.
-- Assumes nothing.
use mathlib.Core.Path.{◌≡◌}
use Prim.Native.Nat.{◌<◌}
use lib.ListN.{drop}
use Rattle.record.specs.Losses.{first_seat}
use Rattle.record.specs.Good.{good_sets}
use Rattle.judging.proofs.lists.good_losses.Given as goal

abbrev pub invariant-loop-set : goal.invariant-loop-set
invariant-loop-set l = (l.sender.0 < l.seats) × (good_sets l.seats l.sender (drop l.set-index l.losses) ≡ good_sets l.seats first_seat l.losses)
