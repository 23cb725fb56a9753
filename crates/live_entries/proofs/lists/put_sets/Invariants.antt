-- `live_entries::lists::put_sets` meets its contract. The loop's invariant: the sets of the senders so far are pasted in.
-- Assumes nothing.
use mathlib.Core.Path.{◌≡◌}
use lib.ListN.{length}
use lib.Seq.{paste}
use Rattle.live_entries.proofs.lists.put_sets.Given as goal

abbrev pub invariant-loop-sender : goal.invariant-loop-sender
invariant-loop-sender l = (length l.losses ≡ length l.initial.losses) × (l.losses ≡ paste l.initial.losses l.at l.sets l.sender)
