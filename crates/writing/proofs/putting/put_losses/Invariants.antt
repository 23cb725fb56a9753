-- `writing::putting::put_losses` meets its contract. The loop's invariant: what is left, put at the present place, makes the buffer that all of them make.
-- Assumes nothing.
use lib.ListN.{drop}
use Rattle.farm.specs.Limits.{limits}
use Rattle.record.specs.Losses.{loss_bytes}
use Rattle.numbers.proofs.PlacingLaws.{Owed}
use Rattle.writing.proofs.putting.put_losses.Given as goal

abbrev pub invariant-loop-set : goal.invariant-loop-set
invariant-loop-set l = Owed l.at (loss_bytes limits (drop l.set-index l.losses)) l.out l.from (loss_bytes limits l.losses) l.initial.out
