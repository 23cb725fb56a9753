-- `filling::fill::fill_losses` meets its contract. The loop's invariant: what is left to take makes the table what it is to be.
-- Assumes nothing.
use Rattle.filling.proofs.FillLaws.{SetsLeft}
use Rattle.filling.proofs.fill.fill_losses.Given as goal

abbrev pub invariant-loop-i : goal.invariant-loop-i
invariant-loop-i l = SetsLeft l.bytes l.count l.at.at l.i l.initial.losses l.losses
