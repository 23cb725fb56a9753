-- `parts::loss_reader::check_round` meets its contract. The loop's invariant: the whole round ends as what is left of it does.
-- Assumes nothing.
use Rattle.std.proofs.Common.{◌≡◌, ◌≤◌, ◌-◌, length, drop}
use Rattle.numbers.specs.Cursors.{passed_in}
use Rattle.record.specs.Losses.{first_seat, take_round}
use Rattle.farm.specs.Limits.{limits}
use Rattle.parts.proofs.loss_reader.check_round.Given as goal

abbrev pub invariant-loop-sender : goal.invariant-loop-sender
invariant-loop-sender l =
    (l.at.at ≤ length l.bytes)
    × (passed_in l.bytes (take_round limits l.seats (record { 0 = l.sender }) (l.seats - l.sender) (drop l.at.at l.bytes)) ≡ passed_in l.bytes (take_round limits l.seats first_seat l.seats (drop l.initial.at.at l.bytes)))
