-- `parts::loss_reader::check_losses` meets its contract. The loop's invariant: all rounds end as what is left of them does.
-- Assumes nothing.
use Rattle.std.proofs.Common.{◌≡◌, ◌≤◌, ◌-◌, length, drop}
use Rattle.numbers.specs.Cursors.{passed_in}
use Rattle.record.specs.Losses.{take_rounds}
use Rattle.farm.specs.Limits.{limits}
use Rattle.parts.proofs.loss_reader.check_losses.Given as goal

abbrev pub invariant-loop : goal.invariant-loop
invariant-loop l =
    (l.at.at ≤ length l.bytes)
    × (passed_in l.bytes (take_rounds limits l.seats (l.rounds - l.counter) (drop l.at.at l.bytes)) ≡ passed_in l.bytes (take_rounds limits l.seats l.rounds l.bytes))
