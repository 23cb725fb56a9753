-- `parts::edit_reader::check_edits` meets its contract. The loop's invariant: all edits end as what is left of them does, after the last one read.
-- Assumes nothing.
use Rattle.std.proofs.Common.{◌≡◌, ◌≤◌, ◌-◌, length, drop, None}
use Rattle.numbers.specs.Cursors.{passed_in}
use Rattle.record.specs.Edits.{take_edits}
use Rattle.farm.specs.Limits.{limits}
use Rattle.parts.proofs.edit_reader.check_edits.Given as goal

abbrev pub invariant-loop : goal.invariant-loop
invariant-loop l =
    (l.at.at ≤ length l.bytes)
    × (passed_in l.bytes (take_edits limits l.seats l.rounds (l.edits - l.counter) l.before (drop l.at.at l.bytes)) ≡ passed_in l.bytes (take_edits limits l.seats l.rounds l.edits None l.bytes))
