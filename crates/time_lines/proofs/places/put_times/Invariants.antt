-- `time_lines::places::put_times` meets its contract. The invariant of its loop: the lines of the times passed are put, those of each
-- time in its room. Assumes nothing.
use Rattle.std.proofs.Common.{◌*◌}
use Rattle.viewing.specs.Counts.{farm_in}
use Rattle.text.specs.Putting.{PutsWithin}
use Rattle.time_lines.specs.Places.{lines_of}
use Rattle.time_lines.specs.Printing.{count_from}
use Rattle.time_lines.proofs.places.put_times.Given as goal

abbrev pub invariant-loop-time : goal.invariant-loop-time
invariant-loop-time l =
    PutsWithin (672 * l.time) (lines_of (farm_in l.farm) (count_from l.edits.editors.now l.edits.times.now) l.time) l.at l.initial.out l.out l.end
