-- `time_lines::places::put_seats` meets its contract. The invariant of its loop: the lines of the seats passed are put, each in its
-- room, and the place at hand is that of a seat with the known set at hand. Assumes nothing.
use Rattle.std.proofs.Common.{◌*◌}
use Rattle.viewing.specs.Counts.{farm_in}
use Rattle.text.specs.Putting.{PutsWithin}
use Rattle.time_lines.specs.Places.{lines_at}
use Rattle.time_lines.specs.Printing.{count_from}
use Rattle.time_lines.proofs.LineLaws.{Shared}
use Rattle.time_lines.proofs.places.put_seats.Given as goal

abbrev pub invariant-loop-seat : goal.invariant-loop-seat
invariant-loop-seat l = record {
  put : PutsWithin (96 * l.seat) (lines_at (farm_in l.farm) (count_from l.edits.editors.now l.edits.times.now) l.time l.seat) l.at l.initial.out l.out l.end;
  asked : Shared l.farm l.edits l.sets l.time l.place l.shared;
}
