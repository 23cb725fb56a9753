-- `time_lines::places::put_line` meets its contract: the line of a place that was refused, or of its numbers, in room that was asked for.
-- Assumes nothing.
use Rattle.time_lines.specs.Printing.{line_in}
use Rattle.time_lines.proofs.LineLaws.{printed-put}
use Rattle.time_lines.proofs.places.put_line.Goals as goal

pub returns-in_default : goal.returns-in_default
unfolding line_in
returns-in_default c =
    rw (c.in_default.is, ← c.holds-loser.ensures)
    (printed-put c.requires c.over_line.ensures c.unwrap.ensures)

pub returns : goal.returns
unfolding line_in
returns c =
    rw (c.in-Ok.is, ← c.holds-loser.ensures, ← c.line_of-line.ensures)
    (printed-put c.requires c.place_line.ensures c.unwrap-2.ensures)
