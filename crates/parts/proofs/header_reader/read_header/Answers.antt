-- `parts::header_reader::read_header` meets its contract: the four fields stand one after the other, and the first refusal is the header's.
-- Assumes nothing.
use Rattle.numbers.proofs.CursorLaws.{field-was, field-refused, cursor-drop}
use Rattle.numbers.specs.Cursors.{read_in}
use Rattle.record.specs.Header.{take_header}
use Rattle.record.specs.Taking.{◌>>=◌}
use Rattle.std.proofs.Common.{◌-◌, arith}
use Rattle.parts.proofs.header_reader.read_header.Goals as goal

pub returns-in_default : goal.returns-in_default
unfolding read_in take_header ◌>>=◌
returns-in_default c = rw (field-refused _ _ _ _ _ _ c.read_within-n.ensures c.unwrap_err.ensures)

pub overflow_sub-seats : goal.overflow_sub-seats
overflow_sub-seats c = omega (arith, (field-was _ _ _ _ _ _ _ c.read_within-n.ensures c.in-Ok.is).above)

pub returns-in_default-t : goal.returns-in_default-t
unfolding read_in take_header ◌>>=◌
returns-in_default-t c =
    rw (
      (field-was _ _ _ _ _ _ _ c.read_within-n.ensures c.in-Ok.is).took,
      field-refused 0 (c.in-Ok.seats - 1) _ _ _ _ c.read_within-t.ensures c.unwrap_err-in_default-t.ensures,
    )

pub returns-in_default-r : goal.returns-in_default-r
unfolding read_in take_header ◌>>=◌
returns-in_default-r c =
    rw (
      (field-was _ _ _ _ _ _ _ c.read_within-n.ensures c.in-Ok.is).took,
      (field-was 0 (c.in-Ok.seats - 1) _ _ _ _ _ c.read_within-t.ensures c.in-Ok-t.is).took,
      field-refused _ _ _ _ _ _ c.read_within-r.ensures c.unwrap_err-in_default-r.ensures,
    )

pub returns-in_default-e : goal.returns-in_default-e
unfolding read_in take_header ◌>>=◌
returns-in_default-e c =
    rw (
      (field-was _ _ _ _ _ _ _ c.read_within-n.ensures c.in-Ok.is).took,
      (field-was 0 (c.in-Ok.seats - 1) _ _ _ _ _ c.read_within-t.ensures c.in-Ok-t.is).took,
      (field-was _ _ _ _ _ _ _ c.read_within-r.ensures c.in-Ok-r.is).took,
      field-refused _ _ _ _ _ _ c.read_within-e.ensures c.unwrap_err-in_default-e.ensures,
    )

pub overflow_cast-header : goal.overflow_cast-header
overflow_cast-header c = omega (arith, (field-was _ _ _ _ _ _ _ c.read_within-n.ensures c.in-Ok.is).below)

pub overflow_cast-header-2 : goal.overflow_cast-header-2
overflow_cast-header-2 c =
    omega (arith, (field-was _ _ _ _ _ _ _ c.read_within-n.ensures c.in-Ok.is).below, (field-was 0 (c.in-Ok.seats - 1) _ _ _ _ _ c.read_within-t.ensures c.in-Ok-t.is).below)

pub overflow_cast-header-3 : goal.overflow_cast-header-3
overflow_cast-header-3 c = omega (arith, (field-was _ _ _ _ _ _ _ c.read_within-r.ensures c.in-Ok-r.is).below)

pub overflow_cast-header-4 : goal.overflow_cast-header-4
overflow_cast-header-4 c = omega (arith, (field-was _ _ _ _ _ _ _ c.read_within-e.ensures c.in-Ok-e.is).below)

pub returns : goal.returns
unfolding read_in take_header ◌>>=◌
returns c =
    let last = field-was _ _ _ _ _ _ _ c.read_within-e.ensures c.in-Ok-e.is in
    rw (
      (field-was _ _ _ _ _ _ _ c.read_within-n.ensures c.in-Ok.is).took,
      (field-was 0 (c.in-Ok.seats - 1) _ _ _ _ _ c.read_within-t.ensures c.in-Ok-t.is).took,
      (field-was _ _ _ _ _ _ _ c.read_within-r.ensures c.in-Ok-r.is).took,
      last.took,
      cursor-drop _ _ last.inside,
    )
