-- `parts::edit_reader::read_edit` meets its contract: the four fields stand one after the other, and the first refusal is the edit's.
-- Assumes nothing.
use Rattle.numbers.proofs.CursorLaws.{field-was, field-refused, cursor-drop}
use Rattle.numbers.specs.Cursors.{read_in}
use Rattle.record.specs.Edits.{take_edit}
use Rattle.record.specs.Taking.{◌>>=◌}
use Rattle.record.specs.declared.edits.Edit.{Edit}
use Rattle.numbers.specs.declared.read.Cursor.{Cursor}
use Rattle.std.proofs.Common.{ℤ, Result, Ok, arith, ap, ◌∙◌}
use Rattle.farm.specs.declared.refusals.Refusal.{Refusal}
use mir.ValLaws.{to_z-of_z}
use mir.Syntax.{w16}
use Rattle.parts.proofs.edit_reader.read_edit.Goals as goal

pub returns-in_default : goal.returns-in_default
unfolding read_in take_edit ◌>>=◌
returns-in_default c = rw (field-refused _ _ _ _ _ _ c.read_within-s.ensures c.unwrap_err.ensures)

pub returns-in_default-t : goal.returns-in_default-t
unfolding read_in take_edit ◌>>=◌
returns-in_default-t c =
    rw (
      (field-was _ _ _ _ _ _ _ c.read_within-s.ensures c.in-Ok.is).took,
      field-refused _ _ _ _ _ _ c.read_within-t.ensures c.unwrap_err-in_default-t.ensures,
    )

pub returns-in_default-c : goal.returns-in_default-c
unfolding read_in take_edit ◌>>=◌
returns-in_default-c c =
    rw (
      (field-was _ _ _ _ _ _ _ c.read_within-s.ensures c.in-Ok.is).took,
      (field-was _ _ _ _ _ _ _ c.read_within-t.ensures c.in-Ok-t.is).took,
      field-refused _ _ _ _ _ _ c.read_within-c.ensures c.unwrap_err-in_default-c.ensures,
    )

pub returns-in_default-d : goal.returns-in_default-d
unfolding read_in take_edit ◌>>=◌
returns-in_default-d c =
    rw (
      (field-was _ _ _ _ _ _ _ c.read_within-s.ensures c.in-Ok.is).took,
      (field-was _ _ _ _ _ _ _ c.read_within-t.ensures c.in-Ok-t.is).took,
      (field-was _ _ _ _ _ _ _ c.read_within-c.ensures c.in-Ok-c.is).took,
      field-refused _ _ _ _ _ _ c.read_within-d.ensures c.unwrap_err-in_default-d.ensures,
    )

pub overflow_cast-edit : goal.overflow_cast-edit
overflow_cast-edit c = omega (arith, c.ranges.seats, (field-was _ _ _ _ _ _ _ c.read_within-s.ensures c.in-Ok.is).below)

pub overflow_cast-edit-2 : goal.overflow_cast-edit-2
overflow_cast-edit-2 c = omega (arith, c.ranges.rounds, (field-was _ _ _ _ _ _ _ c.read_within-t.ensures c.in-Ok-t.is).below)

pub overflow_cast-change : goal.overflow_cast-change
overflow_cast-change c = omega (arith, (field-was _ _ _ _ _ _ _ c.read_within-d.ensures c.in-Ok-d.is).below)

pub returns : goal.returns
unfolding read_in take_edit ◌>>=◌
returns c =
    let last = field-was _ _ _ _ _ _ _ c.read_within-d.ensures c.in-Ok-d.is in
    let answer : ℤ → Result (Edit × Cursor) Refusal =
    λ z. Ok (record { seat = record { 0 = c.in-Ok.seat }; time = record { 0 = c.in-Ok-t.time }; cell = c.in-Ok-c.cell; change = z }, c.in-Ok-d.after_change) in
    rw (
      (field-was _ _ _ _ _ _ _ c.read_within-s.ensures c.in-Ok.is).took,
      (field-was _ _ _ _ _ _ _ c.read_within-t.ensures c.in-Ok-t.is).took,
      (field-was _ _ _ _ _ _ _ c.read_within-c.ensures c.in-Ok-c.is).took,
      last.took,
      cursor-drop _ _ last.inside,
    )
    (ap answer (to_z-of_z w16 c.unmap_change.result (record { sfits = c.unmap_change.type_inv }) ∙ c.unmap_change.ensures))
