-- `filling::fill::read_accepted` meets its contract: the four fields that were taken stand one after the other, and none of them is refused.
-- Assumes nothing.
use Rattle.filling.proofs.AgainLaws.{field-again, not-refused, seat-gives, time-gives, cell-gives, change-gives}
use Rattle.numbers.proofs.CursorLaws.{Field, cursor-drop}
use Rattle.numbers.specs.Cursors.{read_in}
use Rattle.numbers.specs.declared.read.Cursor.{Cursor}
use Rattle.record.specs.Edits.{take_edit}
use Rattle.record.specs.Taking.{◌>>=◌}
use Rattle.record.specs.declared.edits.Edit.{Edit}
use Rattle.farm.specs.declared.refusals.Refusal.{Refusal}
use Rattle.std.proofs.Common.{ℤ, ◌-◌, Result, Ok, arith, ap, ◌∙◌}
use mir.ValLaws.{to_z-of_z}
use mir.Syntax.{w16}
use Rattle.filling.proofs.fill.read_accepted.Goals as goal
use Rattle.filling.proofs.fill.read_accepted.Goals.{In-Ok, In-Ok-t, In-Ok-c, In-Ok-d}

-- ════ What a number that was read again tells ════

seat : (c : In-Ok) → Field 0 (c.args.n - 1) c.args.bytes.now c.args.from.at c.in-Ok.seat c.in-Ok.after_seat.at
seat c = field-again _ _ _ _ (seat-gives c.args.n c.args.rounds c.args.bytes.now c.args.from.at c.requires) _ c.read_number-s.ensures _ _ c.in-Ok.is

time : (c : In-Ok-t) → Field 0 c.args.rounds c.args.bytes.now c.in-Ok.after_seat.at c.in-Ok-t.time c.in-Ok-t.after_time.at
time c =
    let s = seat (goal.at.In-Ok-t c).In-Ok in
    field-again _ _ _ _ (time-gives c.args.n c.args.rounds c.args.bytes.now c.args.from.at c.requires _ c.in-Ok.after_seat.at s.took) _ c.read_number-t.ensures _ _ c.in-Ok-t.is

cell : (c : In-Ok-c) → Field 0 65535 c.args.bytes.now c.in-Ok-t.after_time.at c.in-Ok-c.cell c.in-Ok-c.after_cell.at
cell c =
    let at = goal.at.In-Ok-c c in
    let s = seat at.In-Ok in
    let t = time at.In-Ok-t in
    field-again _ _ _ _ (cell-gives c.args.n c.args.rounds c.args.bytes.now c.args.from.at c.requires _ c.in-Ok.after_seat.at s.took _ c.in-Ok-t.after_time.at t.took)
    _ c.read_number-c.ensures _ _ c.in-Ok-c.is

change : (c : In-Ok-d) → Field 0 65535 c.args.bytes.now c.in-Ok-c.after_cell.at c.in-Ok-d.change c.in-Ok-d.after_change.at
change c =
    let at = goal.at.In-Ok-d c in
    let s = seat at.In-Ok in
    let t = time at.In-Ok-t in
    let k = cell at.In-Ok-c in
    field-again _ _ _ _
    (change-gives c.args.n c.args.rounds c.args.bytes.now c.args.from.at c.requires _ c.in-Ok.after_seat.at s.took _ c.in-Ok-t.after_time.at t.took
    _ c.in-Ok-c.after_cell.at k.took)
    _ c.read_number-d.ensures _ _ c.in-Ok-d.is

-- ════ No refusal ════

pub returns-in_default : goal.returns-in_default
returns-in_default c =
    absurd (not-refused _ _ _ _ (seat-gives c.args.n c.args.rounds c.args.bytes.now c.args.from.at c.requires) _ c.read_number-s.ensures _ c.unwrap_err.ensures)

pub returns-in_default-t : goal.returns-in_default-t
returns-in_default-t c =
    let s = seat (goal.at.returns-in_default-t c).In-Ok in
    absurd (not-refused _ _ _ _ (time-gives c.args.n c.args.rounds c.args.bytes.now c.args.from.at c.requires _ c.in-Ok.after_seat.at s.took) _ c.read_number-t.ensures
    _ c.unwrap_err-in_default-t.ensures)

pub returns-in_default-c : goal.returns-in_default-c
returns-in_default-c c =
    let at = goal.at.returns-in_default-c c in
    let s = seat at.In-Ok in
    let t = time at.In-Ok-t in
    absurd (not-refused _ _ _ _
    (cell-gives c.args.n c.args.rounds c.args.bytes.now c.args.from.at c.requires _ c.in-Ok.after_seat.at s.took _ c.in-Ok-t.after_time.at t.took) _ c.read_number-c.ensures
    _ c.unwrap_err-in_default-c.ensures)

pub returns-in_default-d : goal.returns-in_default-d
returns-in_default-d c =
    let at = goal.at.returns-in_default-d c in
    let s = seat at.In-Ok in
    let t = time at.In-Ok-t in
    let k = cell at.In-Ok-c in
    absurd (not-refused _ _ _ _
    (change-gives c.args.n c.args.rounds c.args.bytes.now c.args.from.at c.requires _ c.in-Ok.after_seat.at s.took _ c.in-Ok-t.after_time.at t.took
    _ c.in-Ok-c.after_cell.at k.took)
    _ c.read_number-d.ensures _ c.unwrap_err-in_default-d.ensures)

-- ════ The edit ════

pub overflow_cast-edit : goal.overflow_cast-edit
overflow_cast-edit c = omega (arith, c.ranges.n, (seat (goal.at.overflow_cast-edit c).In-Ok).below)

pub overflow_cast-edit-2 : goal.overflow_cast-edit-2
overflow_cast-edit-2 c = omega (arith, c.ranges.rounds, (time (goal.at.overflow_cast-edit-2 c).In-Ok-t).below)

pub overflow_cast-change : goal.overflow_cast-change
overflow_cast-change c = omega (arith, (change (goal.at.overflow_cast-change c).In-Ok-d).below)

pub returns : goal.returns
unfolding read_in take_edit ◌>>=◌
returns c =
    let at = goal.at.returns c in
    let last = change at.In-Ok-d in
    let answer : ℤ → Result (Edit × Cursor) Refusal =
    λ z. Ok (record { seat = record { 0 = c.in-Ok.seat }; time = record { 0 = c.in-Ok-t.time }; cell = c.in-Ok-c.cell; change = z }, c.in-Ok-d.after_change) in
    rw ((seat at.In-Ok).took, (time at.In-Ok-t).took, (cell at.In-Ok-c).took, last.took, cursor-drop _ _ last.inside)
    (ap answer (to_z-of_z w16 c.unmap_change.result (record { sfits = c.unmap_change.type_inv }) ∙ c.unmap_change.ensures))
