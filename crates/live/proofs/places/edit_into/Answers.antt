-- `live::places::edit_into` meets its contract: what the tests answer decides whether the edit goes behind those held.
-- Assumes nothing.
use mathlib.Core.Path.{◌≡◌, sym, ap}
use native.Mathlib.Omega.{arith}
use mir.Syntax.{w16}
use mir.ValLaws.{to_z-of_z}
use borrow.Author.Rules.{rules}
use Rattle.std.specs.Prelude.{Err}
use Rattle.live_table.specs.declared.table.Table.{Table}
use Rattle.live.specs.Calls.{edit}
use Rattle.live.proofs.StepLaws.{was-accepted, edit-has-room, refused-ends, accepted-ends}
use Rattle.live.proofs.places.edit_into.Goals as goal

pub returns-in_err-answer_edit : goal.returns-in_err-answer_edit
returns-in_err-answer_edit c =
    let a = c.args in
    let up : c.from_residual.result ≡ Err c.in_err-answer_edit.field-0.0 = search rules in
    let said = rw (to_z-of_z w16 a.change c.ranges.change) at c.in_err-answer_edit.ensures in
    rw up (refused-ends (edit a.seat a.cell a.change) a.table.now _ (sym said))

pub put_edit-requires : goal.put_edit-requires
put_edit-requires c =
    let a = c.args in
    edit-has-room a.seat a.cell _ a.table.now (was-accepted _ _ (sym c.in_ok-answer_edit.ensures))

pub overflow_add-table : goal.overflow_add-table
overflow_add-table c =
    let a = c.args in
    let room = edit-has-room a.seat a.cell _ a.table.now (was-accepted _ _ (sym c.in_ok-answer_edit.ensures)) in
    omega (arith, ap (λ (t : Table). t.edits) c.put_edit.ensures)

pub returns : goal.returns
returns c =
    let a = c.args in
    let kept = to_z-of_z w16 a.change c.ranges.change in
    let said = rw kept at c.in_ok-answer_edit.ensures in
    let put = rw kept at c.put_edit.ensures in
    accepted-ends (edit a.seat a.cell a.change) a.table.now _ (rw put) (sym said)
