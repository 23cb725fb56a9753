-- `parts::edit_reader::check_edits` meets its contract. The loop's invariant: all edits end as what is left of them does, after the last one read.
-- Assumes nothing.
use Rattle.parts.proofs.EditSteps.{edit-was, edits-on, edits-stop, edits-disorder, edits-end}
use Rattle.numbers.proofs.CursorLaws.{read-was-refused}
use Rattle.farm.specs.Limits.{limits}
use Rattle.record.proofs.RefusalLaws.{handed_up}
use Rattle.std.proofs.Common.{sym, ◌∙◌}
use Rattle.parts.proofs.edit_reader.check_edits.Goals as goal

pub returns-in_err-edit : goal.returns-in_err-edit
returns-in_err-edit c =
    let a = c.args in
    let l = c.loop in
    let bytes = a.bytes.now in
    handed_up _ _ c.from_residual.ensures.1
    ∙ sym (edits-stop limits bytes a.seats a.rounds a.edits l.counter l.before _ c.loop-test.true _
    (read-was-refused bytes _ _ (sym c.read_edit.ensures ∙ c.in_err-edit.was)))
    ∙ l.invariant.1

pub returns-then-not-comes_after : goal.returns-then-not-comes_after
returns-then-not-comes_after c =
    let a = c.args in
    let l = c.loop in
    let bytes = a.bytes.now in
    let was = edit-was a.seats a.rounds bytes l.at.at _ _ (sym c.read_edit.ensures ∙ c.in_ok-edit.was) in
    sym (edits-disorder limits bytes a.seats a.rounds a.edits l.counter l.before _ c.loop-test.true _ _
    was.took (sym c.comes_after.ensures ∙ c.if-not-comes_after.true))
    ∙ l.invariant.1

pub loop-preserved : goal.loop-preserved
loop-preserved c =
    let a = c.args in
    let l = c.loop in
    let bytes = a.bytes.now in
    let was = edit-was a.seats a.rounds bytes l.at.at _ _ (sym c.read_edit.ensures ∙ c.in_ok-edit.was) in (
      was.inside,
      edits-on limits bytes a.seats a.rounds a.edits l.counter l.before _ c.loop-test.true _ _
          was.took (sym c.comes_after.ensures ∙ c.if-not-comes_after.false) ∙ l.invariant.1,
    )

pub returns : goal.returns
returns c =
    let a = c.args in
    let l = c.loop in
    sym (edits-end limits a.bytes.now a.seats a.rounds a.edits l.counter l.before l.at.at c.loop-test.false l.invariant.0) ∙ l.invariant.1
