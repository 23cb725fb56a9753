-- `filling::fill::fill_edits` meets its contract. The loop's invariant: what is left to take makes the four lists what they are to be.
-- Assumes nothing.
use Rattle.filling.proofs.FillLaws.{edits-start, edits-filled, edits-on, edits-give, edits-no-stop}
use Rattle.numbers.proofs.CursorLaws.{read-was-refused}
use Rattle.parts.proofs.EditSteps.{edit-was}
use Rattle.record.specs.Tables.{tables}
use Rattle.std.proofs.Common.{[], sym, ◌∙◌, rules}
use mir.ValLaws.{to_z-of_z}
use mir.Val.{SFits}
use mir.Syntax.{w16}
use Rattle.filling.proofs.fill.fill_edits.Goals as goal

pub loop-i-init : goal.loop-i-init
loop-i-init c =
    let a = c.args in
    edits-start a.bytes.now a.n a.rounds a.count (tables [] a.seats.now a.times.now a.cells.now a.changes.now) c.requires.1

pub read_accepted-requires : goal.read_accepted-requires
read_accepted-requires c = edits-give _ _ _ _ _ _ _ _ c.loop-i.invariant c.loop-i-test.true

pub returns-in_err-edit : goal.returns-in_err-edit
returns-in_err-edit c =
    absurd (edits-no-stop _ _ _ _ _ _ _ _ c.loop-i.invariant c.loop-i-test.true _
    (read-was-refused _ _ _ (sym c.read_accepted.ensures ∙ c.in_err-edit.was)))

pub loop-i-preserved : goal.loop-i-preserved
loop-i-preserved c =
    let a = c.args in
    let p = c.requires in
    let fits : SFits w16 c.in_ok-edit.edit.change = search rules in
    rw (to_z-of_z w16 c.in_ok-edit.edit.change fits)
    (edits-on _ _ _ _ _ _ _ _ c.loop-i.invariant c.loop-i-test.true p.2 p.3 p.4 p.5 _ _
    (edit-was a.n a.rounds a.bytes.now c.loop-i.at.at _ _ (sym c.read_accepted.ensures ∙ c.in_ok-edit.was)))

pub returns : goal.returns
returns c = edits-filled _ _ _ _ _ _ _ _ c.loop-i.invariant c.loop-i-test.false
