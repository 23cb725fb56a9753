-- `parts::loss_reader::check_losses` meets its contract. The loop's invariant: all rounds end as what is left of them does.
-- Assumes nothing.
use Rattle.parts.proofs.LossSteps.{round-was, rounds-on, rounds-stop, rounds-end}
use Rattle.numbers.proofs.CursorLaws.{passed-was-refused}
use Rattle.farm.specs.Limits.{limits}
use Rattle.record.proofs.RefusalLaws.{handed_up}
use Rattle.std.proofs.Common.{sym, ◌∙◌}
use Rattle.parts.proofs.loss_reader.check_losses.Goals as goal

pub returns-in_err-at : goal.returns-in_err-at
returns-in_err-at c =
    let a = c.args in
    let bytes = a.bytes.now in
    handed_up _ _ c.from_residual.ensures.1
    ∙ sym (rounds-stop limits bytes a.seats a.rounds c.loop.counter _ c.loop-test.true _
    (passed-was-refused bytes _ _ (sym c.check_round.ensures ∙ c.in_err-at.was)))
    ∙ c.loop.invariant.1

pub loop-preserved : goal.loop-preserved
loop-preserved c =
    let a = c.args in
    let bytes = a.bytes.now in
    let was = round-was a.seats bytes c.loop.at.at _ (sym c.check_round.ensures ∙ c.in_ok-at.was) in
    (was.1.inside, rounds-on limits bytes a.seats a.rounds c.loop.counter _ c.loop-test.true _ _ was.1.took ∙ c.loop.invariant.1)

pub returns : goal.returns
returns c =
    let a = c.args in
    let l = c.loop in
    sym (rounds-end limits a.bytes.now a.seats a.rounds l.counter l.at.at c.loop-test.false l.invariant.0) ∙ l.invariant.1
