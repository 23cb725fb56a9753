-- `parts::loss_reader::check_round` meets its contract. The loop's invariant: the whole round ends as what is left of it does.
-- Assumes nothing.
use Rattle.parts.proofs.LossSteps.{set-was, round-on, round-stops, round-ends}
use Rattle.numbers.proofs.CursorLaws.{read-was-refused}
use Rattle.farm.specs.Limits.{limits}
use Rattle.record.proofs.RefusalLaws.{handed_up}
use Rattle.std.proofs.Common.{sym, ◌∙◌}
use Rattle.parts.proofs.loss_reader.check_round.Goals as goal

pub returns-in_err-next : goal.returns-in_err-next
returns-in_err-next c =
    let l = c.loop-sender in
    let bytes = c.args.bytes.now in
    handed_up _ _ c.from_residual.ensures.1
    ∙ sym (round-stops limits bytes c.args.seats (record { 0 = l.sender }) _ c.loop-sender-test.true _
    (read-was-refused bytes _ _ (sym c.read_set.ensures ∙ c.in_err-next.was)))
    ∙ l.invariant.1

pub loop-sender-preserved : goal.loop-sender-preserved
loop-sender-preserved c =
    let l = c.loop-sender in
    let bytes = c.args.bytes.now in
    let was = set-was c.args.seats (record { 0 = l.sender }) bytes l.at.at _ _ (sym c.read_set.ensures ∙ c.in_ok-next.was) in
    (was.inside, round-on limits bytes c.args.seats (record { 0 = l.sender }) _ c.loop-sender-test.true _ _ was.took ∙ l.invariant.1)

pub returns : goal.returns
returns c =
    let l = c.loop-sender in
    sym (round-ends limits c.args.bytes.now c.args.seats (record { 0 = l.sender }) l.at.at c.loop-sender-test.false l.invariant.0) ∙ l.invariant.1
