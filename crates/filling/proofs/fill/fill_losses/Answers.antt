-- `filling::fill::fill_losses` meets its contract. The loop's invariant: what is left to take makes the table what it is to be.
-- Assumes nothing.
use Rattle.filling.proofs.FillLaws.{sets-start, sets_end, sets-on, sets-no-stop}
use Rattle.numbers.proofs.CursorLaws.{number-was, number-was-refused}
use Rattle.std.proofs.Common.{sym, ◌∙◌}
use Rattle.filling.proofs.fill.fill_losses.Goals as goal

pub loop-i-init : goal.loop-i-init
loop-i-init c = sets-start c.args.bytes.now c.args.count c.args.losses.now c.requires.0 c.requires.1

pub returns-in_err-set : goal.returns-in_err-set
returns-in_err-set c =
    absurd (sets-no-stop _ _ _ _ _ _ c.loop-i.invariant c.loop-i-test.true _
    (number-was-refused _ _ _ (sym c.read_number.ensures ∙ c.in_err-set.was)))

pub overflow_cast-losses : goal.overflow_cast-losses
overflow_cast-losses c =
    let was = number-was _ _ _ _ (sym c.read_number.ensures ∙ c.in_ok-set.was) in
    record { fits = (sets-on _ _ _ _ _ _ c.loop-i.invariant c.loop-i-test.true c.requires.2 _ _ was).0 }

pub loop-i-preserved : goal.loop-i-preserved
loop-i-preserved c =
    let was = number-was _ _ _ _ (sym c.read_number.ensures ∙ c.in_ok-set.was) in
    (sets-on _ _ _ _ _ _ c.loop-i.invariant c.loop-i-test.true c.requires.2 _ _ was).1

pub returns : goal.returns
returns c = sets_end _ _ _ _ _ _ c.loop-i.invariant c.loop-i-test.false
