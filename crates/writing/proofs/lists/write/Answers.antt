-- `writing::lists::write` meets its contract: a refusal of the judgement goes up unchanged with the buffer untouched, and accepted lists are written.
-- Assumes nothing.
use mathlib.Core.Path.{◌≡◌, refl, sym}
use borrow.Author.Rules.{rules}
use Rattle.std.specs.Prelude.{Err}
use Rattle.farm.specs.Limits.{limits}
use Rattle.record.specs.Answers.{written_in}
use Rattle.record.specs.Lent.{tables_in}
use Rattle.record.specs.Writing.{judged, checked_lists, answered, written_to, buffer_with, buffer_after}
use Rattle.record.proofs.AcceptedLaws.{answer-accepted, answer-refused, checked-good}
use Rattle.writing.proofs.lists.write.Goals as goal

pub returns-in_err-judge : goal.returns-in_err-judge
unfolding written_in written_to answered buffer_after buffer_with checked_lists judged
returns-in_err-judge c =
    let v = answer-refused _ _ (sym c.in_err-judge.ensures) in
    let up : c.from_residual.result ≡ Err c.in_err-judge.field-0.0 = search rules in
    rw (up, v) (refl, refl)

pub invariant_of-write_accepted : goal.invariant_of-write_accepted
invariant_of-write_accepted c = record { good = answer-accepted _ (sym c.in_ok-judge.ensures) }

pub returns : goal.returns
unfolding written_to buffer_after
returns c =
    let l = c.args.lists in
    rw (checked-good l.seats l.bound l.rounds (tables_in l) limits (answer-accepted _ (sym c.in_ok-judge.ensures))) c.write_accepted.ensures
