-- `writing::lists::length` meets its contract: the refusal of the judgement goes up unchanged, and the length of accepted lists is the record's.
-- Assumes nothing.
use mathlib.Core.Path.{◌≡◌, sym}
use borrow.Author.Rules.{rules}
use Rattle.std.specs.Prelude.{Err}
use Rattle.farm.specs.Limits.{limits}
use Rattle.record.specs.Answers.{written_in}
use Rattle.record.specs.Lent.{tables_in}
use Rattle.record.proofs.AcceptedLaws.{answer-accepted, answer-refused, needed-refused, needed-accepted}
use Rattle.writing.proofs.lists.length.Goals as goal

pub returns-in_err-judge : goal.returns-in_err-judge
unfolding written_in
returns-in_err-judge c =
    let l = c.args.lists in
    let up : c.from_residual.result ≡ Err c.in_err-judge.field-0.0 = search rules in
    rw (up, needed-refused limits l.seats l.bound l.rounds (tables_in l) _ (answer-refused _ _ (sym c.in_err-judge.ensures)))

pub invariant_of-accepted_length : goal.invariant_of-accepted_length
invariant_of-accepted_length c = record { good = answer-accepted _ (sym c.in_ok-judge.ensures) }

pub returns : goal.returns
unfolding written_in
returns c =
    let l = c.args.lists in
    rw (c.accepted_length.ensures, needed-accepted limits l.seats l.bound l.rounds (tables_in l) (answer-accepted _ (sym c.in_ok-judge.ensures)))
