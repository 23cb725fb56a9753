-- `list_questions::carrier::check_lists` meets its contract: the lists' refusal, or the header of the record that they are.
-- Assumes nothing.
use Rattle.carriers.proofs.CarriedLaws.{lists-carried-bad, lists-carried-good}
use Rattle.carriers.proofs.RecordLaws.{lists-good}
use Rattle.std.proofs.lemmas.Result.{err_from_is_err_and}
use native.Mathlib.Omega.{arith}
use Rattle.list_questions.proofs.carrier.check_lists.Goals as goal

pub returns-in_err-judge : goal.returns-in_err-judge
returns-in_err-judge c =
    let up = err_from_is_err_and c.from_residual.result c.from_residual.ensures.1 in
    rw (up.1, up.2) (lists-carried-bad _ _ _ _ _ c.in_err-judge.ensures)

pub overflow_cast-result : goal.overflow_cast-result
overflow_cast-result c = let few = (lists-good _ _ _ _ c.in_ok-judge.ensures).few in omega arith

pub returns : goal.returns
returns c = lists-carried-good _ _ _ _ c.in_ok-judge.ensures
