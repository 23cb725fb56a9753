-- `live_questions::carrier::check_table` meets its contract: 19, or the header of the record in the used part.
-- Assumes nothing.
use Rattle.live_questions.proofs.CarriedLaws.{carried-bad, carried-good}
use mathlib.Core.Path.{sym, ◌∙◌}
use Rattle.live_questions.proofs.carrier.check_table.Goals as goal

pub returns-then-not-judge_table : goal.returns-then-not-judge_table
returns-then-not-judge_table c = carried-bad _ _ _ _ (sym c.judge_table.ensures ∙ c.if-not-judge_table.true)

pub returns : goal.returns
returns c = carried-good _ (sym c.judge_table.ensures ∙ c.if-not-judge_table.false)
