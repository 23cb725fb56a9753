-- `live::answering::answer_round` meets its contract: 19, 11, then what judging the round decides.
-- Assumes nothing.
use mathlib.Core.Path.{sym, ◌∙◌}
use native.Mathlib.Omega.{arith}
use Rattle.live.specs.Answers.{done_of}
use Rattle.live.proofs.StepLaws.{round-bad, round-full, round-judged, judged-done}
use Rattle.live.proofs.answering.answer_round.Goals as goal

pub returns-then-not-judge_table : goal.returns-then-not-judge_table
unfolding done_of
returns-then-not-judge_table c = rw (round-bad c.args.sets.now c.args.table.now (sym c.judge_table.ensures ∙ c.if-not-judge_table.true))

pub returns-then-table-ge-MOST_ROUNDS : goal.returns-then-table-ge-MOST_ROUNDS
unfolding done_of
returns-then-table-ge-MOST_ROUNDS c =
    rw (round-full c.args.sets.now c.args.table.now (sym c.judge_table.ensures ∙ c.if-not-judge_table.false) (omega arith))

pub returns : goal.returns
returns c =
    rw (round-judged c.args.sets.now c.args.table.now (sym c.judge_table.ensures ∙ c.if-not-judge_table.false) (omega arith))
    (c.judge_round.ensures ∙ judged-done _)
