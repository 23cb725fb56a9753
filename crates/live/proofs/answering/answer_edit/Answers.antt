-- `live::answering::answer_edit` meets its contract: 19, 3, 12, 5, each test by its law.
-- Assumes nothing.
use mathlib.Core.Path.{sym, ◌∙◌}
use native.Mathlib.Omega.{arith}
use borrow.Author.Rules.{rules}
use Rattle.live.specs.Answers.{done_of}
use Rattle.live.proofs.StepLaws.{edit-bad, edit-no-seat, edit-no-cell, edit-full, edit-early, edit-accepted}
use Rattle.live.proofs.answering.answer_edit.Goals as goal

pub returns-then-not-judge_table : goal.returns-then-not-judge_table
unfolding done_of
returns-then-not-judge_table c =
    rw (edit-bad c.args.new c.args.table.now c.requires (sym c.judge_table.ensures ∙ c.if-not-judge_table.true))

pub returns-then-table-new : goal.returns-then-table-new
unfolding done_of
returns-then-table-new c =
    rw (edit-no-seat c.args.new c.args.table.now c.requires (sym c.judge_table.ensures ∙ c.if-not-judge_table.false) (omega arith))

pub returns-then-new-gt-LARGEST_CELL : goal.returns-then-new-gt-LARGEST_CELL
unfolding done_of
returns-then-new-gt-LARGEST_CELL c =
    rw (edit-no-cell c.args.new c.args.table.now c.requires (sym c.judge_table.ensures ∙ c.if-not-judge_table.false) (omega arith))

pub returns-then-table-ge-MOST_EDITS : goal.returns-then-table-ge-MOST_EDITS
unfolding done_of
returns-then-table-ge-MOST_EDITS c =
    rw (edit-full c.args.new c.args.table.now c.requires (sym c.judge_table.ensures ∙ c.if-not-judge_table.false) (omega arith) (omega arith) (search rules) (omega arith))

pub returns-then-not-comes_after : goal.returns-then-not-comes_after
unfolding done_of
returns-then-not-comes_after c =
    let late = rw c.last_held-before.ensures at (sym c.comes_after.ensures ∙ c.if-not-comes_after.true) in
    rw (edit-early c.args.new c.args.table.now c.requires (sym c.judge_table.ensures ∙ c.if-not-judge_table.false) (omega arith) (omega arith) (search rules) (omega arith) late)

pub returns : goal.returns
unfolding done_of
returns c =
    let rising = rw c.last_held-before.ensures at (sym c.comes_after.ensures ∙ c.if-not-comes_after.false) in
    rw (edit-accepted c.args.new c.args.table.now c.requires (sym c.judge_table.ensures ∙ c.if-not-judge_table.false) (omega arith) (omega arith) (search rules) (omega arith) rising)
