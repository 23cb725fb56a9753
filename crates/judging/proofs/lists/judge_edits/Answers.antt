-- `judging::lists::judge_edits` meets its contract. The loop's invariant: all the edits are judged as what is left of them is, after the last
-- one, and the least number tells which edits come after it.
-- Assumes nothing.
use mathlib.Core.Path.{sym, ◌∙◌}
use native.Mathlib.Omega.{arith}
use borrow.Author.Rules.{rules}
use Rattle.record.specs.Answers.{judged_in}
use Rattle.record.specs.Lent.{tables_in}
use Rattle.record.specs.Writing.{judged_edits}
use Rattle.judging.proofs.JudgingLaws.{edits-next, edits-done, field-stops}
use Rattle.judging.proofs.OrderNumberLaws.{walked-none, number-stops, number-on}
use Rattle.judging.proofs.lists.judge_edits.Goals as goal

pub loop-i-init : goal.loop-i-init
loop-i-init c = walked-none _ _ _

pub returns-then-not-good_edit : goal.returns-then-not-good_edit
unfolding judged_in
returns-then-not-good_edit c =
    let r = c.requires in
    let next = edits-next c.loop-i.i (tables_in c.args.lists) r.1 r.2 r.3 c.loop-i-test.true (search rules) in
    rw (← c.loop-i.invariant.same, next, field-stops _ _ _ _ _ _ (sym c.good_edit.ensures ∙ c.if-not-good_edit.true))

pub returns-then-number-least : goal.returns-then-number-least
unfolding judged_in
returns-then-number-least c =
    let r = c.requires in
    let next = edits-next c.loop-i.i (tables_in c.args.lists) r.1 r.2 r.3 c.loop-i-test.true (search rules) in
    let sound = sym c.good_edit.ensures ∙ c.if-not-good_edit.false in
    rw (number-stops next c.order_number-number.ensures.0 (omega arith) c.loop-i.invariant sound (omega (arith, c.if-number-least.true)))

pub loop-i-preserved : goal.loop-i-preserved
loop-i-preserved c =
    let r = c.requires in
    let next = edits-next c.loop-i.i (tables_in c.args.lists) r.1 r.2 r.3 c.loop-i-test.true (search rules) in
    let sound = sym c.good_edit.ensures ∙ c.if-not-good_edit.false in
    number-on next c.order_number-number.ensures.0 (omega arith) c.loop-i.invariant sound (omega (arith, c.if-number-least.false)) (omega arith)

pub returns : goal.returns
unfolding judged_in judged_edits
returns c =
    let r = c.requires in
    let over = edits-done c.loop-i.i (tables_in c.args.lists) r.1 r.2 r.3 (omega arith) in
    rw (← c.loop-i.invariant.same, over)
