-- `judging::lists::judge_edits` meets its contract. The loop's invariant: all the edits are judged as what is left of them is, after the last
-- one, and the least number tells which edits come after it.
-- Assumes nothing.
use lib.ListN.{drop}
use Rattle.record.specs.Writing.{edits_in}
use Rattle.record.specs.Lent.{tables_in}
use Rattle.judging.proofs.OrderNumberLaws.{Walked}
use Rattle.judging.proofs.lists.judge_edits.Given as goal

abbrev pub invariant-loop-i : goal.invariant-loop-i
invariant-loop-i l =
    let edits = edits_in (tables_in l.lists) in
    Walked l.lists.seats l.lists.rounds l.least (drop l.i edits) edits
