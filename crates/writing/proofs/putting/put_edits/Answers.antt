-- `writing::putting::put_edits` meets its contract. The loop's invariant: what is left, put at the present place, makes the buffer that all of them make.
-- Assumes nothing.
use mathlib.Core.Path.{ap}
use native.Mathlib.Omega.{arith}
use borrow.Author.Rules.{rules}
use Rattle.std.proofs.lemmas.List.Elements.{All-head, All-tail}
use Rattle.farm.specs.Limits.{limits}
use Rattle.record.specs.Edits.{edits_bytes}
use Rattle.record.specs.Lent.{tables_in}
use Rattle.judging.proofs.JudgingLaws.{edits-next, edits-done}
use Rattle.numbers.proofs.PlacingLaws.{owed-done, owed-room, owed-next}
use Rattle.writing.proofs.PuttingLaws.{SmallCell}
use Rattle.writing.proofs.putting.put_edits.Goals as goal

pub put_edit-at-requires : goal.put_edit-at-requires
unfolding edits_bytes
put_edit-at-requires c =
    let r = c.requires in
    let next = edits-next c.loop-i.i (tables_in c.args.lists) r.1 r.2 r.3 c.loop-i-test.true (search rules) in
    (All-head SmallCell _ _ (rw next at c.loop-i.invariant.small), owed-room _ _ _ _ _ _ c.loop-i.invariant.owed _ _ (ap (edits_bytes limits) next) r.4)

pub loop-i-preserved : goal.loop-i-preserved
unfolding edits_bytes
loop-i-preserved c =
    let r = c.requires in
    let next = edits-next c.loop-i.i (tables_in c.args.lists) r.1 r.2 r.3 c.loop-i-test.true (search rules) in
    record {
      small = All-tail SmallCell _ _ (rw next at c.loop-i.invariant.small);
      owed = owed-next _ _ _ _ _ _ c.loop-i.invariant.owed _ _ (ap (edits_bytes limits) next) r.4 _ _ c.put_edit-at.ensures;
    }

pub returns : goal.returns
unfolding edits_bytes
returns c =
    let r = c.requires in
    owed-done _ _ _ _ _ _ c.loop-i.invariant.owed (ap (edits_bytes limits) (edits-done c.loop-i.i (tables_in c.args.lists) r.1 r.2 r.3 (omega arith)))
