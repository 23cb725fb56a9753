-- `filling::fill::fill_edits` meets its contract. The loop's invariant: what is left to take makes the four lists what they are to be.
-- Assumes nothing.
use Rattle.filling.proofs.FillLaws.{EditsLeft}
use Rattle.record.specs.Tables.{tables}
use Rattle.std.proofs.Common.{[]}
use Rattle.filling.proofs.fill.fill_edits.Given as goal

abbrev pub invariant-loop-i : goal.invariant-loop-i
invariant-loop-i l =
    EditsLeft l.bytes l.n l.rounds l.count l.at.at l.i
    (tables [] l.initial.seats l.initial.times l.initial.cells l.initial.changes) (tables [] l.seats l.times l.cells l.changes)
