-- `writing::putting::put_edits` meets its contract. The loop's invariant: what is left, put at the present place, makes the buffer that all of them make.
-- Assumes nothing.
use Prim.Native.Nat.{◌^◌, ◌<◌}
use lib.ListN.{drop}
use Rattle.std.specs.List.{All}
use Rattle.farm.specs.Limits.{limits}
use Rattle.record.specs.Edits.{edits_bytes}
use Rattle.record.specs.Lent.{tables_in}
use Rattle.record.specs.Writing.{edits_in}
use Rattle.numbers.proofs.PlacingLaws.{Owed}
use Rattle.writing.proofs.putting.put_edits.Given as goal

abbrev pub invariant-loop-i : goal.invariant-loop-i
invariant-loop-i l = record {
  small : All (λ edit. edit.cell < 128 ^ 3) (drop l.i (edits_in (tables_in l.lists)));
  owed :
      Owed l.at (edits_bytes limits (drop l.i (edits_in (tables_in l.lists)))) l.out l.from (edits_bytes limits (edits_in (tables_in l.lists)))
      l.initial.out;
}
