-- What a question on a table, and writing it out, come to: 19, or the answer of the record in its used part.
-- Assumes nothing.
use mathlib.Core.Path.{◌≡◌, refl, sym, ◌∙◌}
use mathlib.Core.Bool.{true, false}
use mathlib.Core.List.{List}
use Prim.Native.Nat.{ℕ}
use lib.ListN.{length, take}
use Rattle.std.specs.Prelude.{Result, Err}
use Rattle.farm.specs.Limits.{limits}
use Rattle.farm.specs.declared.refusals.Refusal.TheVariants.{BadTable}
use Rattle.record.specs.Record.{good}
use Rattle.record.specs.Writing.{accepted, judged_lists, record_from, checked_lists, answered, written_to, buffer_with, buffer_after}
use Rattle.record.specs.Answers.{written_in}
use Rattle.record.specs.Good.{good_record}
use Rattle.farm.specs.declared.refusals.Refusal.{Refusal}
use Rattle.live_table.proofs.SoundLaws.{used_tables, used-columns, used-back}
use Rattle.record.proofs.ColumnLaws.{Columns}
use Rattle.record.proofs.GoodLaws.{record-facts}
use Rattle.record.proofs.AcceptedLaws.{checked-good}
use Rattle.record.proofs.WritingLaws.{judged-good, good-lists-accepted}
use Rattle.live_table.specs.declared.table.Table.{Table}
use Rattle.live_table.specs.Used.{used_record, table_reading}
use Rattle.live_table.proofs.UsedLaws.{reading-good, reads-bad}
use Rattle.live_table.proofs.ListLaws.{Full, cut-full}

-- The edits of a good used part, and the lists that they stand in.
module _ (table : Table) (g : good_record limits (used_record table) ≡ true) where
  full : Full table.edits (take table.edits table.editors) (take table.edits table.times) (take table.edits table.cells) (take table.edits table.changes)
  unfolding used_record
  full = cut-full table.edits table.editors table.times table.cells table.changes (record-facts limits (used_record table) g).edit_count

  pub columns : Columns (take table.edits table.editors) (take table.edits table.times) (take table.edits table.cells) (take table.edits table.changes) (used_record table).edits
  columns = used-columns table full

  -- The lists of the used part are accepted as the record that it is.
  pub used-lists : table_reading table ≡ checked_lists limits table.seats table.bound table.rounds (used_tables table)
  unfolding used_record
  used-lists = reading-good table g ∙ sym (rw (used-back table full) at (good-lists-accepted limits (used_record table) g))

  pub used-accepted : judged_lists limits table.seats table.bound table.rounds (used_tables table) ≡ accepted
  unfolding checked_lists
  used-accepted = (judged-good _ _ (used_record table) (sym used-lists ∙ reading-good table g)).0

  pub used-good : table_reading table ≡ good (record_from table.seats table.bound table.rounds (used_tables table))
  used-good = used-lists ∙ checked-good table.seats table.bound table.rounds (used_tables table) limits used-accepted

-- ════ The record, written out ════

module _ (table : Table) where
  pub bad-write : (old : List ℕ) → good_record limits (used_record table) ≡ false
      → (Err BadTable ≡ written_in (answered limits (table_reading table) (length old))) × (old ≡ buffer_with limits (table_reading table) old)
  unfolding written_in answered buffer_with
  bad-write old h = rw (reads-bad table h) (refl, refl)

  pub good-write : good_record limits (used_record table) ≡ true → (old new : List ℕ) (answer : Result ℕ Refusal)
      → (answer ≡ written_in (written_to limits table.seats table.bound table.rounds (used_tables table) (length old))) × (new ≡ buffer_after limits table.seats table.bound table.rounds (used_tables table) old)
      → (answer ≡ written_in (answered limits (table_reading table) (length old))) × (new ≡ buffer_with limits (table_reading table) old)
  unfolding written_to buffer_after
  good-write g old new answer e = rw (used-lists table g) e
