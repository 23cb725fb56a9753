-- Refusal 19: what the test of a table's used part decides.
-- Assumes nothing.
use mathlib.Core.Path.{◌≡◌, refl, sym, ◌∙◌, subst}
use mathlib.Core.Bool.{Bool, true, false}
use Prim.Native.Nat.{ℕ, ◌*◌, ◌≤◌}
use native.Mathlib.Nat.{mul-le-mul}
use native.Mathlib.Omega.{arith}
use lib.ListN.{length, take}
use lib.Seq.{length-take-le}
use Rattle.std.specs.Result.{is_ok}
use Rattle.farm.specs.Limits.{limits}
use Rattle.farm.specs.declared.refusals.Refusal.{Refusal}
use Rattle.record.specs.Answers.{judged_in}
use Rattle.record.specs.Writing.{Verdict, lists_of, accepted, faulty, record_from, judged_lists, judged, checked_lists}
use Rattle.record.specs.Columns.{tables_of}
use Rattle.record.specs.Good.{good_record}
use Rattle.record.specs.Record.{Record, good, bad}
use Rattle.record.specs.Tables.{Tables}
use Rattle.record.proofs.AcceptedLaws.{checked-good}
use Rattle.record.proofs.ColumnLaws.{Columns, columns-from-edits}
use Rattle.record.proofs.GoodLaws.{header-facts, record-facts}
use Rattle.record.proofs.WritingLaws.{lists-accepted, good-lists-accepted}
use Rattle.live_table.specs.declared.table.Table.{Table}
use Rattle.live_table.specs.Used.{used_record}
use Rattle.live_table.proofs.ListLaws.{Full}

pub not_so : (b : Bool) → (b ≡ true → ⊥) → b ≡ false
not_so true h = absurd (h refl)
not_so false h = refl

-- The sizes of a good record fit the arrays.
module _ (table : Table) where
  pub fitting-sizes : good_record limits (used_record table) ≡ true → (table.seats ≤ 7) × (table.rounds ≤ 127) × (table.edits ≤ 512)
  unfolding used_record
  fitting-sizes g = let f = header-facts limits _ (record-facts limits (used_record table) g).header in (omega arith, omega arith, omega arith)

  pub too-large : (table.seats ≤ 7 → table.rounds ≤ 127 → table.edits ≤ 512 → ⊥) → false ≡ good_record limits (used_record table)
  too-large h = sym (not_so _ (λ g. let f = fitting-sizes g in h f.0 f.1 f.2))

-- The arrays of a table are as long as their types say.
pub record Arrays (t : Table) : Type 0 where
  pub losses : length t.losses ≡ 889
  pub editors : length t.editors ≡ 512
  pub times : length t.times ≡ 512
  pub cells : length t.cells ≡ 512
  pub changes : length t.changes ≡ 512

-- The lists that the used part of a table is cut into.
abbrev pub used_tables : Table → Tables
used_tables t =
    lists_of (take (t.seats * t.rounds) t.losses) (take t.edits t.editors) (take t.edits t.times) (take t.edits t.cells) (take t.edits t.changes)

-- Where the lists of edits hold as many as the table counts, its used part and these lists are one and the same record.
module _ (t : Table) (full : Full t.edits (take t.edits t.editors) (take t.edits t.times) (take t.edits t.cells) (take t.edits t.changes)) where
  pub used-columns : Columns (take t.edits t.editors) (take t.edits t.times) (take t.edits t.cells) (take t.edits t.changes) (used_record t).edits
  unfolding used_record
  used-columns =
      columns-from-edits (take t.edits t.editors) (take t.edits t.times) (take t.edits t.cells) (take t.edits t.changes)
      (full.times ∙ sym full.seats) (full.cells ∙ sym full.seats) (full.changes ∙ sym full.seats)

  pub used-back : tables_of (used_record t) ≡ used_tables t
  unfolding tables_of used_record
  used-back =
      let c = used-columns in
      λ i. record {
        losses = take (t.seats * t.rounds) t.losses;
        seats = c.seats-same i;
        times = c.times-same i;
        cells = c.cells_same i;
        changes = c.changes-same i;
      }

  used-from : record_from t.seats t.bound t.rounds (used_tables t) ≡ used_record t
  unfolding record_from used_record
  used-from = rw full.seats

module _ (t : Table) (arrays : Arrays t) (held : t.edits ≤ 512) where
  full : Full t.edits (take t.edits t.editors) (take t.edits t.times) (take t.edits t.cells) (take t.edits t.changes)
  full = record {
    seats = length-take-le t.edits t.editors (omega arith);
    times = length-take-le t.edits t.times (omega arith);
    cells = length-take-le t.edits t.cells (omega arith);
    changes = length-take-le t.edits t.changes (omega arith);
  }

  accepted-table : judged_lists limits t.seats t.bound t.rounds (used_tables t) ≡ accepted → true ≡ good_record limits (used_record t)
  accepted-table v =
      sym (subst (λ (r : Record). good_record limits r ≡ true) (used-from t full) (lists-accepted limits t.seats t.bound t.rounds (used_tables t) _ (checked-good t.seats t.bound t.rounds (used_tables t) limits v)).sound)

  refused-table : (f : Refusal) → judged_lists limits t.seats t.bound t.rounds (used_tables t) ≡ faulty f → false ≡ good_record limits (used_record t)
  unfolding checked_lists judged used_record
  refused-table f v = sym (not_so _ (λ g.
      let is-good : checked_lists limits t.seats t.bound t.rounds (used_tables t) ≡ good (used_record t) = rw (used-back t full) at (good-lists-accepted limits (used_record t) g) in
      let is-bad : checked_lists limits t.seats t.bound t.rounds (used_tables t) ≡ bad f = rw v in
      cc))

  -- The judge accepts the used part exactly where it is a good record.
  pub judged-table : is_ok (judged_in (judged_lists limits t.seats t.bound t.rounds (used_tables t))) ≡ good_record limits (used_record t)
  unfolding judged_in
  judged-table = by (judged_lists limits t.seats t.bound t.rounds (used_tables t)) refl
    where
      by : (v : Verdict) → judged_lists limits t.seats t.bound t.rounds (used_tables t) ≡ v → is_ok (judged_in v) ≡ good_record limits (used_record t)
      by accepted e = accepted-table e
      by (faulty f) e = refused-table f e

-- The loss sets of the most rounds and seats fit the array.
pub sets-fit : (n R : ℕ) → n ≤ 7 → R ≤ 127 → n * R ≤ 889
sets-fit n R a b = mul-le-mul a b
