-- A question on the table is the question on what the table reads as and on its arrays. By these laws, about a table alone, the check
-- proves questions by itself, and the record written out.
-- Assumes nothing.
use mathlib.Core.Path.{◌≡◌, refl, sym}
use mathlib.Core.Logic.{◌⊎◌, inl, inr}
use mathlib.Core.Bool.{true, false}
use mathlib.Core.List.{List}
use Prim.Native.Nat.{ℕ, ◌*◌, ◌≤◌}
use lib.ListN.{length}
use Rattle.std.specs.Prelude.{Ok, Err}
use Rattle.farm.specs.Limits.{limits}
use Rattle.farm.specs.declared.places.Seat.{Seat}
use Rattle.farm.specs.declared.places.Time.{Time}
use Rattle.farm.specs.declared.refusals.Refusal.TheVariants.{BadTable}
use Rattle.farm.proofs.Cases.{true-or-false}
use Rattle.record.specs.declared.header.Header.{Header}
use Rattle.record.specs.Answers.{checked_of, written_in}
use Rattle.record.specs.Record.{good}
use Rattle.record.specs.Writing.{record_from, answered, buffer_with}
use Rattle.record.specs.Good.{good_record}
use Rattle.questions.specs.Accepted.{Accepted}
use Rattle.questions.specs.Answers.{seen_answer, seen_asked, agreed_asked}
use Rattle.questions.specs.Question.{Lent, by_value, view_asked, loser_asked}
use Rattle.carriers.specs.Carried.{Carried, Fitting, view_for, known_for, loser_for, agreed_for}
use Rattle.carriers.specs.Loading.{sizes_of}
use Rattle.carriers.proofs.CarriedLaws.{sized, loaded, seen-carried, agreed-carried, standing-carried, view-carried}
use Rattle.live_table.specs.declared.table.Table.{Table}
use Rattle.live_table.specs.Used.{used_record, table_reading}
use Rattle.live_table.proofs.SoundLaws.{used_tables, fitting-sizes, sets-fit}
use Rattle.live_questions.proofs.WriteLaws.{bad-write, used-accepted, used-good}
use Rattle.live_questions.proofs.CarriedLaws.{carried-bad, carried-good}

module _ (table : Table) where
  table-carries : Carried (table_reading table) (checked_of (table_reading table)) table.losses table.editors table.times
  table-carries = by (true-or-false (good_record limits (used_record table)))
    where
      by : (good_record limits (used_record table) ≡ true) ⊎ (good_record limits (used_record table) ≡ false) → Carried (table_reading table) (checked_of (table_reading table)) table.losses table.editors table.times
      by (inl g) = record { told = refl; holds = (carried-good table g).holds }
      by (inr b) = record { told = refl; holds = (carried-bad table table.losses table.editors table.times b).holds }

  pub standing-table : (p : Seat) → loser_asked (table_reading table) p ≡ loser_for (checked_of (table_reading table)) table.losses p
  standing-table p = sym (standing-carried table-carries p)

  pub sized-table : (h : Header) → checked_of (table_reading table) ≡ Ok h → Accepted (sizes_of h)
  sized-table = sized table-carries

  pub loaded-table : (h : Header) → checked_of (table_reading table) ≡ Ok h → Fitting h table.editors table.times
  loaded-table = loaded table-carries

  module _ (p : Seat) (ℓ : Time) where
    pub seen-table : seen_asked (table_reading table) p ℓ ≡ seen_answer (view_for by_value (checked_of (table_reading table)) table.losses p ℓ) (known_for (checked_of (table_reading table)) table.losses p ℓ)
    seen-table = sym (seen-carried table-carries p ℓ)

    pub agreed-table : agreed_asked (table_reading table) p ℓ ≡ agreed_for (checked_of (table_reading table)) table.losses table.editors table.times p ℓ
    agreed-table = sym (agreed-carried table-carries p ℓ)

    pub view-table : (lent : Lent) → view_asked lent (table_reading table) p ℓ ≡ view_for lent (checked_of (table_reading table)) table.losses p ℓ
    view-table lent = sym (view-carried table-carries p ℓ lent)

pub ruleset table_questions = (sized-table, loaded-table, standing-table, seen-table, agreed-table, view-table)

-- ════ The record, written out ════

module _ (table : Table) where
  pub written-bad : (old : List ℕ) → good_record limits (used_record table) ≡ false → written_in (answered limits (table_reading table) (length old)) ≡ Err BadTable
  written-bad old b = sym (bad-write table old b).0

  pub left-bad : (old : List ℕ) → good_record limits (used_record table) ≡ false → buffer_with limits (table_reading table) old ≡ old
  left-bad old b = sym (bad-write table old b).1

  pub written-good : (old : List ℕ) → good_record limits (used_record table) ≡ true
      → written_in (answered limits (table_reading table) (length old)) ≡ written_in (answered limits (good (record_from table.seats table.bound table.rounds (used_tables table))) (length old))
  written-good old g = rw (used-good table g) refl

  pub left-good : (old : List ℕ) → good_record limits (used_record table) ≡ true
      → buffer_with limits (table_reading table) old ≡ buffer_with limits (good (record_from table.seats table.bound table.rounds (used_tables table))) old
  left-good old g = rw (used-good table g) refl

  pub sets-there : good_record limits (used_record table) ≡ true → table.seats * table.rounds ≤ 889
  sets-there g = let f = fitting-sizes table g in sets-fit _ _ f.0 f.1

  pub edits-there : good_record limits (used_record table) ≡ true → table.edits ≤ 512
  edits-there g = (fitting-sizes table g).2

pub ruleset table_writing = (used-accepted, written-bad, left-bad, written-good, left-good, sets-there, edits-there)
