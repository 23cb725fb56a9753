-- A host's call ends as the library's call with the numbers that are handed on: a number that does not fit is refused, as the number
-- that is handed on in its place.
-- Assumes nothing.
use mathlib.Core.Path.{◌≡◌, refl, sym, ◌∙◌, ap}
use mathlib.Core.Logic.{◌⊎◌, inl, inr}
use mathlib.Core.Bool.{Bool, true, false}
use Prim.Native.Nat.{ℕ, suc, ◌-◌, ◌*◌, ◌<◌, ◌≤◌}
use native.Mathlib.Omega.{arith}
use lib.Dec.{leb}
use lib.IntN.{ℤ, pos, negsuc}
use mir.Syntax.{w16}
use mir.Val.{SFits}
use borrow.Author.Tests.{leb-true, leb-false, le-leb}
use Rattle.farm.specs.Limits.{limits}
use Rattle.farm.specs.declared.places.Seat.{Seat}
use Rattle.farm.specs.declared.refusals.Refusal.TheVariants.{OutOfRange, BadTable}
use Rattle.farm.proofs.Cases.{less-or-not, true-or-false}
use Rattle.record.specs.Changes.{mapped}
use Rattle.record.specs.Good.{good_header, good_edit, good_record}
use Rattle.record.specs.Writing.{faulty, unless}
use Rattle.record.proofs.GoodLaws.{header-facts, record-facts, edit-facts}
use Rattle.live_table.specs.declared.table.Table.{Table}
use Rattle.live_table.specs.Used.{used_record}
use Rattle.live.specs.Answers.{Done, Ends, done_of}
use Rattle.live.specs.Calls.{Call, opening, edit, present_edit, empty_header, tests_of, first_failing, kept_or, answer_to, table_after}
use Rattle.host.specs.declared.numbers.SeatNumber.{SeatNumber}
use Rattle.host.specs.Numbers.{at_most, seat_named}
use Rattle.host.specs.Results.{refusal_number}
use Rattle.host.proofs.NumberLaws.{far-number, near-number}
use Rattle.host.proofs.WideLaws.{Fits, header-wide}
use Rattle.host_table.specs.Codes.{EndsWith, EditHanded}

-- Calls that end alike.
pub record Alike (call call' : Call) (table : Table) : Type 0 where
  pub answers : answer_to call' table ≡ answer_to call table
  pub tables : table_after call' table ≡ table_after call table

pub ends_with : {call call' : Call} {before after : Table} {answer : Done} {number : ℕ} → Alike call call' before → Ends call' before answer after → number ≡ refusal_number answer
    → EndsWith call before number after
ends_with alike ends told = (told ∙ ap refusal_number (ends.0 ∙ ap done_of alike.answers), ends.1 ∙ alike.tables)

-- ════ Opening ════

module _ (n t : ℕ) (table : Table) where
  opening-cut : (Fits n t 0) ⊎ ((good_header limits (empty_header (at_most 255 n) (at_most 255 t)) ≡ false) × (good_header limits (empty_header n t) ≡ false))
  opening-cut = rw (sym (near-number 65535 0 (omega arith))) at (header-wide n t 0 0)

  opening-alike : Alike (opening n t) (opening (at_most 255 n) (at_most 255 t)) table
  unfolding answer_to table_after tests_of first_failing unless kept_or
  opening-alike = by opening-cut
    where
      by : (Fits n t 0) ⊎ ((good_header limits (empty_header (at_most 255 n) (at_most 255 t)) ≡ false) × (good_header limits (empty_header n t) ≡ false))
          → Alike (opening n t) (opening (at_most 255 n) (at_most 255 t)) table
      by (inl f) = rw (sym (near-number 255 n f.seats), sym (near-number 255 t f.bound)) (record { answers = refl; tables = refl })
      by (inr f) = record { answers = rw (f.0, f.1) refl; tables = rw (f.0, f.1) refl }

  pub opening-handed : {n' t' : ℕ} → n' ≡ at_most 255 n → t' ≡ at_most 255 t → Alike (opening n t) (opening n' t') table
  opening-handed en et = rw (en, et) opening-alike

-- ════ Edits ════

refuted : (b : Bool) → (b ≡ true → ⊥) → b ≡ false
refuted true never = absurd (never refl)
refuted false never = refl

-- An edit that no good table takes, by its numbers alone.
abbrev Never : Seat → (cell : ℕ) → ℤ → Table → Type 0
Never seat cell change table =
    good_record limits (used_record table) ≡ true
    → good_edit limits (used_record table).header.seats (used_record table).header.rounds (present_edit seat cell change (used_record table)) ≡ false

module _ (cell : ℕ) (table : Table) where
  never-answer : (seat : Seat) (change : ℤ) → Never seat cell change table
      → answer_to (edit seat cell change) table ≡ unless (good_record limits (used_record table)) BadTable (faulty OutOfRange)
  unfolding answer_to tests_of first_failing unless
  never-answer seat change never = by (true-or-false (good_record limits (used_record table)))
    where
      by : (good_record limits (used_record table) ≡ true) ⊎ (good_record limits (used_record table) ≡ false)
          → answer_to (edit seat cell change) table ≡ unless (good_record limits (used_record table)) BadTable (faulty OutOfRange)
      by (inl g) = rw (g, never g) refl
      by (inr b) = rw b refl

  never-table : (seat : Seat) (change : ℤ) → Never seat cell change table → table_after (edit seat cell change) table ≡ table
  unfolding table_after kept_or unless
  never-table seat change never = by (true-or-false (good_record limits (used_record table)))
    where
      by : (good_record limits (used_record table) ≡ true) ⊎ (good_record limits (used_record table) ≡ false) → table_after (edit seat cell change) table ≡ table
      by (inl g) = rw (never-answer seat change never, g) refl
      by (inr b) = rw (never-answer seat change never, b) refl

  both-never : {seat seat' : Seat} {change change' : ℤ} → Never seat cell change table → Never seat' cell change' table
      → Alike (edit seat cell change) (edit seat' cell change') table
  both-never never never' = record {
    answers = never-answer _ _ never' ∙ sym (never-answer _ _ never);
    tables = never-table _ _ never' ∙ sym (never-table _ _ never);
  }

  seat-never : (s : ℕ) (change : ℤ) → 255 ≤ s → Never (record { 0 = s }) cell change table
  seat-never s change far g =
      let few = (header-facts limits _ (record-facts limits (used_record table) g).header).most in
      refuted _ (λ good. let low = (edit-facts limits _ _ _ good).seat in omega (arith, far, low, few))

  change-never : (seat : Seat) (change : ℤ) → leb (mapped change) limits.largest_mapped_change ≡ false → Never seat cell change table
  change-never seat change far g =
      let high = leb-false (mapped change) _ far in
      refuted _ (λ good. let low = (edit-facts limits _ _ _ good).change in omega (arith, high, low))

  pub edit-handed : (seat : SeatNumber) (change : ℤ) (handed : Seat) (given : ℤ) → EditHanded seat change handed given
      → Alike (edit (seat_named seat) cell change) (edit handed cell given) table
  edit-handed seat change handed given h = by (true-or-false (leb (mapped change) limits.largest_mapped_change)) (less-or-not 255 seat.0)
    where
      by : (leb (mapped change) limits.largest_mapped_change ≡ true) ⊎ (leb (mapped change) limits.largest_mapped_change ≡ false) → (255 < seat.0) ⊎ (seat.0 ≤ 255)
          → Alike (edit (seat_named seat) cell change) (edit handed cell given) table
      by (inr far) _ =
          rw (h.whose, h.what, far) (both-never (change-never (seat_named seat) change far) (seat-never 255 (pos 0) (omega arith)))
      by (inl fits) (inl far) =
          rw (h.whose, h.what, fits, sym (far-number 255 seat.0 far)) (both-never (seat-never seat.0 change (omega (arith, far))) (seat-never 255 change (omega arith)))
      by (inl fits) (inr near) =
          rw (h.whose, h.what, fits, sym (near-number 255 seat.0 near)) (record { answers = refl; tables = refl })

-- ════ Changes of height ════

-- A change of height is one that 16 bits hold.
fits-mapped : (z : ℤ) → SFits w16 z → leb (mapped z) 65535 ≡ true
unfolding mapped
fits-mapped (pos d) fits = le-leb (2 * d) 65535 (omega (arith, fits.sfits))
fits-mapped (negsuc d) fits = le-leb (2 * suc d - 1) 65535 (omega (arith, fits.sfits))

mapped-fits : (z : ℤ) → leb (mapped z) 65535 ≡ true → SFits w16 z
unfolding mapped
mapped-fits (pos d) e = let low = leb-true (2 * d) 65535 e in record { sfits = omega (arith, low) }
mapped-fits (negsuc d) e = let low = leb-true (2 * suc d - 1) 65535 e in record { sfits = omega (arith, low) }

module _ (seat : SeatNumber) (z : ℤ) where
  pub near-change : SFits w16 z → (handed : Seat) → handed ≡ record { 0 = at_most 255 seat.0 } → EditHanded seat z handed z
  near-change fits handed e = let small = fits-mapped z fits in record { whose = rw small e; what = rw small refl }

  pub far-change : (SFits w16 z → ⊥) → EditHanded seat z (record { 0 = 255 }) (pos 0)
  far-change far = let large = refuted _ (λ small. far (mapped-fits z small)) in record { whose = rw large refl; what = rw large refl }
