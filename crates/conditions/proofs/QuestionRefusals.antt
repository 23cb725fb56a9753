-- Questions: the record's refusals, 8, 7, 9, each exactly where its words hold.
-- Assumes nothing.
use mathlib.Core.Path.{◌≡◌, refl, sym, ◌∙◌}
use mathlib.Core.Logic.{◌↔◌, inl, inr}
use mathlib.Core.Bool.{Bool, true, false, true≢false}
use mathlib.Core.List.{[], ◌∷◌}
use Prim.Native.Nat.{ℕ, ◌≤◌, ◌<◌}
use native.Mathlib.Nat.{le_trans}
use lib.Dec.{leb}
use lib.ListN.{length}
use borrow.Author.Tests.{le-leb, leb-true, lt-ltb, ltb-true}
use Rattle.farm.specs.Sets.{size}
use Rattle.farm.specs.declared.places.Seat.{Seat}
use Rattle.farm.specs.declared.places.Time.{Time}
use Rattle.farm.specs.declared.refusals.Refusal.TheVariants.{NoRoom, NoSuchPlace}
use Rattle.farm.proofs.Cases.{and_intro, and-elim}
use Rattle.farm.proofs.SetLaws.{size_mono}
use Rattle.knowledge.specs.Farm.{Farm, seat}
use Rattle.knowledge.specs.Views.{InView}
use Rattle.knowledge.specs.Known.{Known, known_of}
use Rattle.knowledge.specs.Views.{latest_times}
use Rattle.knowledge.specs.Settled.{Settled, over_bound, settled, settle_from, settle, outcome_of}
use Rattle.knowledge.proofs.Promises.{known-of-a-place-is-computed}
use Rattle.record.specs.Record.{Record, good, bad}
use Rattle.questions.specs.Question.{Asked, found, refused, provided, Lent, by_value, buffer, fits, is_place, of_outcome, looking, farm_of_record, marks_of, count_of, view_in, known_in, settled_in, loser_in, on_record}
use Rattle.conditions.specs.Order.{◌unless◌, GiveThen, Give, asked_number}
use Rattle.conditions.specs.Rules.{AtMostSeats}
use Rattle.conditions.specs.Refusals.{Room, place8, lent7, known9, QuestionsRefusedInOrder}
use Rattle.conditions.proofs.OrderLaws.{less, asked-test}

-- ════ Questions ════

pub place-fits : (farm : Farm) (p : Seat) (ℓ : Time) → (is_place farm p ℓ ≡ true) ↔ ((p.0 < farm.seats) × (ℓ.0 ≤ farm.rounds))
unfolding is_place
place-fits farm p ℓ = (
  λ g. let x = and-elim _ _ g in (ltb-true _ _ x.0, leb-true _ _ x.1),
  λ f. and_intro _ _ (lt-ltb _ _ f.0) (le-leb _ _ f.1),
)

pub room_fits : (lent : Lent) (need : ℕ) → (fits lent need ≡ true) ↔ Room lent need
unfolding fits
room_fits by_value need = (λ g. tt, λ f. refl)
room_fits (buffer entries) need = (leb-true need entries, le-leb need entries)

-- At most t seats are known exactly if the computed known set is no larger.
pub known-few : (farm : Farm) (p : Seat) (ℓ : Time)
    → (size farm.seats (known_of farm p ℓ) ≤ farm.bound) ↔ AtMostSeats farm.seats farm.bound (Known farm (λ x. InView farm x p ℓ))
known-few farm p ℓ = (
  λ few. record { set = known_of farm p ℓ; few = few; all = λ z h k. (known-of-a-place-is-computed farm p ℓ z h).0 k },
  λ most.
      le_trans
      (size_mono farm.seats (known_of farm p ℓ) most.set (λ q h b. most.all (seat q) h ((known-of-a-place-is-computed farm p ℓ (seat q) h).1 b)))
      most.few,
)

looked-number : {A B : Type 0} (f : A → B) (x : Asked A) → asked_number (looking f x) ≡ asked_number x
unfolding looking asked_number
looked-number f (found a) = refl
looked-number f (refused r) = refl

none-given : {A : Type 0} (a : A) → Give [] (asked_number (found a))
unfolding GiveThen asked_number
none-given a = refl

module _ (r : Record) (p : Seat) (ℓ : Time) where
  known-test : Give (known9 p ℓ r ∷ []) (asked_number (of_outcome (outcome_of (farm_of_record r) p ℓ)))
  unfolding GiveThen settle of_outcome asked_number
  known-test = by (leb (size r.header.seats (known_of (farm_of_record r) p ℓ)) r.header.bound) refl
    where
      by : (b : Bool) → leb (size r.header.seats (known_of (farm_of_record r) p ℓ)) r.header.bound ≡ b
          → Give (known9 p ℓ r ∷ []) (asked_number (of_outcome (elim b [
            | true ↦ settled (settle_from (farm_of_record r) ℓ.0 (size r.header.seats (known_of (farm_of_record r) p ℓ)) 1 (known_of (farm_of_record r) p ℓ))
            | false ↦ over_bound
          ])))
      by true e = inl ((known-few (farm_of_record r) p ℓ).0 (leb-true _ _ e), refl)
      by false e = inr (λ w. true≢false (sym (le-leb _ _ ((known-few (farm_of_record r) p ℓ).1 w)) ∙ e), refl)

  settled-in-order : (lent : Lent) (need : ℕ)
      → Give (place8 p ℓ r ∷ lent7 lent need ∷ known9 p ℓ r ∷ []) (asked_number (settled_in lent need (farm_of_record r) p ℓ))
  unfolding settled_in
  settled-in-order lent need =
      asked-test _ _ _ _ NoSuchPlace _ (place-fits (farm_of_record r) p ℓ) (λ here.
      asked-test _ _ _ _ NoRoom _ (room_fits lent need) (λ room. known-test))

  settled-by-value : Give (place8 p ℓ r ∷ known9 p ℓ r ∷ []) (asked_number (settled_in by_value 0 (farm_of_record r) p ℓ))
  unfolding settled_in fits provided
  settled-by-value = asked-test _ _ _ _ NoSuchPlace _ (place-fits (farm_of_record r) p ℓ) (λ here. known-test)

  view-in-order : (lent : Lent) → Give (place8 p ℓ r ∷ lent7 lent r.header.seats ∷ []) (asked_number (view_in lent (farm_of_record r) p ℓ))
  unfolding view_in
  view-in-order lent =
      asked-test _ _ _ _ NoSuchPlace _ (place-fits (farm_of_record r) p ℓ) (λ here.
      asked-test _ [] _ _ NoRoom _ (room_fits lent r.header.seats) (λ room. none-given _))

  known-in-order : Give (place8 p ℓ r ∷ []) (asked_number (known_in (farm_of_record r) p ℓ))
  unfolding known_in
  known-in-order = asked-test _ [] _ _ NoSuchPlace _ (place-fits (farm_of_record r) p ℓ) (λ here. none-given _)

  loser-in-order : Give (8 unless (p.0 < r.header.seats) ∷ []) (asked_number (loser_in (farm_of_record r) p))
  unfolding loser_in
  loser-in-order = asked-test _ [] _ _ NoSuchPlace _ (less p.0 r.header.seats) (λ here. none-given _)

pub questions-refused-in-order : QuestionsRefusedInOrder
unfolding on_record asked_number
questions-refused-in-order (bad f) p ℓ lent =
    record { view = refl; known = refl; settled = refl; core = refl; marks = refl; count = refl; loser = refl }
questions-refused-in-order (good r) p ℓ lent = record {
  view = view-in-order r p ℓ lent;
  known = known-in-order r p ℓ;
  settled = settled-by-value r p ℓ;
  core = rw (looked-number (λ (s : Settled). latest_times r.header.seats s.core) (settled_in lent r.header.seats (farm_of_record r) p ℓ)) (settled-in-order r p ℓ lent r.header.seats);
  marks = rw (looked-number (λ (s : Settled). marks_of s.core r.edits) (settled_in lent (length r.edits) (farm_of_record r) p ℓ)) (settled-in-order r p ℓ lent (length r.edits));
  count = rw (looked-number (λ (s : Settled). count_of s.core r.edits) (settled_in by_value 0 (farm_of_record r) p ℓ)) (settled-by-value r p ℓ);
  loser = loser-in-order r p ℓ;
}
