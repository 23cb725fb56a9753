-- The order of a question's refusals on an accepted record: each test decides, or leaves the rest to decide.
-- Assumes nothing.
use mathlib.Core.Path.{◌≡◌, refl}
use mathlib.Core.List.{List}
use lib.IntN.{ℤ}
use lib.ListN.{length}
use mathlib.Core.Bool.{Bool, true, false}
use Rattle.std.specs.Prelude.{Ok}
use Prim.Native.Nat.{ℕ, suc, ◌<◌, ◌≤◌}
use native.Mathlib.Omega.{arith}
use lib.Dec.{leb}
use borrow.Author.Tests.{ltb-true, leb-true, le-leb}
use Rattle.farm.specs.Limits.{limits}
use Rattle.farm.specs.Sets.{Seats}
use Rattle.farm.specs.declared.places.Seat.{Seat}
use Rattle.farm.specs.declared.places.Time.{Time}
use Rattle.farm.specs.declared.refusals.Refusal.TheVariants.{NoRoom, NoSuchPlace}
use Rattle.farm.proofs.Cases.{and-elim}
use Rattle.knowledge.specs.Farm.{Farm}
use Rattle.knowledge.specs.Views.{view_of, latest_times}
use Rattle.knowledge.specs.Known.{known_of}
use Rattle.knowledge.specs.Settled.{Settled, outcome_of}
use Rattle.knowledge.proofs.ViewLaws.{le-of-below}
use Rattle.knowledge.proofs.ViewTheory.{view-past}
use Rattle.viewing.specs.Counts.{counts, farm_for}
use Rattle.viewing.specs.declared.sizes.Sizes.{Sizes}
use Rattle.telling.specs.Laid.{InTime, laid}
use Rattle.telling.proofs.TimeLaws.{length-counts, counts-bound}
use Rattle.questions.specs.declared.answers.Seen.{Seen}
use Rattle.questions.specs.Accepted.{Accepted}
use Rattle.questions.specs.Answers.{no_times, seen_answer}
use Rattle.questions.specs.Question.{found, by_value, buffer, fits, is_place, provided, of_outcome, view_in, known_in, settled_in}

-- ════ 8 ════

module _ (farm : Farm) (p : Seat) (ℓ : Time) where
  pub place-below : is_place farm p ℓ ≡ true → (p.0 < farm.seats) × (ℓ.0 ≤ farm.rounds)
  unfolding is_place
  place-below e =
      let x = and-elim _ _ e in
      (ltb-true p.0 farm.seats x.0, leb-true ℓ.0 farm.rounds x.1)

  -- ════ Views and known sets: 8, 7 ════

  pub view-found : (entries : ℕ) → is_place farm p ℓ ≡ true → farm.seats ≤ entries
      → view_in (buffer entries) farm p ℓ ≡ found (latest_times farm.seats (view_of farm p ℓ))
  unfolding view_in provided fits
  view-found entries e roomy = rw (e, le-leb farm.seats entries roomy)

  pub view-valued : is_place farm p ℓ ≡ true → view_in by_value farm p ℓ ≡ found (latest_times farm.seats (view_of farm p ℓ))
  unfolding view_in provided fits
  view-valued e = rw e

  pub known-found : is_place farm p ℓ ≡ true → known_in farm p ℓ ≡ found (known_of farm p ℓ)
  unfolding known_in provided
  known-found e = rw e

  pub seen-found : is_place farm p ℓ ≡ true → (l : List ℤ) (k : ℕ) → l ≡ laid (latest_times farm.seats (view_of farm p ℓ)) no_times → k ≡ known_of farm p ℓ
      → Ok (let seen : Seen = record { latest = l; known = k } in seen) ≡ seen_answer (view_in by_value farm p ℓ) (known_in farm p ℓ)
  seen-found e l k el ek = rw (view-valued e, known-found e, el, ek) refl

  view-in-time : (k : ℕ) → ℓ.0 ≤ k → (q : ℕ) → view_of farm p ℓ q ≤ suc k
  view-in-time k h q =
      le-of-below (view_of farm p ℓ q) (suc k)
      (λ j l. let past = view-past farm p.0 ℓ.0 q j l in omega arith)

  -- ════ The settled answer: 8, 7, 9 ════

  pub settled-roomy : (entries need : ℕ) → is_place farm p ℓ ≡ true → need ≤ entries
      → settled_in (buffer entries) need farm p ℓ ≡ of_outcome (outcome_of farm p ℓ)
  unfolding settled_in provided fits
  settled-roomy entries need e roomy = rw (e, le-leb need entries roomy)

  -- What is found has its room.
  pub settled-fits : (entries need : ℕ) (s : Settled) → settled_in (buffer entries) need farm p ℓ ≡ found s → need ≤ entries
  unfolding settled_in provided fits
  settled-fits entries need s e = by (is_place farm p ℓ) (leb need entries) refl e
    where
      by : (a b : Bool) → leb need entries ≡ b → provided a NoSuchPlace (provided b NoRoom (of_outcome (outcome_of farm p ℓ))) ≡ found s → need ≤ entries
      by true true f g = leb-true need entries f
      by true false f g = absurd cc
      by false b f g = absurd cc

  -- By value no room is wanted.
  pub settled-unlent : settled_in by_value 0 farm p ℓ ≡ settled_in (buffer 0) 0 farm p ℓ
  unfolding settled_in fits
  settled-unlent = refl

  pub settled-valued : (need : ℕ) → is_place farm p ℓ ≡ true → settled_in by_value need farm p ℓ ≡ of_outcome (outcome_of farm p ℓ)
  unfolding settled_in provided fits
  settled-valued need e = rw e

-- ════ On an accepted record ════

module _ (sizes : Sizes) (losses : List Seats) (sound : Accepted sizes) (p : Seat) (ℓ : Time) (real : is_place (farm_for sizes losses) p ℓ ≡ true) where
  pub place-in-limits : (sizes.seats ≤ limits.most_seats) × (p.0 < sizes.seats) × (ℓ.0 ≤ limits.most_rounds)
  place-in-limits = let below = place-below (farm_for sizes losses) p ℓ real in (sound.seats, below.0, omega arith)

  -- The counts of its view are told as times.
  pub view-in-limits : (view : List ℕ) → view ≡ counts sizes.seats (view_of (farm_for sizes losses) p ℓ) → (sizes.seats ≤ length view) × InTime view
  view-in-limits view e =
      let farm = farm_for sizes losses in
      let whole = length-counts sizes.seats (view_of farm p ℓ) view e in
      let seats : sizes.seats ≤ 7 = sound.seats in
      let early : ℓ.0 ≤ 127 = place-in-limits.2 in
      (omega arith, counts-bound sizes.seats (view_of farm p ℓ) view 128 e (view-in-time farm p ℓ 127 early))
