-- Rules 1 to 6 of document 01 in their own words, for all that a question about a record answers. Nothing is computed here: views are
-- sets of places, and known sets are the sets of the seats that are known.
use Rattle.std.specs.Prelude.{◌≡◌, ◌↔◌, ◌≢◌, true, false, List, [], ◌∷◌, ℕ, suc, ◌+◌, ◌-◌, ◌^◌, ◌≤◌, ◌<◌, ℤ, pos, negsuc, ◌-ℤ◌, length, get_or}
use Rattle.farm.specs.Sets.{Seats, bit, size}
use Rattle.farm.specs.declared.places.Seat.{Seat}
use Rattle.farm.specs.declared.places.Time.{Time}
use Rattle.knowledge.specs.Farm.{Farm, Place, place}
use Rattle.knowledge.specs.Views.{InViews, AtMost}
use Rattle.knowledge.specs.Known.{Known}
use Rattle.record.specs.declared.edits.Edit.{Edit}
use Rattle.record.specs.Record.{Record}
use Rattle.questions.specs.Question.{farm_of_record}

-- ════ Sets of seats ════

-- The set of exactly the seats that have the property.
pub record IsSet (n : ℕ) (property : Seat → Type 0) (set : Seats) : Type 0 where
  pub small : set < 2 ^ n
  pub exact : (z : Seat) → z.0 < n → (bit set z.0 ≡ true) ↔ property z

-- At most so many seats have the property: a set of no more has them all.
pub record AtMostSeats (n most : ℕ) (property : Seat → Type 0) : Type 0 where
  pub set : Seats
  pub few : size n set ≤ most
  pub all : (z : Seat) → z.0 < n → property z → bit set z.0 ≡ true

-- ════ Rule 1: a view as it is given ════

-- The latest of some times, or −1 for none. A view holds all times up to it.
pub data Latest (has : Time → Type 0) : ℤ → Type 0 where
  none : ((k : Time) → ¬ has k) → Latest has (negsuc 0)
  up_to : (j : ℕ) → ((k : Time) → has k ↔ (k.0 ≤ j)) → Latest has (pos j)

-- n signed numbers, for each seat the latest time of it among the places.
pub record IsView (n : ℕ) (places : Place → Type 0) (numbers : List ℤ) : Type 0 where
  pub count : length numbers ≡ n
  pub each : (q : Seat) → q.0 < n → Latest (λ k. places (place q k)) (get_or numbers q.0 (negsuc 0))

-- A place is in a view that is given so.
abbrev pub InNumbers : List ℤ → Place → Type 0
InNumbers numbers x = AtMost x.time (get_or numbers x.seat.0 (negsuc 0))

-- ════ Rules 3 and 4 ════

-- S₀ = {p} and k₀ = ℓ. Bᵢ is the set known in the view of Sᵢ at kᵢ. Sᵢ₊₁ is all seats outside Bᵢ, and kᵢ₊₁ = ℓ − (t + 1 − |Bᵢ|).
pub record IsChain (farm : Farm) (p : Seat) (ℓ : Time) (S : ℕ → Seats) (k : ℕ → ℤ) (B : ℕ → Seats) : Type 0 where
  pub first_seats : IsSet farm.seats (λ q. q.0 ≡ p.0) (S 0)
  pub first_time : k 0 ≡ pos ℓ.0
  pub known : (i : ℕ) → IsSet farm.seats (Known farm (InViews farm (S i) (k i))) (B i)
  pub next_seats : (i : ℕ) → IsSet farm.seats (λ q. bit (B i) q.0 ≡ false) (S (suc i))
  pub next_time : (i : ℕ) → k (suc i) ≡ pos ℓ.0 -ℤ (pos (farm.bound + 1) -ℤ pos (size farm.seats (B i)))

-- The first h ≥ 1 with Bₕ = Bₕ₋₁.
pub record IsCount (B : ℕ → Seats) (h : ℕ) : Type 0 where
  pub begun : 1 ≤ h
  pub still : B h ≡ B (h - 1)
  pub first : (j : ℕ) → 1 ≤ j → j < h → B j ≢ B (j - 1)

-- ════ Rules 5 and 6 ════

-- 1 for each edit that is inside, 0 for each outside; and how many are inside.
pub data Marked (inside : Edit → Type 0) : List Edit → (marks : List ℕ) (count : ℕ) → Type 0 where
  end : Marked inside [] [] 0
  within : {e : Edit} {edits : List Edit} {marks : List ℕ} {k : ℕ} → inside e → Marked inside edits marks k → Marked inside (e ∷ edits) (1 ∷ marks) (suc k)
  without : {e : Edit} {edits : List Edit} {marks : List ℕ} {k : ℕ} → ¬ inside e → Marked inside edits marks k → Marked inside (e ∷ edits) (0 ∷ marks) k

-- All that a seat gets at a time beyond its view and known set.
pub record Answer : Type 0 where
  pub steps : ℕ
  pub critical : ℤ
  pub kept : Seats
  pub core : List ℤ
  pub marks : List ℕ
  pub count : ℕ

-- Where |B₀| ≤ t: Bₕ is kept, kₕ is critical, the core is the view of Sₕ at kₕ, and an edit is in the core if its place is.
pub record Ruled (r : Record) (p : Seat) (ℓ : Time) (a : Answer) : Type 0 where
  pub S : ℕ → Seats
  pub k : ℕ → ℤ
  pub B : ℕ → Seats
  pub chain : IsChain (farm_of_record r) p ℓ S k B
  pub few : size r.header.seats (B 0) ≤ r.header.bound
  pub steps : IsCount B a.steps
  pub critical : a.critical ≡ k a.steps
  pub kept : a.kept ≡ B a.steps
  pub core : IsView r.header.seats (InViews (farm_of_record r) (S a.steps) (k a.steps)) a.core
  pub marks : Marked (λ e. InViews (farm_of_record r) (S a.steps) (k a.steps) (place e.seat e.time)) r.edits a.marks a.count
