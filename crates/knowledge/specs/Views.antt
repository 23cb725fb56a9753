-- Rule 1 of document 01: views.
use Rattle.std.specs.Prelude.{◌≡◌, Bool, true, cond, not, List, [], ◌∷◌, ◌++◌, ℕ, zero, suc, ◌≤◌, max, eqb, ℤ, pos, negsuc}
use Rattle.farm.specs.Sets.{Seats, bit}
use Rattle.farm.specs.declared.places.Seat.{Seat}
use Rattle.farm.specs.declared.places.Time.{Time}
use Rattle.knowledge.specs.Farm.{Farm, Place, IsSeat, Arrived, time, after}

-- ════ Rule 1 in its own words: the view as a set of places ════

-- The place x is in the view of (p, k): it is that place; or the view of (p, k − 1) has it; or the view of (q, k − 1) has
-- it, for some q whose send to p in round k was not lost.
pub data InView (farm : Farm) (x : Place) : Seat → Time → Type 0 where
  itself : InView farm x x.seat x.time
  remembered : {p : Seat} {k : Time} → InView farm x p k → InView farm x p (after k)
  received : {p q : Seat} {k : Time} → IsSeat farm q → Arrived farm (after k) q p → InView farm x q k → InView farm x p (after k)

-- The view of a set of seats at a time joins theirs. At a time below 0 it is empty.
abbrev pub InViews : Farm → Seats → ℤ → Place → Type 0
InViews farm set (pos k) x = (p : Seat) × IsSeat farm p × (bit set p.0 ≡ true) × InView farm x p (time k)
InViews farm set (negsuc k) x = ⊥

-- ════ Rule 1 computed: the view as a latest time for each seat ════

-- One more than the latest time that a view has of a seat, 0 for none: unsigned, so that joining is the greater of two.
abbrev pub View : Type 0
View = ℕ → ℕ

-- The view that has one place and the times before it.
unfoldable pub up_to : (p k : ℕ) → View
up_to p k q = cond (eqb q p) (suc k) 0

-- The views of those seats below the bound that pass the test, joined.
unfoldable pub joined : ℕ → (ℕ → Bool) → (ℕ → View) → View
joined zero test views q = 0
joined (suc n) test views q = max (joined n test views q) (cond (test n) (views n q) 0)

unfoldable pub view : Farm → (p k : ℕ) → View
view farm p zero q = up_to p zero q
view farm p (suc k) q =
    max (max (up_to p (suc k) q) (view farm p k q))
    (joined farm.seats (λ s. not (farm.lost (suc k) s p)) (λ s. view farm s k) q)

abbrev pub view_of : Farm → Seat → Time → View
view_of farm p k = view farm p.0 k.0

unfoldable pub views_of : Farm → Seats → ℤ → View
views_of farm set (pos k) = joined farm.seats (bit set) (λ p. view farm p k)
views_of farm set (negsuc k) = λ q. 0

-- ════ A view as it is given: n signed numbers, the latest time or −1 for none ════

abbrev pub latest : ℕ → ℤ
latest zero = negsuc 0
latest (suc k) = pos k

unfoldable pub latest_times : (n : ℕ) → View → List ℤ
latest_times zero v = []
latest_times (suc n) v = latest_times n v ++ (latest (v n) ∷ [])

-- A time is at most a latest one.
abbrev pub AtMost : Time → ℤ → Type 0
AtMost k (pos j) = k.0 ≤ j
AtMost k (negsuc j) = ⊥
