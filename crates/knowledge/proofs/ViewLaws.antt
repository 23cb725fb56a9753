-- Views: the set of places of rule 1 and the computed counts say the same.
-- Assumes nothing.
use mathlib.Core.Path.{◌≡◌, refl, sym, ◌∙◌, ap, subst₂}
use mathlib.Core.Logic.{◌⊎◌, inl, inr, ⊎_elim, ◌↔◌}
use mathlib.Core.Bool.{Bool, true, false, cond, not}
use Prim.Native.Nat.{ℕ, zero, suc, ◌≤◌, ◌<◌, max, zero-le}
use native.Mathlib.Nat.{not-suc-le-zero, le-max_left, le-max_right, le_trans, le_antisymm, lt_of_lt_of_le, eq-or-lt_of_le, le_refl}
use native.Mathlib.Omega.{arith}
use lib.Dec.{eqb}
use lib.IntN.{ℤ, pos, negsuc}
use borrow.Author.Tests.{eq-eqb, eqb-true, not-true}
use Rattle.farm.specs.Sets.{Seats, bit, only}
use Rattle.farm.proofs.Cases.{less-or-not}
use Rattle.farm.proofs.SetLaws.{bit-only}
use Rattle.farm.specs.declared.places.Seat.{Seat}
use Rattle.farm.specs.declared.places.Time.{Time}
use Rattle.knowledge.specs.Farm.{Farm, Place, seat, time, place}
use Rattle.knowledge.specs.Views.{InView, itself, remembered, received, InViews, View, up_to, joined, view, view_of, views_of, latest, AtMost}

-- ════ Joined views ════

-- A count is at most another where each time below it is below the other.
pub le-of-below : (a b : ℕ) → ((j : ℕ) → j < a → j < b) → a ≤ b
le-of-below zero b h = zero-le
le-of-below (suc a) b h = h a (le_refl (suc a))

-- Every view that passes the test is inside the joined one.
pub joined-has : (n : ℕ) (test : ℕ → Bool) (views : ℕ → View) (s q : ℕ) → s < n → test s ≡ true → views s q ≤ joined n test views q
unfolding joined
joined-has zero test views s q h e = absurd (not-suc-le-zero h)
joined-has (suc n) test views s q h e = by (joined-has n test views s q) (eq-or-lt_of_le h)
  where
    by : (s < n → test s ≡ true → views s q ≤ joined n test views q) → (suc s ≡ suc n) ⊎ (suc s < suc n)
        → views s q ≤ max (joined n test views q) (cond (test n) (views n q) 0)
    by below (inl p) =
        let same : s ≡ n = omega arith in
        let passed : test n ≡ true = ap test (sym same) ∙ e in
        rw (same, passed) (le-max_right _ _)
    by below (inr p) = le_trans (below (omega arith) e) (le-max_left _ _)

-- Whatever the joined view has, one of the views has.
pub joined-from : (n : ℕ) (test : ℕ → Bool) (views : ℕ → View) (q j : ℕ) → j < joined n test views q
    → (s : ℕ) × (s < n) × (test s ≡ true) × (j < views s q)
unfolding joined
joined-from zero test views q j h = absurd (not-suc-le-zero h)
joined-from (suc n) test views q j h = by (test n) refl (joined-from n test views q j) h
  where
    widen : (s : ℕ) × (s < n) × (test s ≡ true) × (j < views s q) → (s : ℕ) × (s < suc n) × (test s ≡ true) × (j < views s q)
    widen w = (w.0, omega (arith, w.1), w.2, w.3)

    by : (b : Bool) → test n ≡ b
        → (j < joined n test views q → (s : ℕ) × (s < n) × (test s ≡ true) × (j < views s q))
        → j < max (joined n test views q) (cond b (views n q) 0)
        → (s : ℕ) × (s < suc n) × (test s ≡ true) × (j < views s q)
    by true e below g = ⊎_elim (λ a. widen (below a)) (λ a. (n, omega arith, e, omega arith)) (less-or-not j (joined n test views q))
    by false e below g = widen (below (omega arith))

-- ════ A place alone ════

up-to-same : (p k : ℕ) → up_to p k p ≡ suc k
unfolding up_to
up-to-same p k = rw (eq-eqb p p refl)

pub up-to-from : (p k q j : ℕ) → j < up_to p k q → (q ≡ p) × (j ≤ k)
unfolding up_to
up-to-from p k q j h = by (eqb q p) refl h
  where
    by : (b : Bool) → eqb q p ≡ b → j < cond b (suc k) 0 → (q ≡ p) × (j ≤ k)
    by true e g = (eqb-true q p e, omega arith)
    by false e g = absurd (not-suc-le-zero g)

-- ════ Rule 1 ════

-- A view has its own place and those before it, the view of the time before, and what arrived.
pub view-own : (farm : Farm) (p k : ℕ) → k < view farm p k p
unfolding view
view-own farm p zero = rw up-to-same (omega arith)
view-own farm p (suc k) = let e = up-to-same p (suc k) in omega arith

pub view-remembers : (farm : Farm) (p k q : ℕ) → view farm p k q ≤ view farm p (suc k) q
unfolding view
view-remembers farm p k q = omega arith

pub view-receives : (farm : Farm) (p s k q : ℕ) → s < farm.seats → farm.lost (suc k) s p ≡ false
    → view farm s k q ≤ view farm p (suc k) q
unfolding view
view-receives farm p s k q h e =
    le_trans
    (joined-has farm.seats (λ r. not (farm.lost (suc k) r p)) (λ r. view farm r k) s q h (ap not e))
    (le-max_right _ _)

-- Nothing else is in it.
abbrev pub FromBefore : Farm → (p k q j : ℕ) → Type 0
FromBefore farm p k q j =
    ((q ≡ p) × (j ≡ suc k))
    ⊎ (j < view farm p k q)
    ⊎ ((s : ℕ) × (s < farm.seats) × (farm.lost (suc k) s p ≡ false) × (j < view farm s k q))

pub view-from : (farm : Farm) (p k q j : ℕ) → j < view farm p (suc k) q → FromBefore farm p k q j
unfolding view
view-from farm p k q j h = ⊎_elim arrived (λ a. ⊎_elim (λ b. inr (inl b)) (own a) (less-or-not j (view farm p k q))) (less-or-not j all)
  where
    all : ℕ
    all = joined farm.seats (λ s. not (farm.lost (suc k) s p)) (λ s. view farm s k) q

    arrived : j < all → FromBefore farm p k q j
    arrived a =
        let w = joined-from farm.seats (λ s. not (farm.lost (suc k) s p)) (λ s. view farm s k) q j a in
        inr (inr (w.0, w.1, not-true _ w.2, w.3))

    own : all ≤ j → view farm p k q ≤ j → FromBefore farm p k q j
    own a b =
        let c = up-to-from p (suc k) q j (omega arith) in
        let d : k < view farm p k q = rw c.0 (view-own farm p k) in
        inl (c.0, omega arith)

-- ════ The set of places and the counts ════

pub in-view-sound : (farm : Farm) (x : Place) {p : Seat} {k : Time} → InView farm x p k → x.time.0 < view_of farm p k x.seat.0
in-view-sound farm x itself = view-own farm x.seat.0 x.time.0
in-view-sound farm x (remembered {p} {k} v) =
    lt_of_lt_of_le (in-view-sound farm x v) (view-remembers farm p.0 k.0 x.seat.0)
in-view-sound farm x (received {p} {q} {k} h e v) =
    lt_of_lt_of_le (in-view-sound farm x v) (view-receives farm p.0 q.0 k.0 x.seat.0 h e)

its_own : (farm : Farm) (p k q j : ℕ) → q ≡ p → j ≡ k → InView farm (place (seat q) (time j)) (seat p) (time k)
its_own farm p k q j e f = subst₂ (λ (a b : ℕ). InView farm (place (seat q) (time j)) (seat a) (time b)) e f itself

pub in-view-complete : (farm : Farm) (p k q j : ℕ) → j < view farm p k q → InView farm (place (seat q) (time j)) (seat p) (time k)
unfolding view
in-view-complete farm p zero q j h =
    let c = up-to-from p zero q j h in
    its_own farm p zero q j c.0 (omega (arith, c.1))
in-view-complete farm p (suc k) q j h = by (in-view-complete farm p k q j) (λ s. in-view-complete farm s k q j) (view-from farm p k q j h)
  where
    by : (j < view farm p k q → InView farm (place (seat q) (time j)) (seat p) (time k))
        → ((s : ℕ) → j < view farm s k q → InView farm (place (seat q) (time j)) (seat s) (time k))
        → FromBefore farm p k q j → InView farm (place (seat q) (time j)) (seat p) (time (suc k))
    by before sent (inl c) = its_own farm p (suc k) q j c.0 c.1
    by before sent (inr (inl c)) = remembered (before c)
    by before sent (inr (inr c)) = received c.1 c.2 (sent c.0 c.3)

pub in-views-sound : (farm : Farm) (set : Seats) (k : ℤ) (x : Place) → InViews farm set k x → x.time.0 < views_of farm set k x.seat.0
unfolding views_of
in-views-sound farm set (pos k) x (p, h, e, v) =
    lt_of_lt_of_le (in-view-sound farm x v) (joined-has farm.seats (bit set) (λ s. view farm s k) p.0 x.seat.0 h e)
in-views-sound farm set (negsuc k) x v = absurd v

pub in-views-complete : (farm : Farm) (set : Seats) (k : ℤ) (x : Place) → x.time.0 < views_of farm set k x.seat.0 → InViews farm set k x
unfolding views_of
in-views-complete farm set (pos k) x h =
    let w = joined-from farm.seats (bit set) (λ s. view farm s k) x.seat.0 x.time.0 h in
    (seat w.0, w.1, w.2, in-view-complete farm w.0 k x.seat.0 x.time.0 w.3)
in-views-complete farm set (negsuc k) x h = absurd (not-suc-le-zero h)

-- The view of one seat alone is that seat's.
pub views-of-one : (farm : Farm) (p k q : ℕ) → p < farm.seats → views_of farm (only farm.seats p) (pos k) q ≡ view farm p k q
unfolding views_of
views-of-one farm p k q h = le_antisymm (le-of-below _ _ inside) (joined-has n (bit (only n p)) (λ s. view farm s k) p q h (bit-only n p p h ∙ eq-eqb p p refl))
  where
    n : ℕ
    n = farm.seats

    inside : (j : ℕ) → j < joined n (bit (only n p)) (λ s. view farm s k) q → j < view farm p k q
    inside j l =
        let w = joined-from n (bit (only n p)) (λ s. view farm s k) q j l in
        let same : w.0 ≡ p = eqb-true w.0 p (sym (bit-only n p w.0 w.1) ∙ w.2) in
        rw same at w.3

-- ════ Counts and latest times ════

pub at-most-latest : (k : Time) (count : ℕ) → (k.0 < count) ↔ AtMost k (latest count)
at-most-latest k zero = (λ h. absurd (not-suc-le-zero h), λ h. absurd h)
at-most-latest k (suc count) = (λ h. omega arith, λ h. omega arith)
