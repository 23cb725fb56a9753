-- How views lie inside each other: each law by induction over the rounds, one round by view-from.
-- Assumes nothing.
use mathlib.Core.Path.{◌≡◌}
use mathlib.Core.Logic.{◌⊎◌, inl, inr}
use Prim.Native.Nat.{ℕ, zero, suc, ◌≤◌, ◌<◌}
use native.Mathlib.Nat.{not-suc-le-zero, le_refl, le_trans, lt_of_lt_of_le, eq-or-lt_of_le}
use native.Mathlib.Omega.{arith}
use lib.IntN.{ℤ, pos, negsuc}
use Rattle.farm.specs.Sets.{Seats, bit}
use Rattle.knowledge.specs.Farm.{Farm}
use Rattle.knowledge.specs.Views.{View, view, views_of}
use Rattle.knowledge.proofs.ViewLaws.{joined-has, joined-from, up-to-from, view-own, view-remembers, view-receives, FromBefore, view-from}

-- ════ Time ════

pub view-grows : (farm : Farm) (p j k q : ℕ) → j ≤ k → view farm p j q ≤ view farm p k q
view-grows farm p j zero q h = let same : j ≡ 0 = omega arith in rw same (le_refl _)
view-grows farm p j (suc k) q h = by (view-grows farm p j k q) (eq-or-lt_of_le h)
  where
    by : (j ≤ k → view farm p j q ≤ view farm p k q) → (j ≡ suc k) ⊎ (j < suc k) → view farm p j q ≤ view farm p (suc k) q
    by before (inl same) = rw same (le_refl _)
    by before (inr l) = le_trans (before (omega arith)) (view-remembers farm p k q)

-- A view has every earlier place of its own seat.
pub view-own-past : (farm : Farm) (p j k : ℕ) → j ≤ k → j < view farm p k p
view-own-past farm p j k h = lt_of_lt_of_le (view-own farm p j) (view-grows farm p j k p h)

-- A view has nothing from the future.
pub view-past : (farm : Farm) (p k q j : ℕ) → j < view farm p k q → j ≤ k
unfolding view
view-past farm p zero q j h = (up-to-from p zero q j h).1
view-past farm p (suc k) q j h = by (view-past farm p k q j) (λ s. view-past farm s k q j) (view-from farm p k q j h)
  where
    by : (j < view farm p k q → j ≤ k) → ((s : ℕ) → j < view farm s k q → j ≤ k) → FromBefore farm p k q j → j ≤ suc k
    by before sent (inl c) = omega (arith, c.1)
    by before sent (inr (inl c)) = omega (arith, before c)
    by before sent (inr (inr c)) = omega (arith, sent c.0 c.3)

-- ════ Closure ════

-- With each of its places a closed view has the whole view of that place.
abbrev pub Closed : Farm → View → Type 0
Closed farm v = (q j : ℕ) → j < v q → (x : ℕ) → view farm q j x ≤ v x

pub view-closed : (farm : Farm) (p k : ℕ) → Closed farm (view farm p k)
unfolding view
view-closed farm p zero q j h x =
    let c = up-to-from p zero q j h in
    let same : j ≡ 0 = omega (arith, c.1) in
    rw (c.0, same) (le_refl _)
view-closed farm p (suc k) q j h x = by (λ l. view-closed farm p k q j l x) (λ s l. view-closed farm s k q j l x) (view-from farm p k q j h)
  where
    by : (j < view farm p k q → view farm q j x ≤ view farm p k x) → ((s : ℕ) → j < view farm s k q → view farm q j x ≤ view farm s k x)
        → FromBefore farm p k q j → view farm q j x ≤ view farm p (suc k) x
    by before sent (inl c) = rw (c.0, c.1) (le_refl _)
    by before sent (inr (inl c)) = le_trans (before c) (view-remembers farm p k x)
    by before sent (inr (inr c)) = le_trans (sent c.0 c.3) (view-receives farm p c.0 k x c.1 c.2)

pub views-closed : (farm : Farm) (set : Seats) (k : ℤ) → Closed farm (views_of farm set k)
unfolding views_of
views-closed farm set (pos k) q j h x =
    let w = joined-from farm.seats (bit set) (λ s. view farm s k) q j h in
    le_trans (view-closed farm w.0 k q j w.3 x) (joined-has farm.seats (bit set) (λ s. view farm s k) w.0 x w.1 w.2)
views-closed farm set (negsuc k) q j h x = absurd (not-suc-le-zero h)
