-- The view that follows from a known set within the bound, without signed numbers: the views, at the critical time, of the
-- seats outside the set. Holds because ℓ − (t + 1 − |B|) is a difference of naturals while |B| is at most t.
-- Assumes nothing.
use mathlib.Core.Path.{◌≡◌, sym, ◌∙◌, ap}
use mathlib.Core.Logic.{◌⊎◌, inl, inr}
use mathlib.Core.Bool.{false, not}
use Prim.Native.Nat.{ℕ, zero, suc, ◌+◌, ◌-◌, ◌≤◌, ◌<◌}
use native.Mathlib.Nat.{not-suc-le-zero, le_trans}
use native.Mathlib.Omega.{arith}
use lib.IntN.{pos, negsuc, ◌-ℤ◌}
use borrow.Author.Tests.{le-ltb, lt-ltb, not-true}
use Rattle.farm.specs.Sets.{Seats, bit, size, outside}
use Rattle.farm.proofs.Cases.{less-or-not}
use Rattle.farm.proofs.SetLaws.{bit-outside}
use Rattle.knowledge.specs.Farm.{Farm}
use Rattle.knowledge.specs.Views.{view, views_of}
use Rattle.knowledge.specs.Settled.{critical_time, core_view}
use Rattle.knowledge.proofs.ViewLaws.{joined-has, joined-from}
use Rattle.knowledge.proofs.ViewTheory.{view-grows}

-- ════ Differences ════

minus : (a b : ℕ) → b ≤ a → pos a -ℤ pos b ≡ pos (a - b)
minus a zero h = ap pos (omega arith)
minus a (suc b) h = rw (le-ltb a (suc b) h)

minus-below : (a b : ℕ) → a < b → pos a -ℤ pos b ≡ negsuc (b - suc a)
minus-below a zero h = absurd (not-suc-le-zero h)
minus-below a (suc b) h = rw (lt-ltb a (suc b) h)

-- A time less a delay that is itself a difference.
delayed : (ℓ d s : ℕ) → s ≤ d → d ≤ ℓ + s → pos ℓ -ℤ (pos d -ℤ pos s) ≡ pos (ℓ + s - d)
delayed ℓ d s h begun = rw (minus d s h) (minus ℓ (d - s) (omega arith) ∙ ap pos (omega arith))

delayed-below : (ℓ d s : ℕ) → s ≤ d → ℓ + s < d → pos ℓ -ℤ (pos d -ℤ pos s) ≡ negsuc (d - suc (ℓ + s))
delayed-below ℓ d s h early = rw (minus d s h) (minus-below ℓ (d - s) (omega arith) ∙ ap negsuc (omega arith))

-- ════ The critical time ════

-- Rule 3 puts the critical time t + 1 rounds back, less one round for each known seat.
abbrev pub delay : Farm → ℕ
delay farm = farm.bound + 1

abbrev pub saved : Farm → Seats → ℕ
saved farm known = size farm.seats known

pub critical-time-at : (farm : Farm) (ℓ : ℕ) (known : Seats) → size farm.seats known ≤ farm.bound
    → delay farm ≤ ℓ + saved farm known
    → critical_time farm ℓ known ≡ pos (ℓ + saved farm known - delay farm)
unfolding critical_time
critical-time-at farm ℓ known within begun = delayed ℓ (delay farm) (saved farm known) (omega arith) begun

pub critical-time-below : (farm : Farm) (ℓ : ℕ) (known : Seats) → size farm.seats known ≤ farm.bound
    → ℓ + saved farm known < delay farm
    → critical_time farm ℓ known ≡ negsuc (delay farm - suc (ℓ + saved farm known))
unfolding critical_time
critical-time-below farm ℓ known within early = delayed-below ℓ (delay farm) (saved farm known) (omega arith) early

-- ════ The view at the critical time ════

-- It has the view of each seat outside the set at each time up to the critical one.
pub core-has : (farm : Farm) (ℓ : ℕ) (known : Seats) → size farm.seats known ≤ farm.bound
    → (g m q : ℕ) → g < farm.seats → bit known g ≡ false → m + delay farm ≤ ℓ + saved farm known
    → view farm g m q ≤ core_view farm ℓ known q
unfolding core_view views_of
core-has farm ℓ known within g m q hg f late =
    let k : ℕ = ℓ + saved farm known - delay farm in
    rw (critical-time-at farm ℓ known within (omega arith))
    (le_trans (view-grows farm g m k q (omega arith))
    (joined-has farm.seats (bit (outside farm.seats known)) (λ s. view farm s k) g q hg (bit-outside farm.seats known g hg ∙ ap not f)))

-- It has nothing else, and below time 0 nothing at all.
pub core-from : (farm : Farm) (ℓ : ℕ) (known : Seats) → size farm.seats known ≤ farm.bound
    → (q j : ℕ) → j < core_view farm ℓ known q
    → (g : ℕ) × (m : ℕ) × (g < farm.seats) × (bit known g ≡ false)
    × (m + delay farm ≡ ℓ + saved farm known) × (j < view farm g m q)
unfolding core_view views_of
core-from farm ℓ known within q j h = by (less-or-not (ℓ + saved farm known) (delay farm))
  where
    k : ℕ
    k = ℓ + saved farm known - delay farm

    by : (ℓ + saved farm known < delay farm) ⊎ (delay farm ≤ ℓ + saved farm known)
        → (g : ℕ) × (m : ℕ) × (g < farm.seats) × (bit known g ≡ false)
        × (m + delay farm ≡ ℓ + saved farm known) × (j < view farm g m q)
    by (inl early) = absurd (not-suc-le-zero (rw (critical-time-below farm ℓ known within early) at h))
    by (inr begun) =
        let w = joined-from farm.seats (bit (outside farm.seats known)) (λ s. view farm s k) q j
        (rw (critical-time-at farm ℓ known within begun) at h) in
        (w.0, k, w.1, not-true (bit known w.0) (sym (bit-outside farm.seats known w.0 w.1) ∙ w.2), omega arith, w.3)
