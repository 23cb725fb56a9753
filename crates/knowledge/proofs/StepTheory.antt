-- The count of steps: each change takes a seat out of the known set, so B₀ allows |B₀| changes and the next step brings none.
-- Assumes nothing.
use mathlib.Core.Path.{◌≡◌, sym, ◌∙◌}
use mathlib.Core.Logic.{◌⊎◌, inl, inr, ◌≢◌, ⊎_elim}
use Prim.Native.Nat.{ℕ, zero, suc, ◌+◌, ◌-◌, ◌≤◌, ◌<◌}
use native.Mathlib.Nat.{not-suc-le-zero, eq-or-lt_of_le, le_refl}
use native.Mathlib.Omega.{arith}
use Rattle.farm.specs.Sets.{size}
use Rattle.farm.proofs.Cases.{less-or-not, equal_or_not}
use Rattle.farm.specs.declared.places.Seat.{Seat}
use Rattle.farm.specs.declared.places.Time.{Time}
use Rattle.knowledge.specs.Farm.{Farm, IsSeat}
use Rattle.knowledge.specs.Chain.{stage, IsSteps}
use Rattle.knowledge.specs.Settled.{next}
use Rattle.knowledge.proofs.ChainLaws.{stage-known, moves_before}
use Rattle.knowledge.proofs.ChainTheory.{Falling, change-falls, stage-falls}

-- ════ Rule 4 without a difference ════

-- The step after stage i brings no change.
abbrev Still : Farm → Seat → Time → ℕ → Type 0
Still farm p ℓ i = next farm ℓ.0 (stage farm p ℓ i).known ≡ (stage farm p ℓ i).known

-- Each stage before i is followed by a change.
abbrev MovesBefore : Farm → Seat → Time → ℕ → Type 0
MovesBefore farm p ℓ i = (j : ℕ) → j < i → ¬ Still farm p ℓ j

steps-at : (farm : Farm) (p : Seat) (ℓ : Time) (h : ℕ) → Still farm p ℓ h → MovesBefore farm p ℓ h → IsSteps farm p ℓ (suc h)
steps-at farm p ℓ h still moves = record { begun = omega arith; still = stopped; first = earlier }
  where
    stopped : (stage farm p ℓ (suc h)).known ≡ (stage farm p ℓ (suc h - 1)).known
    stopped = let e : suc h - 1 ≡ h = omega arith in rw e (stage-known farm p ℓ h ∙ still)

    earlier : (j : ℕ) → 1 ≤ j → j < suc h → (stage farm p ℓ j).known ≢ (stage farm p ℓ (j - 1)).known
    earlier zero begun l same = absurd (not-suc-le-zero begun)
    earlier (suc i) begun l same =
        let e : suc i - 1 ≡ i = omega arith in
        moves i (omega arith) (sym (stage-known farm p ℓ i) ∙ (rw e at same))

pub steps-unique : (farm : Farm) (p : Seat) (ℓ : Time) (h k : ℕ) → IsSteps farm p ℓ h → IsSteps farm p ℓ k → h ≡ k
steps-unique farm p ℓ h k a b =
    ⊎_elim (λ l. absurd (b.first h a.begun l a.still))
    (λ l. ⊎_elim sym (λ g. absurd (a.first k b.begun g b.still)) (eq-or-lt_of_le l))
    (less-or-not h k)

-- ════ The steps come to an end ════

-- From stage i on, with the size of its known set as the measure.
stops-from : (farm : Farm) (p : Seat) (ℓ : Time) → ((i : ℕ) → Falling farm ℓ.0 (stage farm p ℓ i).known) → (left i : ℕ)
    → size farm.seats (stage farm p ℓ i).known < left → MovesBefore farm p ℓ i → (h : ℕ) × (h < i + left) × IsSteps farm p ℓ (suc h)
stops-from farm p ℓ falling zero i small moves = absurd (not-suc-le-zero small)
stops-from farm p ℓ falling (suc left) i small moves =
    by (stops-from farm p ℓ falling left (suc i)) (equal_or_not (next farm ℓ.0 (stage farm p ℓ i).known) (stage farm p ℓ i).known)
  where
    -- A change at stage i leaves a smaller set.
    smaller : ¬ Still farm p ℓ i → size farm.seats (stage farm p ℓ (suc i)).known < left
    smaller change =
        rw (stage-known farm p ℓ i)
        (⊎_elim (λ e. absurd (change e)) (λ less. omega arith) (change-falls farm ℓ.0 (stage farm p ℓ i).known (falling i)))

    by : (size farm.seats (stage farm p ℓ (suc i)).known < left → MovesBefore farm p ℓ (suc i)
        → (h : ℕ) × (h < suc i + left) × IsSteps farm p ℓ (suc h))
        → Still farm p ℓ i ⊎ (¬ Still farm p ℓ i)
        → (h : ℕ) × (h < i + suc left) × IsSteps farm p ℓ (suc h)
    by later (inl still) = (i, omega arith, steps-at farm p ℓ i still moves)
    by later (inr change) =
        let w = later (smaller change) (λ j l. ⊎_elim (λ e. let same : j ≡ i = omega arith in rw same change) (λ g. moves j (omega arith)) (eq-or-lt_of_le l)) in
        (w.0, omega (arith, w.1), w.2)

-- Within the bound the steps end after at most |B₀| changes.
pub steps-end : (farm : Farm) → farm.bound < farm.seats → (p : Seat) (ℓ : Time) → IsSeat farm p
    → size farm.seats (stage farm p ℓ 0).known ≤ farm.bound
    → (h : ℕ) × (h ≤ size farm.seats (stage farm p ℓ 0).known) × IsSteps farm p ℓ (suc h)
steps-end farm fits p ℓ hp within =
    let w = stops-from farm p ℓ (stage-falls farm fits p ℓ hp within) (suc (size farm.seats (stage farm p ℓ 0).known)) 0
    (le_refl _) (λ j l. absurd (not-suc-le-zero l)) in
    (w.0, omega (arith, w.1), w.2)

-- Before the end each step takes a seat out.
pub steps-fall : (farm : Farm) → farm.bound < farm.seats → (p : Seat) (ℓ : Time) → IsSeat farm p
    → size farm.seats (stage farm p ℓ 0).known ≤ farm.bound → (h i : ℕ) → IsSteps farm p ℓ (suc h) → i < h
    → size farm.seats (stage farm p ℓ (suc i)).known < size farm.seats (stage farm p ℓ i).known
steps-fall farm fits p ℓ hp within h i steps l =
    rw (stage-known farm p ℓ i)
    (⊎_elim (λ e. absurd (moves_before farm p ℓ h i steps l e)) (λ less. less)
    (change-falls farm ℓ.0 (stage farm p ℓ i).known (stage-falls farm fits p ℓ hp within i)))
