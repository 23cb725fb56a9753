-- Rules 5 and 6 leave one outcome, the computed one: the count of steps is unique and within the bound it exists, and the
-- rest of an answer follows from it.
-- Assumes nothing.
use mathlib.Core.Path.{◌≡◌, refl, sym, ◌∙◌, ap}
use mathlib.Core.Logic.{◌⊎◌, inl, inr}
use Prim.Native.Nat.{ℕ, zero, suc, ◌≤◌, ◌<◌}
use native.Mathlib.Nat.{not-suc-le-zero}
use native.Mathlib.Omega.{arith}
use Rattle.farm.specs.Sets.{size}
use Rattle.farm.proofs.Cases.{less-or-not}
use Rattle.farm.specs.declared.places.Seat.{Seat}
use Rattle.farm.specs.declared.places.Time.{Time}
use Rattle.knowledge.specs.Farm.{Farm, IsSeat}
use Rattle.knowledge.specs.Views.{views_of}
use Rattle.knowledge.specs.Chain.{stage, IsSteps}
use Rattle.knowledge.specs.Settled.{Settled, Outcome, over_bound, settled, IsSettled, IsOutcome, critical_time, core_view, next, settle, outcome_of}
use Rattle.knowledge.proofs.ChainLaws.{stage-start, stage-known, stage-time, stage-view, still_after, settle-over, settle-outcome}
use Rattle.knowledge.proofs.StepTheory.{steps-unique, steps-end}

-- ════ One answer ════

-- The answer that rule 5 gives at a count of steps.
abbrev answer_at : Farm → Seat → Time → ℕ → Settled
answer_at farm p ℓ h = record {
  steps = h;
  critical = (stage farm p ℓ h).time;
  kept = (stage farm p ℓ h).known;
  core = views_of farm (stage farm p ℓ h).seats (stage farm p ℓ h).time;
}

answer-is : (farm : Farm) (p : Seat) (ℓ : Time) (s : Settled) → IsSettled farm p ℓ s → s ≡ answer_at farm p ℓ s.steps
answer-is farm p ℓ s a = λ i. record { steps = s.steps; critical = a.critical i; kept = a.kept i; core = a.core i }

pub answer-unique : (farm : Farm) (p : Seat) (ℓ : Time) (s r : Settled) → IsSettled farm p ℓ s → IsSettled farm p ℓ r → s ≡ r
answer-unique farm p ℓ s r a b =
    answer-is farm p ℓ s a ∙ ap (answer_at farm p ℓ) (steps-unique farm p ℓ s.steps r.steps a.steps b.steps) ∙ sym (answer-is farm p ℓ r b)

-- Critical time and core follow from the kept set, and so does the kept set itself.
pub answer-fixed : (farm : Farm) (p : Seat) (ℓ : Time) (s : Settled) → IsSettled farm p ℓ s
    → (next farm ℓ.0 s.kept ≡ s.kept) × (s.critical ≡ critical_time farm ℓ.0 s.kept) × (s.core ≡ core_view farm ℓ.0 s.kept)
answer-fixed farm p ℓ s a = by s.steps a.steps a.kept a.critical a.core
  where
    by : (h : ℕ) → IsSteps farm p ℓ h → s.kept ≡ (stage farm p ℓ h).known → s.critical ≡ (stage farm p ℓ h).time
        → s.core ≡ views_of farm (stage farm p ℓ h).seats (stage farm p ℓ h).time
        → (next farm ℓ.0 s.kept ≡ s.kept) × (s.critical ≡ critical_time farm ℓ.0 s.kept) × (s.core ≡ core_view farm ℓ.0 s.kept)
    by zero steps kept critical core = absurd (not-suc-le-zero steps.begun)
    by (suc h) steps kept critical core =
        let still = still_after farm p ℓ h steps in
        let same : (stage farm p ℓ h).known ≡ s.kept = sym (kept ∙ stage-known farm p ℓ h ∙ still) in
        (rw same at still, critical ∙ (rw same at (stage-time farm p ℓ h)), core ∙ (rw same at (stage-view farm p ℓ h)))

-- ════ One outcome ════

pub outcome-unique : (farm : Farm) (p : Seat) (ℓ : Time) (o r : Outcome) → IsOutcome farm p ℓ o → IsOutcome farm p ℓ r → o ≡ r
outcome-unique farm p ℓ over_bound over_bound a b = refl
outcome-unique farm p ℓ over_bound (settled r) a b = let none : ⊥ = omega (arith, b.0) in absurd none
outcome-unique farm p ℓ (settled s) over_bound a b = let none : ⊥ = omega (arith, a.0) in absurd none
outcome-unique farm p ℓ (settled s) (settled r) a b = ap settled (answer-unique farm p ℓ s r a.1 b.1)

pub outcome-exists : (farm : Farm) → farm.bound < farm.seats → (p : Seat) (ℓ : Time) → IsSeat farm p → IsOutcome farm p ℓ (outcome_of farm p ℓ)
outcome-exists farm fits p ℓ hp =
    rw (← stage-start farm p ℓ hp) (by (less-or-not farm.bound (size farm.seats (stage farm p ℓ 0).known)))
  where
    by : (farm.bound < size farm.seats (stage farm p ℓ 0).known) ⊎ (size farm.seats (stage farm p ℓ 0).known ≤ farm.bound)
        → IsOutcome farm p ℓ (settle farm ℓ.0 (stage farm p ℓ 0).known)
    by (inl over) = rw (settle-over farm ℓ.0 _ over) over
    by (inr within) =
        let w = steps-end farm fits p ℓ hp within in
        settle-outcome farm p ℓ w.0 w.2 w.1 within
