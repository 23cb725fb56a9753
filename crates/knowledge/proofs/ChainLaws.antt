-- The chain: what is computed step by step is the chain of rule 3, stopped where rule 4 stops it.
-- Assumes nothing.
use mathlib.Core.Path.{◌≡◌, refl, sym, ◌∙◌, ap, fun_ext}
use mathlib.Core.Logic.{◌⊎◌, inl, inr, ◌≢◌}
use Prim.Native.Nat.{ℕ, zero, suc, ◌+◌, ◌-◌, ◌≤◌, ◌<◌, zero-le}
use native.Mathlib.Nat.{eq-or-lt_of_le}
use native.Mathlib.Omega.{arith}
use borrow.Author.Tests.{eq-eqb, ne_eqb, le-leb, lt-leb}
use Rattle.farm.specs.Sets.{Seats, size}
use Rattle.farm.specs.declared.places.Seat.{Seat}
use Rattle.farm.specs.declared.places.Time.{Time}
use Rattle.knowledge.specs.Farm.{Farm, IsSeat}
use Rattle.knowledge.specs.Views.{views_of}
use Rattle.knowledge.specs.Known.{known_in, known_of}
use Rattle.knowledge.specs.Chain.{stage_of, stage, IsSteps}
use Rattle.knowledge.specs.Settled.{over_bound, settled, IsSettled, IsOutcome, critical_time, core_view, next, reached, settle_from, settle}
use Rattle.knowledge.proofs.ViewLaws.{views-of-one}

-- B₀ is the set known in the seat's own view.
pub stage-start : (farm : Farm) (p : Seat) (ℓ : Time) → IsSeat farm p → (stage farm p ℓ 0).known ≡ known_of farm p ℓ
unfolding stage stage_of
stage-start farm p ℓ h = ap (known_in farm) (fun_ext (λ q. views-of-one farm p.0 ℓ.0 q h))

-- Each stage is worked from the known set of the one before.
pub stage-known : (farm : Farm) (p : Seat) (ℓ : Time) (i : ℕ) → (stage farm p ℓ (suc i)).known ≡ next farm ℓ.0 (stage farm p ℓ i).known
unfolding stage stage_of next core_view critical_time
stage-known farm p ℓ i = refl

pub stage-time : (farm : Farm) (p : Seat) (ℓ : Time) (i : ℕ) → (stage farm p ℓ (suc i)).time ≡ critical_time farm ℓ.0 (stage farm p ℓ i).known
unfolding stage stage_of critical_time
stage-time farm p ℓ i = refl

pub stage-view : (farm : Farm) (p : Seat) (ℓ : Time) (i : ℕ)
    → views_of farm (stage farm p ℓ (suc i)).seats (stage farm p ℓ (suc i)).time ≡ core_view farm ℓ.0 (stage farm p ℓ i).known
unfolding stage stage_of core_view critical_time
stage-view farm p ℓ i = refl

-- Rule 4 without a difference: the chain stands still after h, and moves at each stage before.
pub still_after : (farm : Farm) (p : Seat) (ℓ : Time) (h : ℕ) → IsSteps farm p ℓ (suc h)
    → next farm ℓ.0 (stage farm p ℓ h).known ≡ (stage farm p ℓ h).known
still_after farm p ℓ h steps =
    let e : suc h - 1 ≡ h = omega arith in
    sym (stage-known farm p ℓ h) ∙ (rw e at steps.still)

pub moves_before : (farm : Farm) (p : Seat) (ℓ : Time) (h i : ℕ) → IsSteps farm p ℓ (suc h) → i < h
    → next farm ℓ.0 (stage farm p ℓ i).known ≢ (stage farm p ℓ i).known
moves_before farm p ℓ h i steps l same =
    let e : suc i - 1 ≡ i = omega arith in
    (rw e at (steps.first (suc i) (omega arith) (omega arith))) (stage-known farm p ℓ i ∙ same)

-- The computed steps stop where the known set stays, and go on where it changes.
pub settle-stops : (farm : Farm) (ℓ left steps : ℕ) (known : Seats) → next farm ℓ known ≡ known
    → settle_from farm ℓ (suc left) steps known ≡ reached farm ℓ steps known
unfolding settle_from
settle-stops farm ℓ left steps known e = rw (eq-eqb _ _ e, settle_from)

pub settle-goes-on : (farm : Farm) (ℓ left steps : ℕ) (known : Seats) → next farm ℓ known ≢ known
    → settle_from farm ℓ (suc left) steps known ≡ settle_from farm ℓ left (suc steps) (next farm ℓ known)
unfolding settle_from
settle-goes-on farm ℓ left steps known e = rw (ne_eqb _ _ e, settle_from)

-- Rule 6 decides between the refusal and the steps.
pub settle-over : (farm : Farm) (ℓ : ℕ) (known : Seats) → farm.bound < size farm.seats known → settle farm ℓ known ≡ over_bound
unfolding settle
settle-over farm ℓ known h = rw (lt-leb _ _ h, settle)

pub settle-within : (farm : Farm) (ℓ : ℕ) (known : Seats) → size farm.seats known ≤ farm.bound
    → settle farm ℓ known ≡ settled (settle_from farm ℓ (size farm.seats known) 1 known)
unfolding settle
settle-within farm ℓ known h = rw (le-leb _ _ h, settle)

-- From any stage not past the stop, the steps lead to the stop.
pub settle-reaches : (farm : Farm) (p : Seat) (ℓ : Time) (h left i : ℕ) → IsSteps farm p ℓ (suc h) → i ≤ h → h ≤ i + left
    → settle_from farm ℓ.0 left (suc i) (stage farm p ℓ i).known ≡ reached farm ℓ.0 (suc h) (stage farm p ℓ h).known
unfolding settle_from
settle-reaches farm p ℓ h zero i steps low high = let same : i ≡ h = omega arith in rw same
settle-reaches farm p ℓ h (suc left) i steps low high = by (settle-reaches farm p ℓ h left (suc i) steps) (eq-or-lt_of_le low)
  where
    by : (suc i ≤ h → h ≤ suc i + left → settle_from farm ℓ.0 left (suc (suc i)) (stage farm p ℓ (suc i)).known
        ≡ reached farm ℓ.0 (suc h) (stage farm p ℓ h).known)
        → (i ≡ h) ⊎ (i < h)
        → settle_from farm ℓ.0 (suc left) (suc i) (stage farm p ℓ i).known ≡ reached farm ℓ.0 (suc h) (stage farm p ℓ h).known
    by later (inl same) = rw same (settle-stops farm ℓ.0 left (suc h) _ (still_after farm p ℓ h steps))
    by later (inr l) =
        settle-goes-on farm ℓ.0 left (suc i) _ (moves_before farm p ℓ h i steps l)
        ∙ (rw (stage-known farm p ℓ i) at (later l (omega arith)))

-- At the stop rule 5 holds.
pub reached-settled : (farm : Farm) (p : Seat) (ℓ : Time) (h : ℕ) → IsSteps farm p ℓ (suc h)
    → IsSettled farm p ℓ (reached farm ℓ.0 (suc h) (stage farm p ℓ h).known)
unfolding reached
reached-settled farm p ℓ h steps = record {
  steps = steps;
  kept = sym (stage-known farm p ℓ h ∙ still_after farm p ℓ h steps);
  critical = sym (stage-time farm p ℓ h);
  core = sym (stage-view farm p ℓ h);
}

-- Within the bound, the computed outcome is the one of the rules once the chain stands still early enough.
pub settle-outcome : (farm : Farm) (p : Seat) (ℓ : Time) (h : ℕ) → IsSteps farm p ℓ (suc h)
    → h ≤ size farm.seats (stage farm p ℓ 0).known → size farm.seats (stage farm p ℓ 0).known ≤ farm.bound
    → IsOutcome farm p ℓ (settle farm ℓ.0 (stage farm p ℓ 0).known)
settle-outcome farm p ℓ h steps high within =
    rw
    (settle-within farm ℓ.0 _ within, settle-reaches farm p ℓ h (size farm.seats (stage farm p ℓ 0).known) 0 steps zero-le (omega arith))
    (within, reached-settled farm p ℓ h steps)
