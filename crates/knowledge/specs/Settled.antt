-- Rules 5 and 6 of document 01: kept set, critical time and core, or the refusal of a seat that knows more losers than the bound.
use Rattle.std.specs.Prelude.{◌≡◌, Bool, true, false, ℕ, zero, suc, ◌+◌, ◌≤◌, ◌<◌, eqb, leb, ltb, ℤ, pos, ◌-ℤ◌}
use Rattle.farm.specs.Sets.{Seats, size, outside}
use Rattle.farm.specs.declared.places.Seat.{Seat}
use Rattle.farm.specs.declared.places.Time.{Time}
use Rattle.knowledge.specs.Farm.{Farm, Place}
use Rattle.knowledge.specs.Views.{View, views_of}
use Rattle.knowledge.specs.Known.{known_in, known_of}
use Rattle.knowledge.specs.Chain.{stage, IsSteps}

pub record Settled : Type 0 where
  pub steps : ℕ
  pub critical : ℤ
  pub kept : Seats
  pub core : View

-- What a seat gets at a time: refusal 9, or the settled answer.
pub data Outcome : Type 0 where
  over_bound : Outcome
  settled : Settled → Outcome

-- ════ Rules 5 and 6 in their own words ════

-- Rule 5, with h the count of steps: Bₕ is kept, kₕ is critical, and the core is the view of Sₕ at kₕ.
pub record IsSettled (farm : Farm) (p : Seat) (ℓ : Time) (s : Settled) : Type 0 where
  pub steps : IsSteps farm p ℓ s.steps
  pub kept : s.kept ≡ (stage farm p ℓ s.steps).known
  pub critical : s.critical ≡ (stage farm p ℓ s.steps).time
  pub core : s.core ≡ views_of farm (stage farm p ℓ s.steps).seats (stage farm p ℓ s.steps).time

-- Rule 6: the question is refused where |B₀| > t, and nowhere else.
abbrev pub IsOutcome : Farm → Seat → Time → Outcome → Type 0
IsOutcome farm p ℓ over_bound = farm.bound < size farm.seats (stage farm p ℓ 0).known
IsOutcome farm p ℓ (settled s) = (size farm.seats (stage farm p ℓ 0).known ≤ farm.bound) × IsSettled farm p ℓ s

-- ════ Computed: step after step, each from the last, to the first that changes nothing ════

-- The critical time that follows from a known set, and the view that is then looked at.
unfoldable pub critical_time : Farm → (ℓ : ℕ) → Seats → ℤ
critical_time farm ℓ known = pos ℓ -ℤ (pos (farm.bound + 1) -ℤ pos (size farm.seats known))

unfoldable pub core_view : Farm → (ℓ : ℕ) → Seats → View
core_view farm ℓ known = views_of farm (outside farm.seats known) (critical_time farm ℓ known)

-- The known set of the next step.
unfoldable pub next : Farm → (ℓ : ℕ) → Seats → Seats
next farm ℓ known = known_in farm (core_view farm ℓ known)

unfoldable pub reached : Farm → (ℓ steps : ℕ) → Seats → Settled
reached farm ℓ steps known = record {
  steps = steps;
  critical = critical_time farm ℓ known;
  kept = known;
  core = core_view farm ℓ known;
}

-- From the known set of the step before. The known set falls, so its size bounds the steps that are left.
unfoldable pub settle_from : Farm → (ℓ left steps : ℕ) → Seats → Settled
settle_from farm ℓ zero steps known = reached farm ℓ steps known
settle_from farm ℓ (suc left) steps known =
    elim (eqb (next farm ℓ known) known) [
      | true ↦ reached farm ℓ steps known
      | false ↦ settle_from farm ℓ left (suc steps) (next farm ℓ known)
    ]

unfoldable pub settle : Farm → (ℓ : ℕ) → Seats → Outcome
settle farm ℓ known =
    elim (leb (size farm.seats known) farm.bound) [
      | true ↦ settled (settle_from farm ℓ (size farm.seats known) 1 known)
      | false ↦ over_bound
    ]

abbrev pub outcome_of : Farm → Seat → Time → Outcome
outcome_of farm p ℓ = settle farm ℓ.0 (known_of farm p ℓ)

-- Whether a place is in a view, as for the places of edits and a core.
unfoldable pub has_place : View → Place → Bool
has_place v x = ltb x.time.0 (v x.seat.0)
