-- Rules 3 and 4 of document 01: the chain of the construction, and the count of its steps.
use Rattle.std.specs.Prelude.{◌≡◌, ◌≢◌, ℕ, zero, suc, ◌+◌, ◌-◌, ◌≤◌, ◌<◌, ℤ, pos, ◌-ℤ◌}
use Rattle.farm.specs.Sets.{Seats, size, outside, only}
use Rattle.farm.specs.declared.places.Seat.{Seat}
use Rattle.farm.specs.declared.places.Time.{Time}
use Rattle.knowledge.specs.Farm.{Farm}
use Rattle.knowledge.specs.Views.{views_of}
use Rattle.knowledge.specs.Known.{known_in}

-- ════ Rule 3: S, k and B ════

-- A stage of the chain: the seats Sᵢ, the time kᵢ, and Bᵢ, the set known in the view of Sᵢ at kᵢ.
pub record Stage : Type 0 where
  pub seats : Seats
  pub time : ℤ
  pub known : Seats

unfoldable pub stage_of : Farm → Seats → ℤ → Stage
stage_of farm set k = record { seats = set; time = k; known = known_in farm (views_of farm set k) }

-- S₀ = {p} and k₀ = ℓ. Then Sᵢ₊₁ is all seats outside Bᵢ, and kᵢ₊₁ = ℓ − (t + 1 − |Bᵢ|).
unfoldable pub stage : Farm → Seat → Time → ℕ → Stage
stage farm p ℓ zero = stage_of farm (only farm.seats p.0) (pos ℓ.0)
stage farm p ℓ (suc i) =
    let known = (stage farm p ℓ i).known in
    stage_of farm (outside farm.seats known)
    (pos ℓ.0 -ℤ (pos (farm.bound + 1) -ℤ pos (size farm.seats known)))

-- ════ Rule 4: the count of steps ════

-- The first h ≥ 1 with B at h equal to B at h − 1.
pub record IsSteps (farm : Farm) (p : Seat) (ℓ : Time) (h : ℕ) : Type 0 where
  pub begun : 1 ≤ h
  pub still : (stage farm p ℓ h).known ≡ (stage farm p ℓ (h - 1)).known
  pub first : (j : ℕ) → 1 ≤ j → j < h → (stage farm p ℓ j).known ≢ (stage farm p ℓ (j - 1)).known
