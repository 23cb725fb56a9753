-- What the code answers, for each outcome of specs/Settled.antt: the meaning of each case of its structs and enums.
use Rattle.std.specs.Prelude.{◌≡◌, true, ℕ, ◌^◌, ◌≤◌, ◌<◌, Result, Ok, Err}
use Rattle.farm.specs.Sets.{Seats, bit, size}
use Rattle.farm.specs.declared.places.Time.{Time}
use Rattle.farm.specs.declared.refusals.Refusal.{Refusal}
use Rattle.farm.specs.declared.refusals.Refusal.TheVariants.{OverBound}
use Rattle.knowledge.specs.Farm.{Farm}
use Rattle.knowledge.specs.Views.{View}
use Rattle.knowledge.specs.Settled as rules
use Rattle.knowledge.specs.Settled.{Outcome, over_bound, settled, core_view, next, settle_from}
use Rattle.viewing.specs.Counts.{counts}
use Rattle.viewing.specs.declared.views.Counts.{Counts}
use Rattle.construction.specs.declared.settled.Settled.{Settled}

-- ════ Answers ════

abbrev pub counts_for : ℕ → View → Counts
counts_for n v = record { of = counts n v }

-- Rule 5: the count of steps h, the critical time kₕ, the kept set Bₕ, and the core as counts.
abbrev pub settled_for : ℕ → rules.Settled → Settled
settled_for n s = record { steps = s.steps; critical = s.critical; kept = s.kept; core = counts_for n s.core }

-- Rule 6: refusal 9, or the settled answer.
abbrev pub answer_for : ℕ → Outcome → Result Settled Refusal
answer_for n over_bound = Err OverBound
answer_for n (settled s) = Ok (settled_for n s)

-- ════ What the recursion of the construction stands on ════

-- The view that is looked at after a known set, and what is settled from it on.
abbrev pub core_at : Farm → Time → Seats → View
core_at farm ℓ known = core_view farm ℓ.0 known

abbrev pub settled_from : Farm → Time → (left steps : ℕ) → Seats → rules.Settled
settled_from farm ℓ left steps known = settle_from farm ℓ.0 left steps known

-- A known set within the bound, from which the next step only takes seats out. Every stage of the chain of rule 3 is one.
pub record Shrinks (farm : Farm) (ℓ : Time) (known : Seats) : Type 0 where
  pub real : known < 2 ^ farm.seats
  pub within : size farm.seats known ≤ farm.bound
  pub falls : (z : ℕ) → z < farm.seats → bit (next farm ℓ.0 known) z ≡ true → bit known z ≡ true
