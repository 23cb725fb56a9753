-- The chain falls. A seat that a step takes out of the known set has delivered to some seat that was trusted before, one round
-- later than the new critical time; so the view of each step lies inside the view of the step before.
-- Assumes nothing.
use mathlib.Core.Path.{◌≡◌, subst}
use mathlib.Core.Logic.{◌⊎◌, inl, inr, ⊎_elim}
use Prim.Native.Nat.{ℕ, zero, suc, ◌+◌, ◌^◌, ◌≤◌, ◌<◌}
use native.Mathlib.Nat.{le_trans, le_of_lt, lt_of_lt_of_le, lt_of_le_of_lt}
use native.Mathlib.Omega.{arith}
use Rattle.farm.specs.Sets.{Seats, size, outside}
use Rattle.farm.proofs.Cases.{less-or-not}
use Rattle.farm.proofs.SetLaws.{Subset, size_mono, size-misses, subset-equal}
use Rattle.farm.specs.declared.places.Seat.{Seat}
use Rattle.farm.specs.declared.places.Time.{Time}
use Rattle.knowledge.specs.Farm.{Farm, IsSeat}
use Rattle.knowledge.specs.Views.{View, view, views_of}
use Rattle.knowledge.specs.Known.{known_in}
use Rattle.knowledge.specs.Chain.{stage_of, stage}
use Rattle.knowledge.specs.Settled.{critical_time, core_view, next}
use Rattle.knowledge.proofs.ViewLaws.{view-own, views-of-one}
use Rattle.knowledge.proofs.ChainLaws.{stage-start, stage-known, stage-view}
use Rattle.knowledge.proofs.ViewTheory.{view-own-past, view-closed, Closed, views-closed}
use Rattle.knowledge.proofs.KnownTheory.{known-below, known-grows, unknown-delivers}
use Rattle.knowledge.proofs.CriticalTime.{delay, saved, core-has, core-from}

-- A known set within the bound from which the next step only takes seats out.
pub record Falling (farm : Farm) (ℓ : ℕ) (known : Seats) : Type 0 where
  pub real : known < 2 ^ farm.seats
  pub within : size farm.seats known ≤ farm.bound
  pub falls : Subset farm.seats (next farm ℓ known) known

-- ════ One step ════

pub core-closed : (farm : Farm) (ℓ : ℕ) (known : Seats) → Closed farm (core_view farm ℓ known)
unfolding core_view
core-closed farm ℓ known = views-closed farm (outside farm.seats known) (critical_time farm ℓ known)

-- A step that brings a change takes a seat out.
pub change-falls : (farm : Farm) (ℓ : ℕ) (known : Seats) → Falling farm ℓ known
    → (next farm ℓ known ≡ known) ⊎ (size farm.seats (next farm ℓ known) < size farm.seats known)
unfolding next
change-falls farm ℓ known f =
    ⊎_elim inr
    (λ l. inl (subset-equal farm.seats (next farm ℓ known) known (known-below farm (core_view farm ℓ known)) f.real f.falls l))
    (less-or-not (size farm.seats (next farm ℓ known)) (size farm.seats known))

pub core-shrinks : (farm : Farm) → farm.bound < farm.seats → (ℓ : ℕ) (known : Seats) → Falling farm ℓ known
    → (q j : ℕ) → j < core_view farm ℓ (next farm ℓ known) q → j < core_view farm ℓ known q
unfolding next
core-shrinks farm fits ℓ known f q j h = by (change-falls farm ℓ known f)
  where
    by : (next farm ℓ known ≡ known) ⊎ (size farm.seats (next farm ℓ known) < size farm.seats known) → j < core_view farm ℓ known q
    by (inl same) = rw same at h
    by (inr less) =
        let c = core-from farm ℓ (next farm ℓ known) (le_trans (le_of_lt less) f.within) q j h in
        let r = size-misses farm.seats known (lt_of_le_of_lt f.within fits) in
        let late : suc c.1 + delay farm ≤ ℓ + saved farm known = omega (arith, c.4) in
        let seen = lt_of_lt_of_le (view-own farm r.0 (suc c.1)) (core-has farm ℓ known f.within r.0 (suc c.1) r.0 r.1 r.2 late) in
        lt_of_lt_of_le c.5
        (unknown-delivers farm (core_view farm ℓ known) (core-closed farm ℓ known) r.0 c.0 c.1 q r.1 c.2 seen c.3)

pub next-falls : (farm : Farm) → farm.bound < farm.seats → (ℓ : ℕ) (known : Seats) → Falling farm ℓ known → Falling farm ℓ (next farm ℓ known)
unfolding next
next-falls farm fits ℓ known f = record {
  real = known-below farm (core_view farm ℓ known);
  within = le_trans (size_mono farm.seats (next farm ℓ known) known f.falls) f.within;
  falls = known-grows farm (core_view farm ℓ (next farm ℓ known)) (core_view farm ℓ known) (core-shrinks farm fits ℓ known f);
}

-- ════ The first step ════

-- Whoever the seat does not know has delivered to the seat itself.
start-shrinks : (farm : Farm) (p ℓ : ℕ) → p < farm.seats → size farm.seats (known_in farm (view farm p ℓ)) ≤ farm.bound
    → (q j : ℕ) → j < core_view farm ℓ (known_in farm (view farm p ℓ)) q → j < view farm p ℓ q
start-shrinks farm p ℓ hp within q j h =
    let c = core-from farm ℓ (known_in farm (view farm p ℓ)) within q j h in
    let seen = view-own-past farm p (suc c.1) ℓ (omega (arith, c.4)) in
    lt_of_lt_of_le c.5 (unknown-delivers farm (view farm p ℓ) (view-closed farm p ℓ) p c.0 c.1 q hp c.2 seen c.3)

start_falls : (farm : Farm) (p ℓ : ℕ) → p < farm.seats → size farm.seats (known_in farm (view farm p ℓ)) ≤ farm.bound
    → Falling farm ℓ (known_in farm (view farm p ℓ))
unfolding next
start_falls farm p ℓ hp within = record {
  real = known-below farm (view farm p ℓ);
  within = within;
  falls = known-grows farm (core_view farm ℓ (known_in farm (view farm p ℓ))) (view farm p ℓ) (start-shrinks farm p ℓ hp within);
}

-- ════ Every step ════

pub stage-falls : (farm : Farm) → farm.bound < farm.seats → (p : Seat) (ℓ : Time) → IsSeat farm p
    → size farm.seats (stage farm p ℓ 0).known ≤ farm.bound → (i : ℕ) → Falling farm ℓ.0 (stage farm p ℓ i).known
stage-falls farm fits p ℓ hp within zero =
    rw (stage-start farm p ℓ hp) (start_falls farm p.0 ℓ.0 hp (rw (stage-start farm p ℓ hp) at within))
stage-falls farm fits p ℓ hp within (suc i) =
    rw (stage-known farm p ℓ i) (next-falls farm fits ℓ.0 (stage farm p ℓ i).known (stage-falls farm fits p ℓ hp within i))

-- Every view that the chain looks at is inside the asking seat's own.
pub core-inside : (farm : Farm) → farm.bound < farm.seats → (p : Seat) (ℓ : Time) → IsSeat farm p
    → size farm.seats (stage farm p ℓ 0).known ≤ farm.bound → (i q j : ℕ)
    → j < core_view farm ℓ.0 (stage farm p ℓ i).known q → j < view farm p.0 ℓ.0 q
core-inside farm fits p ℓ hp within zero q j h =
    start-shrinks farm p.0 ℓ.0 hp (rw (stage-start farm p ℓ hp) at within) q j (rw (stage-start farm p ℓ hp) at h)
core-inside farm fits p ℓ hp within (suc i) q j h =
    core-inside farm fits p ℓ hp within i q j
    (core-shrinks farm fits ℓ.0 (stage farm p ℓ i).known (stage-falls farm fits p ℓ hp within i) q j (rw (stage-known farm p ℓ i) at h))

pub stage-inside : (farm : Farm) → farm.bound < farm.seats → (p : Seat) (ℓ : Time) → IsSeat farm p
    → size farm.seats (stage farm p ℓ 0).known ≤ farm.bound → (i q j : ℕ)
    → j < views_of farm (stage farm p ℓ i).seats (stage farm p ℓ i).time q → j < view farm p.0 ℓ.0 q
unfolding stage stage_of
stage-inside farm fits p ℓ hp within zero q j h = rw (views-of-one farm p.0 ℓ.0 q hp) at h
stage-inside farm fits p ℓ hp within (suc i) q j h =
    core-inside farm fits p ℓ hp within i q j (subst (λ (v : View). j < v q) (stage-view farm p ℓ i) h)
