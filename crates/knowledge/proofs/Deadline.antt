-- The deadline: a clean seat is trusted at the end of every chain, and the critical time is at least ℓ − (t + 1).
-- Assumes nothing.
use mathlib.Core.Path.{◌≡◌}
use mathlib.Core.Bool.{false}
use Prim.Native.Nat.{ℕ, ◌+◌, ◌≤◌, ◌<◌}
use native.Mathlib.Nat.{lt_of_lt_of_le}
use native.Mathlib.Omega.{arith}
use borrow.Author.Tests.{lt-ltb}
use Rattle.farm.specs.Sets.{bit, size}
use Rattle.farm.specs.declared.places.Seat.{Seat}
use Rattle.knowledge.specs.Farm.{Farm, Place, IsSeat, time, losers_by}
use Rattle.knowledge.specs.Views.{view}
use Rattle.knowledge.specs.Settled.{Settled, Outcome, over_bound, settled, IsSettled, IsOutcome, has_place}
use Rattle.knowledge.specs.Promises.{InCore}
use Rattle.knowledge.proofs.CriticalTime.{core-has}
use Rattle.knowledge.proofs.OutcomeTheory.{answer-fixed}
use Rattle.knowledge.proofs.SoundChain.{clean-outside}
use Rattle.knowledge.proofs.Agreement.{never-over, kept-sound}

module _ (farm : Farm) (fits : farm.bound < farm.seats) (ℓ : ℕ) (few : size farm.seats (losers_by farm (time ℓ)) ≤ farm.bound) where
  core-in-time : (p q : Seat) → IsSeat farm p → IsSeat farm q → bit (losers_by farm (time ℓ)) p.0 ≡ false
      → (e x : ℕ) → e + farm.bound + 1 ≤ ℓ → (s : Settled) → IsSettled farm q (time ℓ) s → view farm p.0 e x ≤ s.core x
  core-in-time p q hp hq clean e x late s a =
      let k = kept-sound farm fits ℓ few q hq s a in
      rw (answer-fixed farm q (time ℓ) s a).2
      (core-has farm ℓ s.kept k.falling.within p.0 e x hp (clean-outside farm ℓ s.kept k p.0 hp clean) (omega arith))

  pub place-in-time : (p q : Seat) → IsSeat farm p → IsSeat farm q → bit (losers_by farm (time ℓ)) p.0 ≡ false
      → (e : ℕ) → e + farm.bound + 1 ≤ ℓ → (x : Place) → x.time.0 < view farm p.0 e x.seat.0
      → (o : Outcome) → IsOutcome farm q (time ℓ) o → InCore x o
  unfolding has_place
  place-in-time p q hp hq clean e late x h over_bound a = never-over farm fits ℓ few q hq a
  place-in-time p q hp hq clean e late x h (settled s) a =
      lt-ltb _ _ (lt_of_lt_of_le h (core-in-time p q hp hq clean e x.seat.0 late s a.1))
