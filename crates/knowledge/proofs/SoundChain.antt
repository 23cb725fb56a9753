-- What holds along a chain where at most t seats have lost a send: it starts so, because a clean seat has sent to everyone in
-- every round, and each step keeps it, because a clean seat is trusted at every step.
-- Assumes nothing.
use mathlib.Core.Path.{◌≡◌}
use mathlib.Core.Logic.{⊎_elim}
use mathlib.Core.Bool.{true, false}
use Prim.Native.Nat.{ℕ, zero, suc, ◌+◌, ◌≤◌, ◌<◌}
use native.Mathlib.Nat.{le_trans, lt_of_lt_of_le}
use native.Mathlib.Omega.{arith}
use Rattle.farm.specs.Sets.{Seats, bit, size}
use Rattle.farm.proofs.Cases.{false-back}
use Rattle.farm.proofs.SetLaws.{Subset, size_mono}
use Rattle.farm.specs.declared.places.Seat.{Seat}
use Rattle.knowledge.specs.Farm.{Farm, IsSeat, time, losers_by}
use Rattle.knowledge.specs.Views.{view}
use Rattle.knowledge.specs.Known.{known_in}
use Rattle.knowledge.specs.Chain.{stage}
use Rattle.knowledge.specs.Settled.{core_view, next}
use Rattle.knowledge.proofs.ViewLaws.{view-own}
use Rattle.knowledge.proofs.KnownLaws.{known_intro}
use Rattle.knowledge.proofs.ChainLaws.{stage-start, stage-known}
use Rattle.knowledge.proofs.KnownTheory.{known-lost, clean-seen}
use Rattle.knowledge.proofs.CriticalTime.{delay, saved, core-has}
use Rattle.knowledge.proofs.ChainTheory.{Falling, change-falls, next-falls, stage-falls}

-- A set of a chain under the premise: it holds losers only, and whoever is outside it has delivered to each clean seat in the
-- round after the critical time, and before; the last round apart.
pub record Sound (farm : Farm) (ℓ : ℕ) (known : Seats) : Type 0 where
  pub falling : Falling farm ℓ known
  pub losers : Subset farm.seats known (losers_by farm (time ℓ))
  pub heard : (r g m : ℕ) → r < farm.seats → bit (losers_by farm (time ℓ)) r ≡ false → g < farm.seats
      → m + delay farm ≤ ℓ + saved farm known → suc m < ℓ → farm.lost (suc m) g r ≡ true → bit known g ≡ true

-- A clean seat is outside.
pub clean-outside : (farm : Farm) (ℓ : ℕ) (known : Seats) → Sound farm ℓ known → (r : ℕ) → r < farm.seats
    → bit (losers_by farm (time ℓ)) r ≡ false → bit known r ≡ false
clean-outside farm ℓ known s r hr clean = false-back (bit known r) (bit (losers_by farm (time ℓ)) r) (s.losers r hr) clean

-- ════ Every set of a chain is sound ════

module _ (farm : Farm) (fits : farm.bound < farm.seats) (ℓ : ℕ) (few : size farm.seats (losers_by farm (time ℓ)) ≤ farm.bound) where
  pub start-within : (p : Seat) → IsSeat farm p → size farm.seats (stage farm p (time ℓ) 0).known ≤ farm.bound
  start-within p hp =
      rw (stage-start farm p (time ℓ) hp)
      (le_trans (size_mono farm.seats (known_in farm (view farm p.0 ℓ)) (losers_by farm (time ℓ)) (known-lost farm p.0 ℓ)) few)

  start-sound : (p : Seat) → IsSeat farm p → Sound farm ℓ (stage farm p (time ℓ) 0).known
  start-sound p hp = record {
    falling = stage-falls farm fits p (time ℓ) hp (start-within p hp) 0;
    losers = rw (stage-start farm p (time ℓ) hp) (known-lost farm p.0 ℓ);
    heard = λ r g m hr clean hg late early e.
        rw (stage-start farm p (time ℓ) hp)
        (known_intro farm (view farm p.0 ℓ) g r (suc m) hg hr (omega arith)
        (lt_of_lt_of_le (view-own farm r (suc m)) (clean-seen farm ℓ p.0 r (suc m) r hp hr early clean)) e);
  }

  next-sound : (known : Seats) → Sound farm ℓ known → Sound farm ℓ (next farm ℓ known)
  unfolding next
  next-sound known s = record {
    falling = next-falls farm fits ℓ known s.falling;
    losers = λ z hz e. s.losers z hz (s.falling.falls z hz e);
    heard = λ r g m hr clean hg late early e.
        ⊎_elim
        (λ same. rw same (s.heard r g m hr clean hg (rw same at late) early e))
        (λ less.
        let seen = core-has farm ℓ known s.falling.within r (suc m) r hr (clean-outside farm ℓ known s r hr clean) (omega arith) in
        known_intro farm (core_view farm ℓ known) g r (suc m) hg hr (omega arith) (lt_of_lt_of_le (view-own farm r (suc m)) seen) e)
        (change-falls farm ℓ known s.falling);
  }

  pub stage-sound : (p : Seat) → IsSeat farm p → (i : ℕ) → Sound farm ℓ (stage farm p (time ℓ) i).known
  stage-sound p hp zero = start-sound p hp
  stage-sound p hp (suc i) = rw (stage-known farm p (time ℓ) i) (next-sound (stage farm p (time ℓ) i).known (stage-sound p hp i))
