-- Agreement: where at most t seats have lost a send, all seats keep the same set. The core that shows a kept set has reached
-- every clean seat one round after the critical time, so that set is inside every set of every other seat's chain.
-- Assumes nothing.
use mathlib.Core.Path.{◌≡◌, sym, ◌∙◌, ap}
use mathlib.Core.Logic.{◌⊎◌, inl, inr}
use mathlib.Core.Bool.{false}
use Prim.Native.Nat.{ℕ, zero, suc, ◌+◌, ◌≤◌, ◌<◌}
use native.Mathlib.Nat.{le_trans, lt_of_lt_of_le, lt_of_le_of_lt, eq-or-lt_of_le}
use native.Mathlib.Omega.{arith}
use Rattle.farm.specs.Sets.{Seats, bit, size}
use Rattle.farm.proofs.Cases.{false-back, less-or-not}
use Rattle.farm.proofs.SetLaws.{Subset, size-equal, size-misses, subset-equal, subsets-equal}
use Rattle.farm.specs.declared.places.Seat.{Seat}
use Rattle.knowledge.specs.Farm.{Farm, IsSeat, time, losers_by}
use Rattle.knowledge.specs.Views.{view}
use Rattle.knowledge.specs.Known.{known_in}
use Rattle.knowledge.specs.Chain.{stage}
use Rattle.knowledge.specs.Settled.{Settled, Outcome, over_bound, settled, IsSettled, IsOutcome, critical_time, core_view, next}
use Rattle.knowledge.specs.Promises.{Alike}
use Rattle.knowledge.proofs.ViewLaws.{view-receives}
use Rattle.knowledge.proofs.ChainLaws.{stage-start, stage-known}
use Rattle.knowledge.proofs.KnownTheory.{known-grows, clean-delivers, clean-seen}
use Rattle.knowledge.proofs.CriticalTime.{delay, saved, core-has, core-from}
use Rattle.knowledge.proofs.OutcomeTheory.{answer-fixed}
use Rattle.knowledge.proofs.SoundChain.{Sound, clean-outside, start-within, stage-sound}

module _ (farm : Farm) (fits : farm.bound < farm.seats) (ℓ : ℕ) (few : size farm.seats (losers_by farm (time ℓ)) ≤ farm.bound) where
  -- ════ The core spreads ════

  -- In the last round the set holds all losers, so whoever is outside it is clean.
  last-clean : (known : Seats) → Sound farm ℓ known → (g m : ℕ) → g < farm.seats → bit known g ≡ false
      → m + delay farm ≡ ℓ + saved farm known → suc m ≡ ℓ → bit (losers_by farm (time ℓ)) g ≡ false
  last-clean known s g m hg f at last =
      false-back (bit (losers_by farm (time ℓ)) g) (bit known g)
      (size-equal farm.seats known (losers_by farm (time ℓ)) s.losers (omega arith) g hg) f

  -- Whoever is outside has delivered to a clean seat in the round after the critical time.
  outside-heard : (known : Seats) → Sound farm ℓ known → (r g m x : ℕ) → r < farm.seats → bit (losers_by farm (time ℓ)) r ≡ false
      → g < farm.seats → bit known g ≡ false → m + delay farm ≡ ℓ + saved farm known
      → view farm g m x ≤ view farm r (suc m) x
  outside-heard known s r g m x hr clean hg f at = by (eq-or-lt_of_le done)
    where
      done : suc m ≤ ℓ
      done = omega (arith, s.falling.within)

      by : (suc m ≡ ℓ) ⊎ (suc m < ℓ) → view farm g m x ≤ view farm r (suc m) x
      by (inl last) = clean-delivers farm ℓ r g m x hr hg done (last-clean known s g m hg f at last)
      by (inr early) =
          view-receives farm r g m x hg
          (false-back (farm.lost (suc m) g r) (bit known g) (s.heard r g m hr clean hg (omega arith) early) f)

  -- At most t seats are losers, so some seat is clean.
  one-clean : (r : ℕ) × (r < farm.seats) × (bit (losers_by farm (time ℓ)) r ≡ false)
  one-clean = size-misses farm.seats (losers_by farm (time ℓ)) (lt_of_le_of_lt few fits)

  -- The core is inside every seat's own view, as the clean seat has passed it on, or the trusted seats themselves in the last round.
  core-seen : (known : Seats) → Sound farm ℓ known → (p : ℕ) → p < farm.seats → (x j : ℕ)
      → j < core_view farm ℓ known x → j < view farm p ℓ x
  core-seen known s p hp x j h = lt_of_lt_of_le c.5 (by (eq-or-lt_of_le done))
    where
      c : (g : ℕ) × (m : ℕ) × (g < farm.seats) × (bit known g ≡ false)
          × (m + delay farm ≡ ℓ + saved farm known) × (j < view farm g m x)
      c = core-from farm ℓ known s.falling.within x j h

      done : suc c.1 ≤ ℓ
      done = omega (arith, s.falling.within, c.4)

      by : (suc c.1 ≡ ℓ) ⊎ (suc c.1 < ℓ) → view farm c.0 c.1 x ≤ view farm p ℓ x
      by (inl last) = clean-seen farm ℓ p c.0 c.1 x hp c.2 done (last-clean known s c.0 c.1 c.2 c.3 c.4 last)
      by (inr early) =
          let r = one-clean in
          le_trans (outside-heard known s r.0 c.0 c.1 x r.1 r.2 c.2 c.3 c.4)
          (clean-seen farm ℓ p r.0 (suc c.1) x hp r.1 early r.2)

  -- It is inside the view that follows from any larger set, where the clean seat is trusted at a later time.
  core-kept : (known larger : Seats) → Sound farm ℓ known → Sound farm ℓ larger → size farm.seats known < size farm.seats larger
      → (x j : ℕ) → j < core_view farm ℓ known x → j < core_view farm ℓ larger x
  core-kept known larger s l less x j h =
      let c = core-from farm ℓ known s.falling.within x j h in
      let r = one-clean in
      let late : suc c.1 + delay farm ≤ ℓ + saved farm larger = omega (arith, c.4) in
      lt_of_lt_of_le c.5
      (le_trans (outside-heard known s r.0 c.0 c.1 x r.1 r.2 c.2 c.3 c.4)
      (core-has farm ℓ larger l.falling.within r.0 (suc c.1) x r.1 (clean-outside farm ℓ larger l r.0 r.1 r.2) late))

  -- ════ A kept set is inside every chain ════

  start-keeps : (known : Seats) → Sound farm ℓ known → next farm ℓ known ≡ known → (p : ℕ) → p < farm.seats
      → Subset farm.seats known (known_in farm (view farm p ℓ))
  unfolding next
  start-keeps known s still p hp =
      rw still at (known-grows farm (core_view farm ℓ known) (view farm p ℓ) (core-seen known s p hp))

  next-keeps : (known larger : Seats) → Sound farm ℓ known → next farm ℓ known ≡ known → Sound farm ℓ larger
      → Subset farm.seats known larger → Subset farm.seats known (next farm ℓ larger)
  unfolding next
  next-keeps known larger s still l inside = by (less-or-not (size farm.seats known) (size farm.seats larger))
    where
      by : (size farm.seats known < size farm.seats larger) ⊎ (size farm.seats larger ≤ size farm.seats known)
          → Subset farm.seats known (next farm ℓ larger)
      by (inl less) = rw still at (known-grows farm (core_view farm ℓ known) (core_view farm ℓ larger) (core-kept known larger s l less))
      by (inr most) =
          let same : known ≡ larger = subset-equal farm.seats known larger s.falling.real l.falling.real inside most in
          λ z hz e. rw (← same) (rw (← still) at e)

  pub stage-keeps : (known : Seats) → Sound farm ℓ known → next farm ℓ known ≡ known → (p : Seat) → IsSeat farm p → (i : ℕ)
      → Subset farm.seats known (stage farm p (time ℓ) i).known
  stage-keeps known s still p hp zero = rw (stage-start farm p (time ℓ) hp) (start-keeps known s still p.0 hp)
  stage-keeps known s still p hp (suc i) =
      rw (stage-known farm p (time ℓ) i)
      (next-keeps known (stage farm p (time ℓ) i).known s still (stage-sound farm fits ℓ few p hp i) (stage-keeps known s still p hp i))

  -- ════ All seats are answered, and keep the same set ════

  pub never-over : (p : Seat) → IsSeat farm p → ¬ IsOutcome farm p (time ℓ) over_bound
  never-over p hp over = omega (arith, start-within farm fits ℓ few p hp)

  pub kept-sound : (p : Seat) → IsSeat farm p → (s : Settled) → IsSettled farm p (time ℓ) s → Sound farm ℓ s.kept
  kept-sound p hp s a = rw a.kept (stage-sound farm fits ℓ few p hp s.steps)

  kept-inside : (p q : Seat) → IsSeat farm p → IsSeat farm q → (s r : Settled) → IsSettled farm p (time ℓ) s → IsSettled farm q (time ℓ) r
      → Subset farm.seats s.kept r.kept
  kept-inside p q hp hq s r a b =
      rw b.kept (stage-keeps s.kept (kept-sound p hp s a) (answer-fixed farm p (time ℓ) s a).0 q hq r.steps)

  pub kept-agrees : (p q : Seat) → IsSeat farm p → IsSeat farm q → (s r : Settled) → IsSettled farm p (time ℓ) s → IsSettled farm q (time ℓ) r
      → s.kept ≡ r.kept
  kept-agrees p q hp hq s r a b =
      subsets-equal farm.seats s.kept r.kept (kept-sound p hp s a).falling.real (kept-sound q hq r b).falling.real
      (kept-inside p q hp hq s r a b) (kept-inside q p hq hp r s b a)

  pub answers_agree : (p q : Seat) → IsSeat farm p → IsSeat farm q → (s r : Settled) → IsSettled farm p (time ℓ) s → IsSettled farm q (time ℓ) r
      → (s.critical ≡ r.critical) × (s.kept ≡ r.kept) × (s.core ≡ r.core)
  answers_agree p q hp hq s r a b =
      let same = kept-agrees p q hp hq s r a b in
      let f = answer-fixed farm p (time ℓ) s a in
      let g = answer-fixed farm q (time ℓ) r b in
      (f.1 ∙ ap (critical_time farm ℓ) same ∙ sym g.1, same, f.2 ∙ ap (core_view farm ℓ) same ∙ sym g.2)

  pub outcomes-agree : (p q : Seat) → IsSeat farm p → IsSeat farm q → (o r : Outcome) → IsOutcome farm p (time ℓ) o → IsOutcome farm q (time ℓ) r
      → Alike o r
  outcomes-agree p q hp hq over_bound r a b = never-over p hp a
  outcomes-agree p q hp hq (settled s) over_bound a b = never-over q hq b
  outcomes-agree p q hp hq (settled s) (settled r) a b = answers_agree p q hp hq s r a.1 b.1
