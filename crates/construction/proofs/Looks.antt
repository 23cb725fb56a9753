-- No answer looks past the rounds of its record: two farms that agree on the sends of their seats in the rounds up to R give the
-- same answers at every time up to R. So a table of losses may be longer than the record.
-- Assumes nothing.
use mathlib.Core.Path.{◌≡◌, refl, sym, ◌∙◌, ap, ap₂, fun_ext}
use mathlib.Core.Logic.{⊎_elim}
use mathlib.Core.Bool.{Bool, ◌&&◌, not, true, false}
use mathlib.Core.List.{List}
use Prim.Native.Nat.{ℕ, zero, suc, ◌+◌, ◌-◌, ◌*◌, ◌≤◌, ◌<◌, max}
use native.Mathlib.Nat.{mul-le-mul, le_refl}
use native.Mathlib.Omega.{arith}
use lib.Dec.{ltb, eqb}
use lib.ListN.{take}
use lib.Seq.{get_or-take}
use Rattle.farm.specs.Sets.{Seats, bit, size}
use Rattle.farm.specs.declared.places.Seat.{Seat}
use Rattle.farm.specs.declared.places.Time.{Time}
use Rattle.farm.proofs.Cases.{less-or-not}
use Rattle.farm.proofs.SetLaws.{collect-equal}
use Rattle.knowledge.specs.Farm.{Farm, lost_in, loses_in, loses_by, losers_by, losers}
use Rattle.knowledge.specs.Views.{View, up_to, view, view_of, views_of}
use Rattle.knowledge.specs.Known.{missed_at, missed, known_in, known_of}
use Rattle.knowledge.specs.Settled.{settled, critical_time, core_view, next, reached, settle_from, outcome_of}
use Rattle.knowledge.proofs.ViewLaws.{le-of-below}
use Rattle.knowledge.proofs.ViewTheory.{view-past}
use Rattle.knowledge.proofs.CriticalTime.{core-from}
use Rattle.knowledge.proofs.ChainLaws.{settle-over, settle-within}
use Rattle.knowledge.proofs.ChainTheory.{Falling, next-falls}
use Rattle.construction.proofs.KnownSteps.{any-equal}
use Rattle.viewing.proofs.ViewSteps.{joined-equal}
use Rattle.construction.proofs.SettleSteps.{minus-at, minus-below, critical-is, own-shrinks, shrinks-falling}

abbrev with : (n t R : ℕ) → (ℕ → ℕ → ℕ → Bool) → Farm
with n t R f = record { seats = n; bound = t; rounds = R; lost = f }

module _ (n t R : ℕ) (f g : ℕ → ℕ → ℕ → Bool) (same : (r s q : ℕ) → r ≤ R → s < n → f r s q ≡ g r s q) where
  abbrev F : Farm
  F = with n t R f

  abbrev G : Farm
  G = with n t R g

  at : (p k q : ℕ) → k ≤ R → view F p k q ≡ view G p k q
  unfolding view
  at p zero q h = refl
  at p (suc k) q h =
      ap₂ (λ (x y : ℕ). max (max (up_to p (suc k) q) x) y) (at p k q (omega arith))
      (joined-equal n _ _ _ _ q (λ s l. ap not (same (suc k) s p h l)) (λ s l. at s k q (omega arith)))

  pub view-same : (p k : ℕ) → k ≤ R → view F p k ≡ view G p k
  view-same p k h = fun_ext (λ q. at p k q h)

  known_same : (v : View) → ((q : ℕ) → v q ≤ suc R) → known_in F v ≡ known_in G v
  unfolding known_in missed missed_at
  known_same v low =
      collect-equal n _ _ (λ z l. any-equal n _ _ (λ q m. any-equal (v q) _ _ (λ r j.
      ap (λ (b : Bool). ltb 0 r && b) (same r z q (let h = low q in omega arith) l))))

  low-view : (p k q : ℕ) → k ≤ R → view F p k q ≤ suc R
  low-view p k q h = le-of-below _ _ (λ j l. let e = view-past F p k q j l in omega arith)

  pub known-of-same : (p : Seat) (ℓ : Time) → ℓ.0 ≤ R → known_of F p ℓ ≡ known_of G p ℓ
  known-of-same p ℓ h = known_same (view_of F p ℓ) (λ q. low-view p.0 ℓ.0 q h) ∙ ap (known_in G) (view-same p.0 ℓ.0 h)

  -- The core that follows from a set within the bound.
  module _ (ℓ : ℕ) (h : ℓ ≤ R) (known : Seats) (within : size n known ≤ t) where
    low-core : (q : ℕ) → core_view F ℓ known q ≤ suc R
    low-core q =
        le-of-below _ _ (λ j l.
        let w = core-from F ℓ known within q j l in
        let past = view-past F w.0 w.1 q j w.5 in
        let m = w.4 in
        omega arith)

    core-same : core_view F ℓ known ≡ core_view G ℓ known
    unfolding core_view views_of
    core-same = rw (← critical-is F ℓ known within, ← critical-is G ℓ known within) (⊎_elim
        (λ early. rw (minus-below ℓ (t + 1 - size n known) early) refl)
        (λ late. rw (minus-at ℓ (t + 1 - size n known) late) (fun_ext (λ q. joined-equal n _ _ _ _ q (λ s l. refl) (λ s l. at s _ q (omega arith)))))
        (less-or-not ℓ (t + 1 - size n known)))

    next-same : next F ℓ known ≡ next G ℓ known
    unfolding next
    next-same = known_same (core_view F ℓ known) low-core ∙ ap (known_in G) core-same

    reached-same : (steps : ℕ) → reached F ℓ steps known ≡ reached G ℓ steps known
    unfolding reached critical_time
    reached-same steps = rw core-same

  settle-same : (ℓ : ℕ) → ℓ ≤ R → t < n → (left steps : ℕ) (known : Seats) → Falling F ℓ known
      → settle_from F ℓ left steps known ≡ settle_from G ℓ left steps known
  unfolding settle_from
  settle-same ℓ h fits zero steps known falling = reached-same ℓ h known falling.within steps
  settle-same ℓ h fits (suc left) steps known falling =
      let on : next F ℓ known ≡ next G ℓ known = next-same ℓ h known falling.within in
      let here = reached-same ℓ h known falling.within steps in
      let later = settle-same ℓ h fits left (suc steps) (next F ℓ known) (next-falls F fits ℓ known falling) ∙ ap (settle_from G ℓ left (suc steps)) on in
      λ i. elim (eqb (on i) known) [ true ↦ here i | false ↦ later i ]

  pub outcome-same : t < n → (p : Seat) → p.0 < n → (ℓ : Time) → ℓ.0 ≤ R → outcome_of F p ℓ ≡ outcome_of G p ℓ
  outcome-same fits p here ℓ h =
      rw (← known-of-same p ℓ h)
      (⊎_elim (λ over. settle-over F ℓ.0 _ over ∙ sym (settle-over G ℓ.0 _ over))
      (λ within.
      settle-within F ℓ.0 _ within
      ∙ ap settled (settle-same ℓ.0 h fits _ 1 (known_of F p ℓ) (shrinks-falling F ℓ.0 _ (own-shrinks F fits p ℓ here _ refl within)))
      ∙ sym (settle-within G ℓ.0 _ within))
      (less-or-not t (size n (known_of F p ℓ))))

  pub losers-same : losers F ≡ losers G
  unfolding losers_by loses_by loses_in
  losers-same = collect-equal n _ _ (λ z l. any-equal R _ _ (λ r k. any-equal n _ _ (λ q m. same (suc r) z q k l)))

-- A table of losses that is longer than the record, and the sets of the record.
module _ (n t R : ℕ) (table : List Seats) where
  pub used-losses : (r s q : ℕ) → r ≤ R → s < n → lost_in n (take (n * R) table) r s q ≡ lost_in n table r s q
  unfolding lost_in
  used-losses zero s q h l = refl
  used-losses (suc r) s q h l =
      let inside : suc r * n ≤ R * n = mul-le-mul h (le_refl n) in
      ap (λ (set : Seats). bit set q) (get_or-take (n * R) table (r * n + s) 0 (omega arith))
