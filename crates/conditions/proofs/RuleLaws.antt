-- The rules in their own words have one answer, and it is the computed one.
-- Assumes nothing.
use mathlib.Core.Path.{◌≡◌, refl, sym, ◌∙◌, ap}
use mathlib.Core.Logic.{◌↔◌}
use mathlib.Core.Bool.{Bool, true, false, not}
use mathlib.Core.List.{List}
use Prim.Native.Nat.{ℕ, zero, suc, ◌<◌}
use native.Mathlib.Nat.{le_antisymm}
use native.Mathlib.Omega.{arith}
use lib.IntN.{ℤ, pos, negsuc}
use lib.Seq.{ext_get_or}
use borrow.Author.Tests.{eqb-true, eq-eqb}
use Rattle.farm.specs.Sets.{Seats, bit, outside, only}
use Rattle.farm.specs.declared.places.Seat.{Seat}
use Rattle.farm.specs.declared.places.Time.{Time}
use Rattle.farm.proofs.Cases.{true-together}
use Rattle.farm.proofs.SetLaws.{collect-below, bits-equal, bit-outside, bit-only}
use Rattle.knowledge.specs.Farm.{Farm, Place, seat, time, place}
use Rattle.knowledge.specs.Views.{View, InViews, views_of, latest, latest_times}
use Rattle.knowledge.specs.Known.{Known, known_in}
use Rattle.knowledge.specs.Chain.{stage_of, stage}
use Rattle.knowledge.proofs.KnownTheory.{known-below}
use Rattle.knowledge.proofs.Promises.{known-is-computed}
use Rattle.telling.proofs.TimeLaws.{length-times, get_or-times}
use Rattle.conditions.specs.Rules.{IsSet, Latest, none, up_to, IsView, IsChain}

-- ════ Sets ════

-- Two sets of the same seats are the same number.
pub set-unique : (n : ℕ) (property : Seat → Type 0) (a b : Seats) → IsSet n property a → IsSet n property b → a ≡ b
set-unique n property a b x y =
    bits-equal n a b x.small y.small (λ q h.
    true-together (bit a q) (bit b q) (λ e. (y.exact (seat q) h).1 ((x.exact (seat q) h).0 e)) (λ e. (x.exact (seat q) h).1 ((y.exact (seat q) h).0 e)))

not-true : (b : Bool) → (not b ≡ true) ↔ (b ≡ false)
not-true true = (λ e. sym e, λ e. sym e)
not-true false = (λ e. refl, λ e. refl)

one-is : (n : ℕ) (p : Seat) → IsSet n (λ q. q.0 ≡ p.0) (only n p.0)
unfolding only
one-is n p = record {
  small = collect-below n _;
  exact = λ z h. rw (bit-only n p.0 z.0 h) (eqb-true z.0 p.0, eq-eqb z.0 p.0);
}

outside-is : (n : ℕ) (set : Seats) → IsSet n (λ q. bit set q.0 ≡ false) (outside n set)
unfolding outside
outside-is n set = record { small = collect-below n _; exact = λ z h. rw (bit-outside n set z.0 h) (not-true (bit set z.0)) }

known_is : (farm : Farm) (set : Seats) (k : ℤ) → IsSet farm.seats (Known farm (InViews farm set k)) (known_in farm (views_of farm set k))
known_is farm set k = record {
  small = known-below farm (views_of farm set k);
  exact = λ z h. let same = known-is-computed farm set k z h in (same.1, same.0);
}

-- ════ Views as they are given ════

latest-is : (has : Time → Type 0) (c : ℕ) → ((k : Time) → has k ↔ (k.0 < c)) → Latest has (latest c)
latest-is has zero same = none (λ k h. let l = (same k).0 h in absurd (omega arith))
latest-is has (suc j) same = up_to j (λ k. (λ h. let l = (same k).0 h in omega arith, λ l. (same k).1 (omega arith)))

latest-unique : (has : Time → Type 0) (a b : ℤ) → Latest has a → Latest has b → a ≡ b
latest-unique has a b (none x) (none y) = refl
latest-unique has a b (none x) (up_to j y) = absurd (x (time 0) ((y (time 0)).1 (omega arith)))
latest-unique has a b (up_to i x) (none y) = absurd (y (time 0) ((x (time 0)).1 (omega arith)))
latest-unique has a b (up_to i x) (up_to j y) =
    ap pos (le_antisymm ((y (time i)).0 ((x (time i)).1 (omega arith))) ((x (time j)).0 ((y (time j)).1 (omega arith))))

-- Counts that say which times of a seat are among the places give those places.
pub view-is : (n : ℕ) (places : Place → Type 0) (v : View) → ((x : Place) → places x ↔ (x.time.0 < v x.seat.0)) → IsView n places (latest_times n v)
view-is n places v same = record {
  count = length-times n v;
  each = λ q h. rw (get_or-times n v q.0 (negsuc 0) h) (latest-is (λ k. places (place q k)) (v q.0) (λ k. same (place q k)));
}

pub view-unique : (n : ℕ) (places : Place → Type 0) (a b : List ℤ) → IsView n places a → IsView n places b → a ≡ b
view-unique n places a b x y =
    ext_get_or (negsuc 0) a b (x.count ∙ sym y.count) (λ i h.
    let h' : i < n = omega (arith, x.count) in latest-unique _ _ _ (x.each (seat i) h') (y.each (seat i) h'))

-- ════ The chain ════

pub stage-is-chain : (farm : Farm) (p : Seat) (ℓ : Time)
    → IsChain farm p ℓ (λ i. (stage farm p ℓ i).seats) (λ i. (stage farm p ℓ i).time) (λ i. (stage farm p ℓ i).known)
unfolding stage stage_of
stage-is-chain farm p ℓ = record {
  first_seats = one-is farm.seats p;
  first_time = refl;
  known = known;
  next_seats = λ i. outside-is farm.seats (stage farm p ℓ i).known;
  next_time = λ i. refl;
}
  where
    known : (i : ℕ) → IsSet farm.seats (Known farm (InViews farm (stage farm p ℓ i).seats (stage farm p ℓ i).time)) (stage farm p ℓ i).known
    known zero = known_is farm _ _
    known (suc i) = known_is farm _ _

-- Every chain in the rules' words is that one.
pub record Same (farm : Farm) (p : Seat) (ℓ : Time) (S : ℕ → Seats) (k : ℕ → ℤ) (B : ℕ → Seats) (i : ℕ) : Type 0 where
  pub seats : S i ≡ (stage farm p ℓ i).seats
  pub time : k i ≡ (stage farm p ℓ i).time
  pub known : B i ≡ (stage farm p ℓ i).known

module _ (farm : Farm) (p : Seat) (ℓ : Time) (S : ℕ → Seats) (k : ℕ → ℤ) (B : ℕ → Seats) (chain : IsChain farm p ℓ S k B) where
  same_at : (i : ℕ) → S i ≡ (stage farm p ℓ i).seats → k i ≡ (stage farm p ℓ i).time → Same farm p ℓ S k B i
  same_at i s t = record {
    seats = s;
    time = t;
    known =
        let own : IsSet farm.seats (Known farm (InViews farm (stage farm p ℓ i).seats (stage farm p ℓ i).time)) (B i)
        = rw (s, t) at (chain.known i) in
        set-unique farm.seats _ (B i) (stage farm p ℓ i).known own ((stage-is-chain farm p ℓ).known i);
  }

  pub chain-unique : (i : ℕ) → Same farm p ℓ S k B i
  unfolding stage stage_of
  chain-unique zero = same_at zero (set-unique farm.seats _ _ _ chain.first_seats (one-is farm.seats p)) chain.first_time
  chain-unique (suc i) =
      let before = chain-unique i in
      let seats : IsSet farm.seats (λ q. bit (stage farm p ℓ i).known q.0 ≡ false) (S (suc i)) = rw before.known at (chain.next_seats i) in
      same_at (suc i)
      (set-unique farm.seats _ _ _ seats (outside-is farm.seats (stage farm p ℓ i).known))
      (chain.next_time i ∙ rw before.known)
