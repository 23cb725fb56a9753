-- The laws of loss sets: how a round and the rounds come apart, set by set.
-- Assumes nothing.
use mathlib.Core.Path.{◌≡◌, ◌∙◌, ap₂}
use mathlib.Core.Logic.{◌⊎◌, inl, inr}
use mathlib.Core.Bool.{Bool, true, false, not, ◌&&◌}
use mathlib.Core.List.{List}
use Prim.Native.Nat.{ℕ, zero, suc, ◌/◌, ◌^◌, ◌<◌, ◌≤◌}
use native.Mathlib.Nat.{div-lt_iff_lt-mul, div-eq_of_lt, one-mul}
use lib.Dec.{ltb, lit<}
use lib.Pow.{pow_pos}
use borrow.Author.Tests.{lt-ltb, le-ltb}
use Rattle.farm.specs.Limits.{Limits}
use Rattle.farm.specs.Sets.{Seats, bit}
use Rattle.farm.specs.declared.places.Seat.{Seat}
use Rattle.farm.specs.declared.refusals.Refusal.{Refusal}
use Rattle.farm.specs.declared.refusals.Refusal.TheVariants.{BadLossSet}
use Rattle.farm.proofs.Cases.{less-or-not}
use Rattle.record.specs.Taking.{value, refused, ◌>>=◌, when}
use Rattle.record.specs.Numbers.{take_number}
use Rattle.record.specs.Losses.{first_seat, seat_after, good_set, take_set, take_round, take_rounds}
use Rattle.record.proofs.TakingLaws.{bind-value, when-value, Tail, tail_all, tail-trans}
use Rattle.record.proofs.NumberLaws.{number-tail}

-- ════ One set ════

pub small-set : (set n : ℕ) → set / 2 ^ n ≡ 0 → set < 2 ^ n
small-set set n e = rw one-mul at ((div-lt_iff_lt-mul {k = 2 ^ n} {x = set} {y = 1} (pow_pos n)).0 (rw e (lit< tt)))

pub high-bit-bad : (n : ℕ) (sender : Seat) (set : ℕ) → (set / 2 ^ n ≡ 0 → ⊥) → false ≡ good_set n sender set
unfolding good_set
high-bit-bad n sender set h = by (less-or-not set (2 ^ n))
  where
    by : (set < 2 ^ n) ⊎ (2 ^ n ≤ set) → false ≡ (ltb set (2 ^ n) && not (bit set sender.0))
    by (inl l) = absurd (h (div-eq_of_lt l))
    by (inr l) = rw (le-ltb set (2 ^ n) l)

pub own-bit-decides : (n : ℕ) (sender : Seat) (set : ℕ) → set < 2 ^ n → not (bit set sender.0) ≡ good_set n sender set
unfolding good_set
own-bit-decides n sender set h = rw (lt-ltb set (2 ^ n) h)

module _ (L : Limits) where
  pub set-took : (n : ℕ) (sender : Seat) (bytes : List ℕ) (set : Seats) (rest : List ℕ) → take_set L n sender bytes ≡ value set rest
      → (take_number L bytes ≡ value set rest) × (good_set n sender set ≡ true)
  unfolding take_set
  set-took n sender bytes set rest e =
      let x = bind-value (take_number L bytes) _ set rest e in
      let y = when-value (good_set n sender x.0) BadLossSet _ set rest x.3 in
      let same : x.0 ≡ set = cc in
      let ends : x.1 ≡ rest = cc in
      (x.2 ∙ ap₂ (λ (a : ℕ) (m : List ℕ). value a m) same ends, rw same at y.0)

  pub set-refused : (n : ℕ) (sender : Seat) (bytes : List ℕ) (r : Refusal) → take_number L bytes ≡ refused r → take_set L n sender bytes ≡ refused r
  unfolding take_set ◌>>=◌
  set-refused n sender bytes r e = rw e

  pub set_tested : (n : ℕ) (sender : Seat) (bytes : List ℕ) (set : Seats) (rest : List ℕ) (good : Bool) → take_number L bytes ≡ value set rest
      → good_set n sender set ≡ good → take_set L n sender bytes ≡ when good BadLossSet (value set rest)
  unfolding take_set ◌>>=◌
  set_tested n sender bytes set rest good e g = rw (e, g)

  pub set-tail : (n : ℕ) (sender : Seat) (bytes : List ℕ) (set : Seats) (rest : List ℕ) → take_set L n sender bytes ≡ value set rest → Tail rest bytes
  set-tail n sender bytes set rest e = number-tail L bytes set rest (set-took n sender bytes set rest e).0

-- ════ Tails ════

module _ (L : Limits) where
  pub round-tail : (n : ℕ) (sender : Seat) (left : ℕ) (bytes : List ℕ) (sets : List Seats) (rest : List ℕ)
      → take_round L n sender left bytes ≡ value sets rest → Tail rest bytes
  unfolding take_round
  round-tail n sender zero bytes sets rest e = let ends : bytes ≡ rest = cc in rw (← ends) (tail_all bytes)
  round-tail n sender (suc left) bytes sets rest e =
      let x = bind-value (take_set L n sender bytes) _ sets rest e in
      let y = bind-value (take_round L n (seat_after sender) left x.1) _ sets rest x.3 in
      let ends : y.1 ≡ rest = cc in
      tail-trans (rw ends at (round-tail n (seat_after sender) left x.1 y.0 y.1 y.2)) (set-tail L n sender bytes x.0 x.1 x.2)

  pub rounds-tail : (n rounds : ℕ) (bytes : List ℕ) (sets : List Seats) (rest : List ℕ)
      → take_rounds L n rounds bytes ≡ value sets rest → Tail rest bytes
  unfolding take_rounds
  rounds-tail n zero bytes sets rest e = let ends : bytes ≡ rest = cc in rw (← ends) (tail_all bytes)
  rounds-tail n (suc rounds) bytes sets rest e =
      let x = bind-value (take_round L n first_seat n bytes) _ sets rest e in
      let y = bind-value (take_rounds L n rounds x.1) _ sets rest x.3 in
      let ends : y.1 ≡ rest = cc in
      tail-trans (rw ends at (rounds-tail n rounds x.1 y.0 y.1 y.2)) (round-tail n first_seat n bytes x.0 x.1 x.2)
