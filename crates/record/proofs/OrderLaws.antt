-- The order of edits is by time, then seat, then cell, and a good loss set has only seats of the farm other than the sender.
-- Assumes nothing.
use mathlib.Core.Path.{◌≡◌, refl, sym, ◌∙◌, ap}
use mathlib.Core.Logic.{inl, inr, ⊎_elim, ◌≢◌}
use mathlib.Core.Bool.{Bool, true, false, not, ◌&&◌, ◌||◌, true≢false}
use Prim.Native.Nat.{ℕ, ◌+◌, ◌^◌, ◌<◌, ◌≤◌}
use native.Mathlib.Nat.{pow-le-pow_right, lt_of_lt_of_le}
use native.Mathlib.Omega.{arith}
use lib.Dec.{eqb, ltb, lit<}
use borrow.Author.Tests.{ltb-true, lt-ltb, eqb-true, eq-eqb, not-true}
use Rattle.farm.specs.Sets.{Seats, bit, collect}
use Rattle.farm.specs.declared.places.Seat.{Seat}
use Rattle.farm.proofs.Cases.{or_left, or_right, or_elim, and_intro, and-elim, true-or-false, less-or-not}
use Rattle.farm.proofs.SetLaws.{bit_below, bit-collect, collect-below, bits-equal}
use Rattle.record.specs.declared.edits.Edit.{Edit}
use Rattle.record.specs.Losses.{good_set}
use Rattle.record.specs.Edits.{rises}
use Rattle.record.specs.Good.{IsAfter}
use Rattle.record.proofs.ReadBack.{below_power}

-- ════ Edits ════

pub rises-elim : (a b : Edit) → rises a b ≡ true → IsAfter a b
unfolding rises
rises-elim a b e = ⊎_elim (λ t. inl (ltb-true a.time.0 b.time.0 t)) same-time (or_elim _ _ e)
  where
    same-seat : (eqb a.seat.0 b.seat.0 && ltb a.cell b.cell) ≡ true → (a.seat.0 ≡ b.seat.0) × (a.cell < b.cell)
    same-seat f =
        let x = and-elim (eqb a.seat.0 b.seat.0) (ltb a.cell b.cell) f in
        (eqb-true a.seat.0 b.seat.0 x.0, ltb-true a.cell b.cell x.1)

    same-time : (eqb a.time.0 b.time.0 && (ltb a.seat.0 b.seat.0 || eqb a.seat.0 b.seat.0 && ltb a.cell b.cell)) ≡ true
        → IsAfter a b
    same-time f =
        let x = and-elim (eqb a.time.0 b.time.0) _ f in
        inr (
          eqb-true a.time.0 b.time.0 x.0,
          ⊎_elim (λ s. inl (ltb-true a.seat.0 b.seat.0 s)) (λ s. inr (same-seat s)) (or_elim _ _ x.1),
        )

pub rises-intro : (a b : Edit) → IsAfter a b → rises a b ≡ true
unfolding rises
rises-intro a b (inl t) = or_left _ _ (lt-ltb a.time.0 b.time.0 t)
rises-intro a b (inr x) =
    or_right (ltb a.time.0 b.time.0) _
    (and_intro _ _ (eq-eqb a.time.0 b.time.0 x.0)
    (⊎_elim
    (λ s. or_left _ _ (lt-ltb a.seat.0 b.seat.0 s))
    (λ s.
    or_right (ltb a.seat.0 b.seat.0) _
    (and_intro _ _ (eq-eqb a.seat.0 b.seat.0 s.0) (lt-ltb a.cell b.cell s.1)))
    x.1))

pub rises-not-itself : (e : Edit) → rises e e ≡ false
rises-not-itself e = ⊎_elim (λ t. absurd (never (rises-elim e e t))) (λ f. f) (true-or-false (rises e e))
  where
    never : IsAfter e e → ⊥
    never (inl t) = omega arith
    never (inr x) = ⊎_elim (λ s. omega arith) (λ s. omega (arith, s.1)) x.1

-- ════ Loss sets ════

pub set-elim : (n : ℕ) (sender : Seat) (set : Seats) → good_set n sender set ≡ true → (q : Seat) → bit set q.0 ≡ true → (q.0 < n) × (q ≢ sender)
unfolding good_set
set-elim n sender set e q b = (⊎_elim (λ l. l) far (less-or-not q.0 n), other)
  where
    x : (ltb set (2 ^ n) ≡ true) × (not (bit set sender.0) ≡ true)
    x = and-elim _ _ e

    far : n ≤ q.0 → q.0 < n
    far h =
        absurd (true≢false (sym b ∙ bit_below set q.0 (lt_of_lt_of_le (ltb-true set (2 ^ n) x.0) (pow-le-pow_right {n = 2} (lit< tt) h))))

    other : q ≢ sender
    other s = absurd (true≢false (sym b ∙ ap (λ (s : Seat). bit set s.0) s ∙ not-true (bit set sender.0) x.1))

-- A set with no bit at n or above is below 2 ^ n.
set_below : (n : ℕ) (set : Seats) → ((q : ℕ) → n ≤ q → bit set q ≡ false) → set < 2 ^ n
set_below n set h = let low = collect-below n (bit set) in omega (arith, same)
  where
    top : collect n (bit set) < 2 ^ (n + set)
    top = lt_of_lt_of_le (collect-below n (bit set)) (pow-le-pow_right {n = 2} (lit< tt) (omega arith))

    room : set < 2 ^ (n + set)
    room = lt_of_lt_of_le (below_power set) (pow-le-pow_right {n = 2} (lit< tt) (omega arith))

    each : (q : ℕ) → q < n + set → bit (collect n (bit set)) q ≡ bit set q
    each q l =
        ⊎_elim
        (λ low. bit-collect n (bit set) q low)
        (λ high.
        bit_below (collect n (bit set)) q (lt_of_lt_of_le (collect-below n (bit set)) (pow-le-pow_right {n = 2} (lit< tt) high)) ∙ sym (h q high))
        (less-or-not q n)

    same : collect n (bit set) ≡ set
    same = bits-equal (n + set) (collect n (bit set)) set top room each

pub set-intro : (n : ℕ) (sender : Seat) (set : Seats) → ((q : Seat) → bit set q.0 ≡ true → (q.0 < n) × (q ≢ sender)) → good_set n sender set ≡ true
unfolding good_set
set-intro n sender set h = and_intro _ _ (lt-ltb set (2 ^ n) (set_below n set high)) (own (bit set sender.0) refl)
  where
    high : (q : ℕ) → n ≤ q → bit set q ≡ false
    high q l = ⊎_elim (λ b. let low = (h (record { 0 = q }) b).0 in absurd (omega arith)) (λ b. b) (true-or-false (bit set q))

    own : (b : Bool) → bit set sender.0 ≡ b → not (bit set sender.0) ≡ true
    own true e = absurd ((h sender e).1 refl)
    own false e = rw e
