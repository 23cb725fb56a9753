-- Good losses, place by place: the set of sender z in the round that begins at time k stands at place k * n + z of the flat list.
-- Assumes nothing.
use mathlib.Core.Path.{◌≡◌, refl, ◌∙◌, ap}
use mathlib.Core.Bool.{true}
use mathlib.Core.List.{List, [], ◌∷◌}
use Prim.Native.Nat.{ℕ, zero, suc, ◌+◌, ◌*◌, ◌/◌, ◌%◌, ◌<◌, ◌≤◌}
use native.Mathlib.Nat.{zero-mod, add-zero, mod-lt, mod-eq_of_lt, mul-add-mod_self_right, div-add-mod', div-lt_iff_lt-mul, not-suc-le-zero, mul-le-mul_right}
use native.Mathlib.Omega.{arith}
use lib.Dec.{eqb}
use lib.ListN.{length, get_or}
use borrow.Author.Tests.{eqb-true, eq-eqb}
use Rattle.farm.specs.Sets.{Seats}
use Rattle.farm.specs.declared.places.Seat.{Seat}
use Rattle.farm.specs.declared.places.Time.{Time}
use Rattle.farm.proofs.Cases.{and_intro, and-elim}
use Rattle.record.specs.Losses.{first_seat, sender_of, good_set}
use Rattle.record.specs.Good.{sender_after, good_sets, good_rounds}
use Rattle.record.proofs.FaultLaws.{sender-after-mod, positive}

-- ════ Set by set ════

sets-at : (n i : ℕ) (sets : List Seats) → 0 < n → good_sets n (sender_of n i) sets ≡ true → (j : ℕ) → j < length sets
    → good_set n (sender_of n (i + j)) (get_or sets j 0) ≡ true
unfolding good_sets
sets-at n i [] h g j l = absurd (not-suc-le-zero l)
sets-at n i (set ∷ sets) h g zero l = rw (add-zero i) (and-elim (good_set n (sender_of n i) set) (good_sets n (sender_after n (sender_of n i)) sets) g).0
sets-at n i (set ∷ sets) h g (suc j) l =
    let x = and-elim (good_set n (sender_of n i) set) (good_sets n (sender_after n (sender_of n i)) sets) g in
    let later = x.1 in
    let e : i + suc j ≡ suc i + j = omega arith in
    rw e (sets-at n (suc i) sets h (rw (sender-after-mod n i h) at later) j (omega arith))

sets-from : (n i : ℕ) (sets : List Seats) → 0 < n → ((j : ℕ) → j < length sets → good_set n (sender_of n (i + j)) (get_or sets j 0) ≡ true)
    → good_sets n (sender_of n i) sets ≡ true
unfolding good_sets
sets-from n i [] h f = refl
sets-from n i (set ∷ sets) h f =
    let first = f 0 (omega arith) in
    and_intro _ _ (rw (add-zero i) at first) (rw (sender-after-mod n i h) (sets-from n (suc i) sets h later))
  where
    later : (j : ℕ) → j < length sets → good_set n (sender_of n (suc i + j)) (get_or sets j 0) ≡ true
    later j l = let e : i + suc j ≡ suc i + j = omega arith in rw e at (f (suc j) (omega arith))

-- ════ Round by round ════

module _ (n R : ℕ) (losses : List Seats) where
  pub rounds-elim : good_rounds n R losses ≡ true
      → (length losses ≡ n * R) × ((k : Time) (z : Seat) → k.0 < R → z.0 < n → good_set n z (get_or losses (k.0 * n + z.0) 0) ≡ true)
  unfolding good_rounds
  rounds-elim g =
      let x = and-elim (eqb (length losses) (n * R)) (good_sets n first_seat losses) g in
      (eqb-true (length losses) (n * R) x.0, at (eqb-true (length losses) (n * R) x.0) x.1)
    where
      at : length losses ≡ n * R → good_sets n first_seat losses ≡ true → (k : Time) (z : Seat) → k.0 < R → z.0 < n
          → good_set n z (get_or losses (k.0 * n + z.0) 0) ≡ true
      at count s k z hk hz =
          let some : 0 < n = omega arith in
          let room : suc k.0 * n ≤ R * n = mul-le-mul_right n hk in
          let place : k.0 * n + z.0 < length losses = omega arith in
          let start : good_sets n (sender_of n 0) losses ≡ true = rw (zero-mod n) s in
          let sender : (0 + (k.0 * n + z.0)) % n ≡ z.0 =
          ap (λ (i : ℕ). i % n) (omega arith) ∙ mul-add-mod_self_right k.0 n z.0 ∙ mod-eq_of_lt hz
          in
          rw sender at (sets-at n 0 losses some start (k.0 * n + z.0) place)

  pub rounds-intro : (length losses ≡ n * R) × ((k : Time) (z : Seat) → k.0 < R → z.0 < n → good_set n z (get_or losses (k.0 * n + z.0) 0) ≡ true)
      → good_rounds n R losses ≡ true
  unfolding good_rounds
  rounds-intro f = and_intro _ _ (eq-eqb (length losses) (n * R) f.0) (whole losses refl)
    where
      each : (j : ℕ) → j < length losses → 0 < n → good_set n (sender_of n (0 + j)) (get_or losses j 0) ≡ true
      each j l some =
          let count = f.0 in
          let round : j / n < R = (div-lt_iff_lt-mul some).1 (omega arith) in
          let place : j / n * n + j % n ≡ j = div-add-mod' j n in
          let none : 0 + j ≡ j = omega arith in
          rw none (rw place at (f.1 (record { 0 = j / n }) (sender_of n j) round (mod-lt j some)))

      whole : (l : List Seats) → losses ≡ l → good_sets n first_seat losses ≡ true
      whole [] e = rw e (unfold good_sets in refl)
      whole (set ∷ l) e =
          let long : length losses ≡ suc (length l) = ap length e in
          let count = f.0 in
          let some : 0 < n = positive 0 n R (omega arith) in
          rw (zero-mod n) at (sets-from n 0 losses some (λ j h. each j h some))
