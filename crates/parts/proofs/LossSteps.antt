-- The loss sets as they are looked through: how a round and the rounds come apart, set by set, and where the next one begins.
-- Assumes nothing.
use Rattle.std.specs.Prelude.{Ok, Err}
use mathlib.Core.Path.{◌≡◌, sym}
use mathlib.Core.List.{List, ◌∷◌, ◌++◌}
use Prim.Native.Nat.{ℕ, suc, ◌+◌, ◌-◌, ◌<◌, ◌≤◌}
use native.Mathlib.Numerals.{add-one}
use native.Mathlib.Omega.{arith}
use lib.ListN.{length, drop}
use Rattle.farm.specs.Limits.{Limits, limits}
use Rattle.farm.specs.Sets.{Seats}
use Rattle.farm.specs.declared.places.Seat.{Seat}
use Rattle.farm.specs.declared.refusals.Refusal.{Refusal}
use Rattle.numbers.specs.declared.read.Cursor.{Cursor}
use Rattle.record.specs.Taking.{value, refused, ◌>>=◌}
use Rattle.record.specs.Losses.{first_seat, seat_after, take_set, take_round, take_rounds}
use Rattle.numbers.specs.Cursors.{read_in, passed_in}
use Rattle.record.proofs.TakingLaws.{tail-trans, tail-of-drop}
use Rattle.record.proofs.LossLaws.{set-tail, round-tail}
use Rattle.numbers.proofs.CursorLaws.{cursor-drop, Placed, read-was, passed-was, passed-mapped}

-- ════ Rounds, as far as they are only looked through ════

-- A loop over the senders of a round: one set further, stopped by a refusal, and done.
module _ (L : Limits) (all : List ℕ) (n : ℕ) (sender : Seat) (bytes : List ℕ) where
  pub round-on : sender.0 < n → (set : Seats) (rest : List ℕ) → take_set L n sender bytes ≡ value set rest
      → passed_in all (take_round L n (record { 0 = sender.0 + 1 }) (n - (sender.0 + 1)) rest) ≡ passed_in all (take_round L n sender (n - sender.0) bytes)
  unfolding take_round ◌>>=◌
  round-on h set rest e =
      let left : n - sender.0 ≡ suc (n - (sender.0 + 1)) = omega arith in
      rw (left, e, add-one) (sym (passed-mapped all (take_round L n (seat_after sender) (n - suc sender.0) rest) (λ sets. set ∷ sets)))

  pub round-stops : sender.0 < n → (r : Refusal) → take_set L n sender bytes ≡ refused r
      → passed_in all (take_round L n sender (n - sender.0) bytes) ≡ Err r
  unfolding take_round passed_in ◌>>=◌
  round-stops h r e = let left : n - sender.0 ≡ suc (n - (sender.0 + 1)) = omega arith in rw (left, e)

pub round-ends : (L : Limits) (all : List ℕ) (n : ℕ) (sender : Seat) (at : ℕ) → n ≤ sender.0 → at ≤ length all
    → passed_in all (take_round L n sender (n - sender.0) (drop at all)) ≡ Ok (record { at = at })
unfolding take_round passed_in
round-ends L all n sender at h l = let none : n - sender.0 ≡ 0 = omega arith in rw (none, cursor-drop all at l)

-- A loop over the rounds, the same way.
module _ (L : Limits) (all : List ℕ) (n rounds round : ℕ) (bytes : List ℕ) where
  pub rounds-on : round < rounds → (sets : List Seats) (rest : List ℕ) → take_round L n first_seat n bytes ≡ value sets rest
      → passed_in all (take_rounds L n (rounds - (round + 1)) rest) ≡ passed_in all (take_rounds L n (rounds - round) bytes)
  unfolding take_rounds ◌>>=◌
  rounds-on h sets rest e =
      let left : rounds - round ≡ suc (rounds - (round + 1)) = omega arith in
      rw (left, e) (sym (passed-mapped all (take_rounds L n (rounds - (round + 1)) rest) (λ later. sets ++ later)))

  pub rounds-stop : round < rounds → (r : Refusal) → take_round L n first_seat n bytes ≡ refused r
      → passed_in all (take_rounds L n (rounds - round) bytes) ≡ Err r
  unfolding take_rounds passed_in ◌>>=◌
  rounds-stop h r e = let left : rounds - round ≡ suc (rounds - (round + 1)) = omega arith in rw (left, e)

pub rounds-end : (L : Limits) (all : List ℕ) (n rounds round at : ℕ) → rounds ≤ round → at ≤ length all
    → passed_in all (take_rounds L n (rounds - round) (drop at all)) ≡ Ok (record { at = at })
unfolding take_rounds passed_in
rounds-end L all n rounds round at h l = let none : rounds - round ≡ 0 = omega arith in rw (none, cursor-drop all at l)

-- ════ At a cursor ════

pub set-was : (n : ℕ) (sender : Seat) (bytes : List ℕ) (at v : ℕ) (next : Cursor) → read_in bytes (take_set limits n sender (drop at bytes)) ≡ Ok (v, next)
    → Placed bytes (take_set limits n sender (drop at bytes)) v next.at
set-was n sender bytes at v next e =
    read-was bytes (take_set limits n sender (drop at bytes)) v next
    (λ w rest f. tail-trans (set-tail limits n sender (drop at bytes) w rest f) (tail-of-drop at bytes)) e

pub round-was : (n : ℕ) (bytes : List ℕ) (at : ℕ) (next : Cursor) → passed_in bytes (take_round limits n first_seat n (drop at bytes)) ≡ Ok next
    → (sets : List Seats) × Placed bytes (take_round limits n first_seat n (drop at bytes)) sets next.at
round-was n bytes at next e =
    passed-was bytes (take_round limits n first_seat n (drop at bytes)) next
    (λ w rest f. tail-trans (round-tail limits n first_seat n (drop at bytes) w rest f) (tail-of-drop at bytes)) e
