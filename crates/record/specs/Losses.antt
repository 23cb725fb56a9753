-- The losses, round by round and in each round sender by sender: the set of seats that missed the send.
use Rattle.std.specs.Prelude.{Bool, not, ◌&&◌, List, [], ◌∷◌, ◌++◌, ℕ, zero, suc, ◌%◌, ◌^◌, ltb}
use Rattle.farm.specs.Limits.{Limits}
use Rattle.farm.specs.Sets.{Seats, bit}
use Rattle.farm.specs.declared.places.Seat.{Seat}
use Rattle.farm.specs.declared.refusals.Refusal.TheVariants.{BadLossSet}
use Rattle.record.specs.Taking.{Taken, value, ◌>>=◌, when}
use Rattle.record.specs.Numbers.{number_bytes, take_number}

-- The first sender of a round, and the one after another.
abbrev pub first_seat : Seat
first_seat = record { 0 = 0 }

abbrev pub seat_after : Seat → Seat
seat_after sender = record { 0 = suc sender.0 }

-- The sender of the set at a place, where the sets of all rounds stand in one list.
abbrev pub sender_of : (n place : ℕ) → Seat
sender_of n i = record { 0 = i % n }

-- A good loss set has no bit at n or above, and not the sender's own.
unfoldable pub good_set : (n : ℕ) (sender : Seat) → Seats → Bool
good_set n sender set = ltb set (2 ^ n) && not (bit set sender.0)

unfoldable pub take_set : Limits → (n : ℕ) (sender : Seat) → List ℕ → Taken Seats
take_set L n sender bytes = do
  (set, rest) ← take_number L bytes
  when (good_set n sender set) BadLossSet (value set rest)

-- The sets of a round, from a sender on, as many as are left.
unfoldable pub take_round : Limits → (n : ℕ) (sender : Seat) (left : ℕ) → List ℕ → Taken (List Seats)
take_round L n sender zero bytes = value [] bytes
take_round L n sender (suc left) bytes = do
  (set, rest) ← take_set L n sender bytes
  (sets, end) ← take_round L n (seat_after sender) left rest
  value (set ∷ sets) end

unfoldable pub take_rounds : Limits → (n rounds : ℕ) → List ℕ → Taken (List Seats)
take_rounds L n zero bytes = value [] bytes
take_rounds L n (suc rounds) bytes = do
  (sets, rest) ← take_round L n first_seat n bytes
  (later, end) ← take_rounds L n rounds rest
  value (sets ++ later) end

unfoldable pub loss_bytes : Limits → List Seats → List ℕ
loss_bytes L [] = []
loss_bytes L (set ∷ sets) = number_bytes L set ++ loss_bytes L sets
