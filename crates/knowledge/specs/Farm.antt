-- A farm as the construction sees it: who plays, how many losers are allowed for, and which sends were lost.
-- Document 01, "Seats, times, numbers".
use Rattle.std.specs.Prelude.{◌≡◌, Bool, true, false, List, ℕ, zero, suc, ◌+◌, ◌*◌, ◌≤◌, ◌<◌, get_or}
use Rattle.farm.specs.Sets.{Seats, bit, any, collect}
use Rattle.farm.specs.declared.places.Seat.{Seat}
use Rattle.farm.specs.declared.places.Time.{Time}

pub record Farm : Type 0 where
  pub seats : ℕ  -- n
  pub bound : ℕ  -- t
  pub rounds : ℕ  -- R
  pub lost : ℕ → ℕ → ℕ → Bool  -- round, sender, receiver: whether the send was lost

-- Where an edit happens, and what a view is made of.
pub record Place : Type 0 where
  pub seat : Seat
  pub time : Time

abbrev pub seat : ℕ → Seat
seat p = record { 0 = p }

abbrev pub time : ℕ → Time
time k = record { 0 = k }

abbrev pub place : Seat → Time → Place
place p k = record { seat = p; time = k }

-- The time at the other end of the round that begins at k.
abbrev pub after : Time → Time
after k = time (suc k.0)

abbrev pub IsSeat : Farm → Seat → Type 0
IsSeat farm p = p.0 < farm.seats

-- The send of one seat to another was lost in the round that ends at the time.
abbrev pub Lost : Farm → Time → Seat → Seat → Type 0
Lost farm r sender receiver = farm.lost r.0 sender.0 receiver.0 ≡ true

abbrev pub Arrived : Farm → Time → Seat → Seat → Type 0
Arrived farm r sender receiver = farm.lost r.0 sender.0 receiver.0 ≡ false

-- ════ Losers and clean seats ════

-- A loser by time ℓ has lost a send in one of the rounds 1 to ℓ.
pub record LoserBy (farm : Farm) (ℓ : Time) (z : Seat) : Type 0 where
  pub round : Time
  pub receiver : Seat
  pub begun : 1 ≤ round.0
  pub done : round.0 ≤ ℓ.0
  pub real : IsSeat farm receiver
  pub lost : Lost farm round z receiver

abbrev pub CleanBy : Farm → Time → Seat → Type 0
CleanBy farm ℓ z = ¬ LoserBy farm ℓ z

-- A loser of the whole record has lost a send in any of its rounds; every other seat is clean.
abbrev pub Loser : Farm → Seat → Type 0
Loser farm z = LoserBy farm (time farm.rounds) z

abbrev pub Clean : Farm → Seat → Type 0
Clean farm z = ¬ Loser farm z

-- Computed: whether a send of z was lost in one round, and in the rounds 1 to ℓ.
unfoldable pub loses_in : Farm → ℕ → ℕ → Bool
loses_in farm r z = any farm.seats (farm.lost r z)

unfoldable pub loses_by : Farm → ℕ → ℕ → Bool
loses_by farm ℓ z = any ℓ (λ r. loses_in farm (suc r) z)

-- The losers by a time, and those of the whole record, as sets.
unfoldable pub losers_by : Farm → Time → Seats
losers_by farm ℓ = collect farm.seats (loses_by farm ℓ.0)

abbrev pub losers : Farm → Seats
losers farm = losers_by farm (time farm.rounds)

-- ════ Losses as a table ════

-- The table has a loss set for each round and, within it, for each sender. Nothing is lost in round 0, which is none.
unfoldable pub lost_in : ℕ → List Seats → ℕ → ℕ → ℕ → Bool
lost_in n table zero sender receiver = false
lost_in n table (suc r) sender receiver = bit (get_or table (r * n + sender) 0) receiver

abbrev pub farm_of : (seats bound rounds : ℕ) → List Seats → Farm
farm_of n t R table = record { seats = n; bound = t; rounds = R; lost = lost_in n table }
