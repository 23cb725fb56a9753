-- Known sets and losers as the code finds them: whether one sender's send into one seat's part of a view was lost, and the known sets
-- of all seats at one time.
use Rattle.std.specs.Prelude.{Bool, ◌&&◌, ℕ, ltb}
use Rattle.farm.specs.Sets.{Seats, bit, any}
use Rattle.farm.specs.declared.places.Seat.{Seat}
use Rattle.farm.specs.declared.places.Time.{Time}
use Rattle.knowledge.specs.Farm.{Farm, seat, loses_in, loses_by, losers}
use Rattle.knowledge.specs.Views.{View}
use Rattle.knowledge.specs.Known.{missed, known_of}

-- Whether a send of z to q was lost in a round r ≥ 1 below the count.
unfoldable pub lost_before : Farm → (z q count : ℕ) → Bool
lost_before farm z q count = any count (λ r. ltb 0 r && farm.lost r z q)

-- The known set of each seat's view at a time.
unfoldable pub known_sets : Farm → Time → ℕ → Seats
known_sets farm ℓ p = known_of farm (seat p) ℓ

-- ════ The same of seats and times, as contracts name them ════

abbrev pub is_lost_before : Farm → (z q : Seat) → (count : ℕ) → Bool
is_lost_before farm z q count = lost_before farm z.0 q.0 count

-- Whether a send of the seat into a place of the view was lost.
abbrev pub is_missed : Farm → View → Seat → Bool
is_missed farm v z = missed farm v z.0

-- Whether a send of the seat was lost in the round that ends at the time, in the rounds up to the time, and in any round.
abbrev pub is_loser_in : Farm → Time → Seat → Bool
is_loser_in farm r z = loses_in farm r.0 z.0

abbrev pub is_loser_by : Farm → Time → Seat → Bool
is_loser_by farm ℓ z = loses_by farm ℓ.0 z.0

abbrev pub is_loser : Farm → Seat → Bool
is_loser farm z = bit (losers farm) z.0
