-- Rule 2 of document 01: the seats known in a view to have lost a send.
use Rattle.std.specs.Prelude.{Bool, ◌&&◌, ℕ, ◌≤◌, ltb}
use Rattle.farm.specs.Sets.{Seats, any, collect}
use Rattle.farm.specs.declared.places.Seat.{Seat}
use Rattle.farm.specs.declared.places.Time.{Time}
use Rattle.knowledge.specs.Farm.{Farm, Place, IsSeat, Lost}
use Rattle.knowledge.specs.Views.{View, view_of}

-- In its own words: some place of the view comes after a round in which its seat missed what z sent.
pub record Known (farm : Farm) (view : Place → Type 0) (z : Seat) : Type 0 where
  pub at : Place
  pub real : IsSeat farm at.seat
  pub begun : 1 ≤ at.time.0
  pub seen : view at
  pub lost : Lost farm at.time z at.seat

-- Computed: whether a send of z into a place of the view was lost, at one seat, and at any.
unfoldable pub missed_at : Farm → View → (z q : ℕ) → Bool
missed_at farm v z q = any (v q) (λ r. ltb 0 r && farm.lost r z q)

unfoldable pub missed : Farm → View → ℕ → Bool
missed farm v z = any farm.seats (missed_at farm v z)

-- The known set of a view.
unfoldable pub known_in : Farm → View → Seats
known_in farm v = collect farm.seats (missed farm v)

abbrev pub known_of : Farm → Seat → Time → Seats
known_of farm p k = known_in farm (view_of farm p k)
