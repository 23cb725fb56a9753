-- Views as the code holds them: arrays with room for the most seats, one count for each (one more than the latest time, 0 for
-- none), and 0 for every seat from n on, so that what an array holds is settled in every entry.
use Rattle.std.specs.Prelude.{Bool, cond, not, List, [], ◌∷◌, ◌++◌, ℕ, zero, suc, ◌+◌, ◌*◌, ◌/◌, ◌%◌, ltb, max, get_or}
use Rattle.farm.specs.Limits.{limits}
use Rattle.farm.specs.Sets.{Seats, bit, collect}
use Rattle.farm.specs.declared.places.Seat.{Seat}
use Rattle.farm.specs.declared.places.Time.{Time}
use Rattle.viewing.specs.declared.farms.Farm as code
use Rattle.viewing.specs.declared.sizes.Sizes.{Sizes}
use Rattle.knowledge.specs.Farm.{Farm, farm_of}
use Rattle.knowledge.specs.Views.{View, up_to, joined, view}

-- The first m values of a function, as a list.
unfoldable pub tabulate : (m : ℕ) → (ℕ → ℕ) → List ℕ
tabulate zero f = []
tabulate (suc m) f = tabulate m f ++ (f m ∷ [])

-- A function as it is below a bound, and 0 from there on.
unfoldable pub below : (bound : ℕ) → (ℕ → ℕ) → ℕ → ℕ
below bound f i = cond (ltb i bound) (f i) 0

-- An array of m numbers whose first i are filled in.
unfoldable pub filled : (m i : ℕ) → (ℕ → ℕ) → List ℕ
filled m i f = tabulate m (below i f)

-- Room for one view, and for the views of all seats at one time.
abbrev pub room : ℕ
room = limits.most_seats

-- One view of a farm of n seats.
unfoldable pub counts : (n : ℕ) → View → List ℕ
counts n v = filled room n v

-- The views of all seats at time k: seat p's count of seat q stands at p * room + q. The same with the first i numbers filled
-- in, and with the views of the seats below p.
unfoldable pub count_at : Farm → (k i : ℕ) → ℕ
count_at farm k i = below farm.seats (view farm (i / room) k) (i % room)

unfoldable pub counts_to : Farm → (k i : ℕ) → List ℕ
counts_to farm k i = filled (room * room) i (count_at farm k)

abbrev pub views_to : Farm → (k p : ℕ) → List ℕ
views_to farm k p = counts_to farm k (p * room)

abbrev pub all_counts : Farm → (k : ℕ) → List ℕ
all_counts farm k = views_to farm k farm.seats

-- At time 0 they depend on the number of seats alone.
unfoldable pub first_counts : (n : ℕ) → List ℕ
first_counts n = all_counts (farm_of n 0 0 []) 0

-- The views that such a table holds.
unfoldable pub view_in : List ℕ → ℕ → View
view_in table p q = get_or table (p * room + q) 0

-- The view that an array of counts holds.
unfoldable pub held : List ℕ → View
held list q = get_or list q 0

-- Two views joined: of each seat the larger count.
unfoldable pub both : View → View → View
both v w q = max (v q) (w q)

-- Whether the send of s to p was not lost in round r, and the senders of whom that holds.
abbrev pub arrives : Farm → (r p s : ℕ) → Bool
arrives farm r p s = not (farm.lost r s p)

unfoldable pub arrivals : Farm → (r p : ℕ) → Seats
arrivals farm r p = collect farm.seats (arrives farm r p)

-- The farm that the numbers n, t, R and a table of loss sets describe.
abbrev pub farm_for : Sizes → List Seats → Farm
farm_for sizes table = farm_of sizes.seats sizes.bound sizes.rounds table

abbrev pub farm_in : code.Farm → Farm
farm_in farm = farm_for farm.sizes farm.losses.now

-- The loss set of a send in the round that begins at the time: no seat past the table's end.
abbrev pub loss_set_in : code.Farm → Time → Seat → Seats
loss_set_in farm begun sender = get_or farm.losses.now (begun.0 * farm.sizes.seats + sender.0) 0

-- ════ The same of seats and times, as contracts name them ════

-- The count that a view has of a seat.
abbrev pub count_of : View → Seat → ℕ
count_of v q = v q.0

-- Whether a send was lost in the round that ends at the time, and the seats whose send to one seat was not.
abbrev pub is_lost : Farm → Time → (sender receiver : Seat) → Bool
is_lost farm r sender receiver = farm.lost r.0 sender.0 receiver.0

abbrev pub heard_by : Farm → Time → Seat → Seats
heard_by farm r p = arrivals farm r.0 p.0

-- The view that has one place and the times before it, one seat's view in a table, and the joined views of a set of seats in it.
abbrev pub own_view : Seat → Time → View
own_view p k = up_to p.0 k.0

abbrev pub seat_view : List ℕ → Seat → View
seat_view table p = view_in table p.0

abbrev pub joined_view : (n : ℕ) → Seats → List ℕ → View
joined_view n set table = joined n (bit set) (view_in table)

-- The views of all seats at a time, those of the seats below one, and its own with them.
abbrev pub all_views : Farm → Time → List ℕ
all_views farm k = all_counts farm k.0

abbrev pub views_below : Farm → Time → Seat → List ℕ
views_below farm k p = views_to farm k.0 p.0

abbrev pub views_with : Farm → Time → Seat → List ℕ
views_with farm k p = views_to farm k.0 (suc p.0)
