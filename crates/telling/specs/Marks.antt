-- Marks and counts of edits, over the two lists that hold their places.
use Rattle.std.specs.Prelude.{cond, List, [], ◌∷◌, ℕ, ◌+◌}
use Rattle.farm.specs.declared.places.Seat.{Seat}
use Rattle.farm.specs.declared.places.Time.{Time}
use Rattle.knowledge.specs.Farm.{seat, time, place}
use Rattle.knowledge.specs.Views.{View}
use Rattle.knowledge.specs.Settled.{has_place}

-- 1 for a place in the core, 0 for one outside.
unfoldable pub mark_at : View → Seat → Time → ℕ
mark_at core p k = cond (has_place core (place p k)) 1 0

unfoldable pub marks_in : View → (seats times : List ℕ) → List ℕ
marks_in core [] times = []
marks_in core (s ∷ seats) [] = []
marks_in core (s ∷ seats) (t ∷ times) = mark_at core (seat s) (time t) ∷ marks_in core seats times

unfoldable pub count_in : View → (seats times : List ℕ) → ℕ
count_in core [] times = 0
count_in core (s ∷ seats) [] = 0
count_in core (s ∷ seats) (t ∷ times) = mark_at core (seat s) (time t) + count_in core seats times
