-- `viewing::views::first_views` meets its contract: each seat's part of the table has one number that is not 0, at the seat's own place.
-- Assumes nothing.
use Rattle.viewing.specs.Counts.{views_to}
use Rattle.knowledge.specs.Farm.{farm_of}
use mathlib.Core.List.{[]}
use mathlib.Core.Path.{◌≡◌}
use Rattle.viewing.proofs.views.first_views.Given as goal

abbrev pub invariant-loop-p : goal.invariant-loop-p
invariant-loop-p l = l.first ≡ views_to (farm_of l.seats 0 0 []) 0 l.p
