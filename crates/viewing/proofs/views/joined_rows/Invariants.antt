-- `viewing::views::joined_rows` meets its contract: before seat p the view joins the rows of the seats below p that are in the set.
-- Assumes nothing.
use Rattle.viewing.specs.Counts.{room, counts, view_in}
use Rattle.knowledge.specs.Views.{joined}
use Rattle.farm.specs.Sets.{bit}
use mathlib.Core.Path.{◌≡◌}
use Rattle.viewing.proofs.views.joined_rows.Given as goal

abbrev pub invariant-loop-p : goal.invariant-loop-p
invariant-loop-p l = l.view ≡ counts room (joined l.p (bit l.set) (view_in l.views))
