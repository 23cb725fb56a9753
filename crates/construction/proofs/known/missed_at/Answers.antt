-- `construction::known::missed_at` meets its contract: `any` looks for one of the rounds below the count that lost the send.
-- Assumes nothing.
use Rattle.std.proofs.Common.{rules, refl, ◌∙◌}
use borrow.Author.Tests.{tests}
use Rattle.std.proofs.lemmas.Iterator.{YieldsList-from_range}
use Rattle.std.proofs.lemmas.Iterator.Search.{any_from_yields_List}
use Rattle.construction.proofs.AnyOf.{any-rounds}
use Rattle.viewing.specs.Counts.{farm_in}
use Prim.Native.Nat.{ℕ, suc, ◌-◌}
use Rattle.construction.specs.KnownSets.{lost_before}
use Rattle.construction.proofs.known.missed_at.Goals as goal

pub returns : goal.returns
unfolding lost_before
returns c =
    let a = c.args in
    let lost = λ (r : ℕ). (farm_in a.farm).lost r a.z.0 a.q.0 in
    any_from_yields_List (λ r. lost (suc (r - 1))) _ _ _ c.any.ensures.ran (YieldsList-from_range 1 _ _ refl refl) (λ x b q k. search (rules, tests)) ∙ any-rounds _ lost
