-- `construction::losers::loses_by` meets its contract: `any` looks for one of the rounds in which a send was lost.
-- Assumes nothing.
use Rattle.std.proofs.Common.{rules, refl, ◌∙◌}
use borrow.Author.Tests.{tests}
use Rattle.std.proofs.lemmas.Iterator.{YieldsList-from_range}
use Rattle.std.proofs.lemmas.Iterator.Search.{any_from_yields_List}
use Rattle.construction.proofs.AnyOf.{any-range}
use Rattle.viewing.specs.Counts.{farm_in}
use Prim.Native.Nat.{ℕ, suc}
use Rattle.knowledge.specs.Farm.{loses_in, loses_by}
use Rattle.construction.proofs.losers.loses_by.Goals as goal

pub returns : goal.returns
unfolding loses_by
returns c =
    let a = c.args in
    let test = λ (k : ℕ). loses_in (farm_in a.farm) (suc k) a.z.0 in
    any_from_yields_List test _ _ _ c.any.ensures.ran (YieldsList-from_range 0 _ _ refl refl) (λ x b q k. search (rules, tests)) ∙ any-range _ test
