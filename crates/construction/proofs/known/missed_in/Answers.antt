-- `construction::known::missed_in` meets its contract: `any` looks for one of the seats whose part of the view a lost send goes into.
-- Assumes nothing.
use Rattle.std.proofs.Common.{rules, refl, ◌∙◌}
use borrow.Author.Tests.{tests}
use Rattle.std.proofs.lemmas.Iterator.{YieldsList-from_range}
use Rattle.std.proofs.lemmas.Iterator.Search.{any_from_yields_List}
use Rattle.construction.proofs.AnyOf.{any-range}
use Rattle.viewing.specs.Counts.{farm_in, held}
use Prim.Native.Nat.{ℕ}
use lib.ListN.{get_or}
use Rattle.knowledge.specs.Known.{missed, missed_at}
use Rattle.construction.specs.KnownSets.{lost_before}
use Rattle.construction.proofs.known.missed_in.Goals as goal

pub returns : goal.returns
unfolding missed missed_at lost_before held
returns c =
    let a = c.args in
    let test = λ (q : ℕ). lost_before (farm_in a.farm) a.z.0 q (get_or a.view.now q 0) in
    any_from_yields_List test _ _ _ c.any.ensures.ran (YieldsList-from_range 0 _ _ refl refl) (λ x b q k. search (rules, tests)) ∙ any-range _ test
