-- `host_lists::asks::ricecrock_lists_agreed` meets its contract, by the question on lists.
-- Assumes nothing.
use Rattle.host.proofs.AskedLaws.{lists-sound, agreed-asked}
use Rattle.host_lists.proofs.asks.ricecrock_lists_agreed.Goals as goal

pub returns : goal.returns
returns c = agreed-asked _ (lists-sound _ _ _ _) c.lists_given-lists.ensures _ _ c.into.ensures _ _ c.into-2.ensures c.agreed.ensures c.into-3.ensures
