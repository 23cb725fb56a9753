-- `host_lists::asks::ricecrock_lists_core` meets its contract, by the question on lists.
-- Assumes nothing.
use Rattle.host.proofs.AskedLaws.{lists-sound, core-asked}
use Rattle.host_lists.proofs.asks.ricecrock_lists_core.Goals as goal

pub returns : goal.returns
returns c = core-asked _ (lists-sound _ _ _ _) c.lists_given-lists.ensures _ _ c.into.ensures _ _ c.into-2.ensures c.core.ensures c.refusal_number.ensures
