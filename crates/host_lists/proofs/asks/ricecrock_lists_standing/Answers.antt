-- `host_lists::asks::ricecrock_lists_standing` meets its contract, by the question on lists.
-- Assumes nothing.
use Rattle.host.proofs.AskedLaws.{lists-sound, standing-asked}
use Rattle.host_lists.proofs.asks.ricecrock_lists_standing.Goals as goal

pub returns : goal.returns
returns c = standing-asked _ (lists-sound _ _ _ _) c.lists_given-lists.ensures _ _ c.into.ensures c.standing.ensures c.into-2.ensures
