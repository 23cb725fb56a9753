-- `host_lists::asks::ricecrock_lists_marks` meets its contract, by the question on lists.
-- Assumes nothing.
use Rattle.host.proofs.AskedLaws.{lists-sound, marks-asked}
use Rattle.host_lists.proofs.asks.ricecrock_lists_marks.Goals as goal

pub returns : goal.returns
returns c = marks-asked _ (lists-sound _ _ _ _) c.lists_given-lists.ensures _ _ c.into.ensures _ _ c.into-2.ensures c.marks.ensures c.refusal_number.ensures
