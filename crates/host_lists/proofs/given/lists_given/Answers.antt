-- `host_lists::given::lists_given` meets its contract: the lists as they are handed on read as they were given.
-- Assumes nothing.
use Rattle.host.proofs.AskedLaws.{lists-same}
use Rattle.host_lists.proofs.given.lists_given.Goals as goal

pub returns : goal.returns
returns c = lists-same _ _ _ _ c.byte_of.ensures c.byte_of-2.ensures c.short_of.ensures
