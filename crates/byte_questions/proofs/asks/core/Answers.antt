-- `byte_questions::asks::core` meets its contract: a carrier is its reading, then the accepted question.
-- Assumes nothing.
use Rattle.carriers.proofs.CarriedLaws.{sized, core-carried, fills_alike}
use Rattle.byte_questions.proofs.asks.core.Goals as goal

pub core_in-requires : goal.core_in-requires
core_in-requires c = sized c.read_places-read.ensures.4

pub returns : goal.returns
returns c = fills_alike (core-carried c.read_places-read.ensures.4 _ _) c.core_in.ensures
