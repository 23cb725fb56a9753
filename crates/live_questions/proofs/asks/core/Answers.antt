-- `live_questions::asks::core` meets its contract: a carrier is its reading, then the accepted question.
-- Assumes nothing.
use Rattle.carriers.proofs.CarriedLaws.{sized, core-carried, fills_alike}
use Rattle.live_questions.proofs.asks.core.Goals as goal

pub core_in-requires : goal.core_in-requires
core_in-requires c = sized c.check_table.ensures

pub returns : goal.returns
returns c = fills_alike (core-carried c.check_table.ensures _ _) c.core_in.ensures
