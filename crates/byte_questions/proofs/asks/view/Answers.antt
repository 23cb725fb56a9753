-- `byte_questions::asks::view` meets its contract: a carrier is its reading, then the accepted question.
-- Assumes nothing.
use Rattle.carriers.proofs.CarriedLaws.{sized, view-carried, fills_alike}
use Rattle.byte_questions.proofs.asks.view.Goals as goal

pub view_in-requires : goal.view_in-requires
view_in-requires c = sized c.read_places-read.ensures.4

pub returns : goal.returns
returns c = fills_alike (view-carried c.read_places-read.ensures.4 _ _) c.view_in.ensures
