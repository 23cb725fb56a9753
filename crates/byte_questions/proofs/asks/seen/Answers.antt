-- `byte_questions::asks::seen` meets its contract: a carrier is its reading, then the accepted question.
-- Assumes nothing.
use mathlib.Core.Path.{◌∙◌}
use Rattle.carriers.proofs.CarriedLaws.{sized, seen-carried}
use Rattle.byte_questions.proofs.asks.seen.Goals as goal

pub seen_in-requires : goal.seen_in-requires
seen_in-requires c = sized c.read_places-read.ensures.4

pub returns : goal.returns
returns c = c.seen_in.ensures ∙ seen-carried c.read_places-read.ensures.4 _ _
