-- `byte_questions::asks::agreed` meets its contract: a carrier is its reading, then the accepted question.
-- Assumes nothing.
use mathlib.Core.Path.{◌∙◌}
use Rattle.carriers.proofs.CarriedLaws.{loaded, agreed-carried}
use Rattle.byte_questions.proofs.asks.agreed.Goals as goal

pub agreed_in-requires : goal.agreed_in-requires
agreed_in-requires c = loaded c.read_places-read.ensures.4

pub returns : goal.returns
returns c = c.agreed_in.ensures ∙ agreed-carried c.read_places-read.ensures.4 _ _
