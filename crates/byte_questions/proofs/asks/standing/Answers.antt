-- `byte_questions::asks::standing` meets its contract: a carrier is its reading, then the accepted question.
-- Assumes nothing.
use mathlib.Core.Path.{◌∙◌, ap}
use Rattle.questions.specs.Answers.{standing_answer}
use Rattle.carriers.proofs.CarriedLaws.{standing-carried}
use Rattle.byte_questions.proofs.asks.standing.Goals as goal

pub returns : goal.returns
returns c = c.standing_in.ensures ∙ ap standing_answer (standing-carried c.read_places-read.ensures.4 _)
