-- `byte_questions::asks::marks` meets its contract: a carrier is its reading, then the accepted question.
-- Assumes nothing.
use Rattle.carriers.proofs.CarriedLaws.{loaded, marks-carried, fills_alike}
use Rattle.byte_questions.proofs.asks.marks.Goals as goal

pub marks_in-requires : goal.marks_in-requires
marks_in-requires c = loaded c.read_places-read.ensures.4

pub returns : goal.returns
returns c = fills_alike (marks-carried c.read_places-read.ensures.4 _ _) c.marks_in.ensures
