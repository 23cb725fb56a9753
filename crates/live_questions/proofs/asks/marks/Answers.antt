-- `live_questions::asks::marks` meets its contract: a carrier is its reading, then the accepted question.
-- Assumes nothing.
use Rattle.carriers.proofs.CarriedLaws.{loaded, marks-carried, fills_alike}
use Rattle.live_questions.proofs.asks.marks.Goals as goal

pub marks_in-requires : goal.marks_in-requires
marks_in-requires c = loaded c.check_table.ensures

pub returns : goal.returns
returns c = fills_alike (marks-carried c.check_table.ensures _ _) c.marks_in.ensures
