-- Document 01, "The lister's page": the page of a record, whole.
use Rattle.std.specs.Prelude.{◌++◌, suc}
use Rattle.farm.specs.Refusals.{number_of}
use Rattle.record.specs.Record.{Record, Reading, good, bad}
use Rattle.questions.specs.Question.{count_of, farm_of_record}
use Rattle.text.specs.Digits.{Text}
use Rattle.lines.specs.Lines.{header_line, refused_line}
use Rattle.time_lines.specs.Places.{lines_of}

-- First line: seats, bound, rounds, edits.
unfoldable pub record_page : Record → Text
record_page r =
    header_line r.header
    ++ lines_of (farm_of_record r) (λ core. count_of core r.edits) (suc r.header.rounds)

-- A bad record gives one line, `refused` and the number.
unfoldable pub page_of : Reading → Text
page_of (good r) = record_page r
page_of (bad refusal) = refused_line (number_of refusal)
