-- The live clause for a table that was never opened, or was altered in between, and passes 19: it answers as the record in its used part
-- does, and calls go on from that record.
use Rattle.std.specs.Prelude.{◌≡◌, List}
use Rattle.record.specs.Record.{Record, good}
use Rattle.live_table.specs.declared.table.Table.{Table}
use Rattle.live_table.specs.Used.{used_record, table_reading}
use Rattle.live.specs.Answers.{Done}
use Rattle.live.specs.Calls.{Call}
use Rattle.live.specs.Runs.{Run, told, record_of_all}
use Rattle.live_questions.specs.Promises.{AnswersAs}
use Rattle.conditions.specs.Good.{GoodRecord}

abbrev pub AnyGoodTableAnswers : Type 0
AnyGoodTableAnswers = (table : Table) → GoodRecord (used_record table) → AnswersAs table (used_record table)

-- The record of the calls accepted since, worked from the answers alone, is in the used part, passes 19 and is answered from.
pub record Continues (calls : List Call) (before : Table) (answers : List Done) (after : Table) : Type 0 where
  pub what : Record
  pub since : record_of_all calls answers (told (used_record before)) ≡ told what
  pub used : used_record after ≡ what
  pub reads : table_reading after ≡ good what
  pub is_good : GoodRecord what
  pub as_its : AnswersAs after what

abbrev pub RunContinuesAGoodTable : Type 0
RunContinuesAGoodTable =
    (calls : List Call) (before : Table) (answers : List Done) (after : Table) → GoodRecord (used_record before)
    → Run calls before answers after → Continues calls before answers after
