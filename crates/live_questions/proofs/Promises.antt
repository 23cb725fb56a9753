-- The promises of specs/Promises.antt, each proved under its own name.
-- Assumes nothing.
use mathlib.Core.Path.{◌≡◌}
use Rattle.record.specs.Record.{Record, good}
use Rattle.live_table.specs.declared.table.Table.{Table}
use Rattle.live_table.specs.Used.{used_record, table_reading}
use Rattle.live_table.proofs.UsedLaws.{reading-good}
use Rattle.live.proofs.Promises.{run-keeps-the-record}
use Rattle.live_questions.specs.Promises.{AnswersAs, GoodTableAnswersAsItsRecord, RunAnswersAsTheRecord}

-- Every question is asked of what the table reads as.
pub reads-answers : (table : Table) (r : Record) → table_reading table ≡ good r → AnswersAs table r
reads-answers table r e = record {
  view = λ lent p ℓ. rw e;
  known = λ p ℓ. rw e;
  settled = λ p ℓ. rw e;
  core = λ lent p ℓ. rw e;
  marks = λ lent p ℓ. rw e;
  count = λ p ℓ. rw e;
  loser = λ p. rw e;
  written = λ room. rw e;
  buffer = λ old. rw e;
}

pub good-table-answers-as-its-record : GoodTableAnswersAsItsRecord
good-table-answers-as-its-record table g = reads-answers table (used_record table) (reading-good table g)

pub run-answers-as-the-record : RunAnswersAsTheRecord
run-answers-as-the-record calls before answers after r run e =
    reads-answers after r (run-keeps-the-record calls before answers after r run e).0
