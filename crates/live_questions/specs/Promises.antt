-- What is proved of questions on the live table, as statements with names. Each has its proof under the same name in proofs/Promises.antt.
use Rattle.std.specs.Prelude.{◌≡◌, true, List, ℕ}
use Rattle.farm.specs.Limits.{limits}
use Rattle.farm.specs.declared.places.Seat.{Seat}
use Rattle.farm.specs.declared.places.Time.{Time}
use Rattle.record.specs.Good.{good_record}
use Rattle.record.specs.Record.{Record, good}
use Rattle.record.specs.Writing.{answered, buffer_with}
use Rattle.questions.specs.Question.{Lent, view_asked, known_asked, settled_asked, core_asked, marks_asked, count_asked, loser_asked}
use Rattle.live_table.specs.declared.table.Table.{Table}
use Rattle.live_table.specs.Used.{used_record, table_reading}
use Rattle.live.specs.Answers.{Done}
use Rattle.live.specs.Calls.{Call}
use Rattle.live.specs.Runs.{Run, nothing, told, record_of_all}

-- The table answers every question as the record does, and is written out as the record is.
pub record AnswersAs (table : Table) (r : Record) : Type 0 where
  pub view : (lent : Lent) (p : Seat) (ℓ : Time) → view_asked lent (table_reading table) p ℓ ≡ view_asked lent (good r) p ℓ
  pub known : (p : Seat) (ℓ : Time) → known_asked (table_reading table) p ℓ ≡ known_asked (good r) p ℓ
  pub settled : (p : Seat) (ℓ : Time) → settled_asked (table_reading table) p ℓ ≡ settled_asked (good r) p ℓ
  pub core : (lent : Lent) (p : Seat) (ℓ : Time) → core_asked lent (table_reading table) p ℓ ≡ core_asked lent (good r) p ℓ
  pub marks : (lent : Lent) (p : Seat) (ℓ : Time) → marks_asked lent (table_reading table) p ℓ ≡ marks_asked lent (good r) p ℓ
  pub count : (p : Seat) (ℓ : Time) → count_asked (table_reading table) p ℓ ≡ count_asked (good r) p ℓ
  pub loser : (p : Seat) → loser_asked (table_reading table) p ≡ loser_asked (good r) p
  pub written : (room : ℕ) → answered limits (table_reading table) room ≡ answered limits (good r) room
  pub buffer : (old : List ℕ) → buffer_with limits (table_reading table) old ≡ buffer_with limits (good r) old

-- A table that passes 19, however it came to be, answers as the record in its used part does.
abbrev pub GoodTableAnswersAsItsRecord : Type 0
GoodTableAnswersAsItsRecord = (table : Table) → good_record limits (used_record table) ≡ true → AnswersAs table (used_record table)

-- After any calls on a table in any state, once an opening was accepted, the table answers as the record of the calls accepted since the
-- last accepted opening does.
abbrev pub RunAnswersAsTheRecord : Type 0
RunAnswersAsTheRecord =
    (calls : List Call) (before : Table) (answers : List Done) (after : Table) (r : Record)
    → Run calls before answers after → record_of_all calls answers nothing ≡ told r → AnswersAs after r
