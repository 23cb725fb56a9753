-- Any run of calls, from a table in any state, and the record of the calls that were accepted.
use Rattle.std.specs.Prelude.{List, [], ◌∷◌, Ok, Err}
use Rattle.record.specs.Record.{Record}
use Rattle.live_table.specs.declared.table.Table.{Table}
use Rattle.live.specs.Answers.{Done, Ends}
use Rattle.live.specs.Calls.{Call, opening, round, edit, opened_record, with_round, with_edit, present_edit}

-- Each call gets the table as the one before left it, and ends as its contract says.
pub data Run : List Call → (before : Table) → List Done → (after : Table) → Type 0 where
  stop : (table : Table) → Run [] table [] table
  step : (call : Call) (calls : List Call) (before : Table) (answer : Done) (between : Table) (answers : List Done) (after : Table)
      → Ends call before answer between → Run calls between answers after → Run (call ∷ calls) before (answer ∷ answers) after

-- What is known of the record from the answers alone: nothing before the first accepted opening.
pub data Told : Type 0 where
  nothing : Told
  told : Record → Told

-- An accepted call adds to the record; an accepted opening begins it anew.
unfoldable pub recorded : Call → Told → Told
recorded (opening n t) before = told (opened_record n t)
recorded (round sets) nothing = nothing
recorded (round sets) (told r) = told (with_round sets r)
recorded (edit seat cell change) nothing = nothing
recorded (edit seat cell change) (told r) = told (with_edit (present_edit seat cell change r) r)

-- A refused call adds nothing.
unfoldable pub recorded_if : Done → Call → Told → Told
recorded_if (Ok done) call before = recorded call before
recorded_if (Err refusal) call before = before

-- The record of the calls accepted since the last accepted opening, from the calls and their answers.
unfoldable pub record_of_all : List Call → List Done → Told → Told
record_of_all [] answers before = before
record_of_all (call ∷ calls) [] before = before
record_of_all (call ∷ calls) (answer ∷ answers) before = record_of_all calls answers (recorded_if answer call before)
