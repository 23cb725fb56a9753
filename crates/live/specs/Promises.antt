-- What is proved of the live table, as statements with names. Each has its proof under the same name in proofs/Promises.antt.
use Rattle.std.specs.Prelude.{◌≡◌, ◌↔◌, false, List, Err}
use Rattle.farm.specs.Limits.{limits}
use Rattle.farm.specs.declared.refusals.Refusal.{Refusal}
use Rattle.farm.specs.declared.refusals.Refusal.TheVariants.{BadTable}
use Rattle.record.specs.Good.{good_record}
use Rattle.record.specs.Record.{Record, good, bad, reading_of, bytes_of}
use Rattle.live_table.specs.declared.table.Table.{Table}
use Rattle.live_table.specs.Used.{used_record, table_reading}
use Rattle.live.specs.Calls.{Call}
use Rattle.live.specs.Answers.{Done, Ends}
use Rattle.live.specs.Runs.{Run, nothing, told, record_of_all}

-- ════ Refusal 19 ════

-- 19 is given exactly when the used part is not a good record.
abbrev pub TableRefusedExactlyWhenNotGood : Type 0
TableRefusedExactlyWhenNotGood =
    (table : Table) → (table_reading table ≡ bad BadTable) ↔ (good_record limits (used_record table) ≡ false)

-- To pass the test of 19, and to read as a good record from its own bytes, are the same thing, for a table in any state.
abbrev pub TablePassesExactlyWhenItReadsBack : Type 0
TablePassesExactlyWhenItReadsBack =
    (table : Table)
    → (table_reading table ≡ good (used_record table))
    ↔ (reading_of limits (bytes_of limits (used_record table)) ≡ good (used_record table))

-- ════ Condition 2: the live table ════

-- A refused call of any kind leaves every entry of the table.
abbrev pub RefusedCallLeavesTheTable : Type 0
RefusedCallLeavesTheTable =
    (call : Call) (before : Table) (refusal : Refusal) (after : Table) → Ends call before (Err refusal) after → after ≡ before

-- Every list of calls has a run from a table in any state.
abbrev pub CallsHaveARun : Type 0
CallsHaveARun = (calls : List Call) (before : Table) → (answers : List Done) × (after : Table) × Run calls before answers after

-- The law of any run: whatever calls are made, on a table in any state, once an opening was accepted the table reads as the record of
-- the calls accepted since the last accepted opening.
abbrev pub RunKeepsTheRecord : Type 0
RunKeepsTheRecord =
    (calls : List Call) (before : Table) (answers : List Done) (after : Table) (r : Record)
    → Run calls before answers after → record_of_all calls answers nothing ≡ told r
    → (table_reading after ≡ good r) × (used_record after ≡ r)
