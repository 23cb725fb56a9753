-- The promises of specs/Promises.antt, each proved under its own name.
-- Assumes nothing.
use mathlib.Core.Path.{◌≡◌, refl, ◌∙◌}
use mathlib.Core.Bool.{Bool, true, false, cond}
use Prim.Native.Nat.{ℕ}
use native.Mathlib.Omega.{arith}
use Rattle.std.specs.Prelude.{Err}
use Rattle.farm.specs.Limits.{limits}
use Rattle.farm.specs.declared.refusals.Refusal.TheVariants.{BadTable}
use Rattle.record.specs.Good.{good_record}
use Rattle.record.specs.Record.{Record, good, bad, bytes_of}
use Rattle.record.specs.Writing.{Verdict, accepted, faulty}
use Rattle.record.proofs.Promises.{document-numbers-fit}
use Rattle.record.proofs.ReadBack.{reading-back}
use Rattle.record.proofs.TakenGood.{reading-taken}
use Rattle.live_table.specs.declared.table.Table.{Table}
use Rattle.live.specs.Answers.{done_of}
use Rattle.live.specs.Calls.{added, kept_or, answer_to, table_after}
use Rattle.live_table.specs.Used.{used_record, table_reading}
use Rattle.live.specs.Promises.{TableRefusedExactlyWhenNotGood, TablePassesExactlyWhenItReadsBack, RefusedCallLeavesTheTable, CallsHaveARun, RunKeepsTheRecord}
use Rattle.live.proofs.RunLaws as runs
use Rattle.live_table.proofs.UsedLaws.{reading-good, reads-bad}

-- ════ Refusal 19 ════

tested : (b : Bool) (r s : Record) → cond b (good r) (bad BadTable) ≡ good s → (b ≡ true) × (s ≡ r)
tested true r s e = (refl, (cc))
tested false r s e = let z : ◌≡◌ {A = ℕ} 0 1 = cc in absurd (omega arith)

failed : (b : Bool) (r : Record) → cond b (good r) (bad BadTable) ≡ bad BadTable → b ≡ false
failed true r e = let z : ◌≡◌ {A = ℕ} 0 1 = cc in absurd (omega arith)
failed false r e = refl

pub passes : (table : Table) (r : Record) → table_reading table ≡ good r → (good_record limits (used_record table) ≡ true) × (r ≡ used_record table)
unfolding table_reading
passes table r e = tested (good_record limits (used_record table)) (used_record table) r e

pub table-refused-exactly-when-not-good : TableRefusedExactlyWhenNotGood
unfolding table_reading
table-refused-exactly-when-not-good table = (failed (good_record limits (used_record table)) (used_record table), reads-bad table)

pub table-passes-exactly-when-it-reads-back : TablePassesExactlyWhenItReadsBack
table-passes-exactly-when-it-reads-back table = (
  λ e. reading-back limits document-numbers-fit (used_record table) (passes table (used_record table) e).0,
  λ e. reading-good table (reading-taken limits (bytes_of limits (used_record table)) (used_record table) e),
)

-- ════ Condition 2: the live table ════

pub refused-call-leaves-the-table : RefusedCallLeavesTheTable
unfolding table_after kept_or done_of
refused-call-leaves-the-table call before refusal after (said, left) = left ∙ by (answer_to call before) said
  where
    by : (v : Verdict) → Err refusal ≡ done_of v → kept_or v before (added call before) ≡ before
    by accepted e = let z : ◌≡◌ {A = ℕ} 0 1 = cc in absurd (omega arith)
    by (faulty other) e = refl

pub calls-have-a-run : CallsHaveARun
calls-have-a-run = runs.calls-have-a-run

pub run-keeps-the-record : RunKeepsTheRecord
run-keeps-the-record = runs.run-keeps-the-record
