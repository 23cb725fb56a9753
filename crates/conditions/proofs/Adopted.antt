-- Calls on a good table go on from the record in its used part, call by call.
-- Assumes nothing.
use mathlib.Core.Path.{◌≡◌, refl, sym, ◌∙◌, ap}
use mathlib.Core.Bool.{true}
use mathlib.Core.List.{List}
use Rattle.farm.specs.Limits.{limits}
use Rattle.record.specs.Good.{good_record}
use Rattle.record.specs.Record.{Record, good}
use Rattle.record.specs.Writing.{Verdict, accepted, faulty}
use Rattle.live_table.specs.declared.table.Table.{Table}
use Rattle.live_table.specs.Used.{used_record}
use Rattle.live_table.proofs.UsedLaws.{reading-good}
use Rattle.live.specs.Answers.{Done, done_of, Ends}
use Rattle.live.specs.Calls.{Call, opening, round, edit, opened_record, with_round, with_edit, present_edit, tests_of, added, kept_or, answer_to, table_after}
use Rattle.live.specs.Runs.{Run, stop, step, Told, told, recorded, recorded_if, record_of_all}
use Rattle.live.proofs.GoodSteps.{AllPass, all_pass, opened-good, round-good, edit-good}
use Rattle.live.proofs.RunLaws.{used-opened, used-with-round, used-with-edit}
use Rattle.live_questions.proofs.Promises.{reads-answers, good-table-answers-as-its-record}
use Rattle.conditions.specs.Adopted.{AnyGoodTableAnswers, RunContinuesAGoodTable}
use Rattle.conditions.proofs.GoodLaws.{record-good}

pub any-good-table-answers : AnyGoodTableAnswers
any-good-table-answers table sound = good-table-answers-as-its-record table ((record-good (used_record table)).1 sound)

-- The record that was told is in the used part, and good.
record Holds (before : Told) (table : Table) : Type 0 where
  what : Record
  is : before ≡ told what
  used : used_record table ≡ what
  is_good : good_record limits what ≡ true

-- The record with what an accepted call adds.
grown : Call → Record → Record
grown (opening n t) r = opened_record n t
grown (round sets) r = with_round sets r
grown (edit p cell change) r = with_edit (present_edit p cell change r) r

adds : (call : Call) (r : Record) → recorded call (told r) ≡ told (grown call r)
unfolding recorded grown
adds (opening n t) r = refl
adds (round sets) r = refl
adds (edit p cell change) r = refl

used_grows : (call : Call) (table : Table) → AllPass (tests_of call (used_record table)) → used_record (added call table) ≡ grown call (used_record table)
unfolding grown
used_grows (opening n t) table p = used-opened n t table
used_grows (round sets) table p = used-with-round sets table p
used_grows (edit seat cell change) table p = used-with-edit seat cell change table p

grows-good : (call : Call) (r : Record) → AllPass (tests_of call r) → good_record limits (grown call r) ≡ true
unfolding grown
grows-good (opening n t) r p = opened-good n t r p
grows-good (round sets) r p = round-good sets r p
grows-good (edit seat cell change) r p = edit-good seat cell change r p

call-holds : (call : Call) (table : Table) (answer : Done) (after : Table) (before : Told) → Ends call table answer after → Holds before table
    → Holds (recorded_if answer call before) after
unfolding table_after done_of recorded_if kept_or answer_to
call-holds call table answer after before (said, left) h = rw (said, left) (by (answer_to call table) refl)
  where
    by : (v : Verdict) → answer_to call table ≡ v → Holds (recorded_if (done_of v) call before) (kept_or v table (added call table))
    by accepted e =
        let p = all_pass _ e in record {
          what = grown call (used_record table);
          is = ap (recorded call) (h.is ∙ ap told (sym h.used)) ∙ adds call (used_record table);
          used = used_grows call table p;
          is_good = grows-good call (used_record table) p;
        }
    by (faulty refusal) e = h

run_holds : (calls : List Call) (table : Table) (answers : List Done) (after : Table) (before : Told) → Run calls table answers after
    → Holds before table → Holds (record_of_all calls answers before) after
unfolding record_of_all
run_holds _ _ _ _ before (stop table) h = h
run_holds _ _ _ _ before (step call calls table answer between answers after ends run) h =
    run_holds calls between answers after (recorded_if answer call before) run (call-holds call table answer between before ends h)

pub run-continues-a-good-table : RunContinuesAGoodTable
run-continues-a-good-table calls before answers after sound run =
    let h = run_holds calls before answers after (told (used_record before)) run
    (record { what = used_record before; is = refl; used = refl; is_good = (record-good (used_record before)).1 sound }) in
    let reads = reading-good after (rw h.used h.is_good) ∙ ap good h.used in
    record {
      what = h.what;
      since = h.is;
      used = h.used;
      reads = reads;
      is_good = (record-good h.what).0 h.is_good;
      as_its = reads-answers after h.what reads;
    }
