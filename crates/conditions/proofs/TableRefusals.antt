-- The live table and its calls: each refusal by its number, in its order. And what is accepted is good, whatever carries it.
-- Assumes nothing.
use Rattle.std.specs.Prelude.{None}
use mathlib.Core.Path.{◌≡◌, refl, sym, ◌∙◌, ap}
use mathlib.Core.Logic.{◌↔◌, ◌≢◌, inl, inr}
use mathlib.Core.Bool.{Bool, true, false, cond, true≢false}
use mathlib.Core.List.{List, [], ◌∷◌}
use Prim.Native.Nat.{ℕ}
use native.Mathlib.Omega.{arith}
use lib.ListN.{length}
use borrow.Author.Tests.{eqb-true, eq-eqb}
use Rattle.farm.specs.Limits.{limits}
use Rattle.farm.specs.Refusals.{number_of}
use Rattle.farm.specs.declared.refusals.Refusal.{Refusal}
use Rattle.farm.specs.declared.refusals.Refusal.TheVariants.{OutOfRange, BadLossSet, BadOrder, BadLengths, RoundsFull, EditsFull, BadTable}
use Rattle.record.specs.Answers.{written_in}
use Rattle.record.specs.Faults.{last_of}
use Rattle.record.specs.Good.{good_record}
use Rattle.record.specs.Record.{good, bad}
use Rattle.record.specs.Writing.{Verdict, accepted, faulty, unless, judged_lists, checked_lists, answered}
use Rattle.record.proofs.TakenGood.{reading-taken}
use Rattle.record.proofs.WritingLaws.{judged-good, lists-accepted}
use Rattle.live_table.specs.declared.table.Table.{Table}
use Rattle.live_table.specs.Used.{used_record, table_reading}
use Rattle.live.specs.Answers.{done_of}
use Rattle.live.specs.Calls.{Call, opening, round, edit, present_edit, empty_header, tests_of, first_failing, kept_or, added, answer_to, table_after}
use Rattle.live.proofs.Promises.{passes}
use Rattle.conditions.specs.Order.{Test, ◌unless◌, GiveThen, Give, read_number, answer_number}
use Rattle.conditions.specs.Good.{GoodRecord}
use Rattle.conditions.specs.Refusals.{room7, any19, TablesRefusedByNumber, WritingOutRefusedInOrder, call_tests, CallsRefusedInOrder, EachAcceptedIsGood}
use Rattle.conditions.proofs.OrderLaws.{less, verdict-test}
use Rattle.conditions.proofs.GoodLaws.{numbers_fit, losses-fit, edit-fits, follows-fits, record-good}
use Rattle.conditions.proofs.RecordRefusals.{written-test, buffer-stays}

-- ════ The live table ════

pub tables-refused-by-number : TablesRefusedByNumber
unfolding GiveThen table_reading read_number
tables-refused-by-number table = by (good_record limits (used_record table)) (record-good (used_record table))
  where
    by : (b : Bool) → (b ≡ true) ↔ GoodRecord (used_record table)
        → Give (any19 table ∷ []) (read_number (cond b (good (used_record table)) (bad BadTable)))
    by true same = inl (same.0 refl, refl)
    by false same = inr (λ w. true≢false (sym (same.1 w)), refl)

pub writing-out-refused-in-order : WritingOutRefusedInOrder
unfolding GiveThen table_reading answered written_in answer_number
writing-out-refused-in-order table old answer new said left = (
  rw said (by (good_record limits (used_record table)) (record-good (used_record table))),
  λ some. left ∙ buffer-stays (table_reading table) old _ refl (λ e. some (ap answer_number said ∙ e)),
)
  where
    by : (b : Bool) → (b ≡ true) ↔ GoodRecord (used_record table)
        → Give (any19 table ∷ room7 (used_record table) (length old) ∷ [])
        (answer_number (written_in (answered limits (cond b (good (used_record table)) (bad BadTable)) (length old))))
    by true same = inl (same.0 refl, written-test (length old) (used_record table))
    by false same = inr (λ w. true≢false (sym (same.1 w)), refl)

call-number : Verdict → ℕ
call-number v = answer_number (done_of v)

call-test : (words : Type 0) (tests : List Test) (b : Bool) (f : Refusal) (v : Verdict) → (b ≡ true) ↔ words → (words → Give tests (call-number v))
    → Give (◌unless◌ (number_of f) words ∷ tests) (call-number ((unless) b f v))
unfolding call-number done_of answer_number
call-test words tests b f v = verdict-test call-number (λ refusal. refl) words tests _ b f v

all-passed : Give [] (call-number accepted)
unfolding GiveThen call-number done_of answer_number
all-passed = refl

answers-in-order : (call : Call) (table : Table) → Give (call_tests call table) (call-number (answer_to call table))
unfolding answer_to tests_of first_failing used_record
answers-in-order (opening n t) table = call-test _ [] _ OutOfRange accepted (numbers_fit (empty_header n t)) (λ f. all-passed)
answers-in-order (round sets) table =
    call-test _ _ _ BadTable _ (record-good (used_record table)) (λ sound.
    call-test _ _ _ RoundsFull _ (less table.rounds 127) (λ early.
    call-test _ _ _ BadLengths _ (eqb-true (length sets) table.seats, eq-eqb (length sets) table.seats) (λ long.
    call-test _ [] _ BadLossSet accepted (losses-fit table.seats 1 sets (omega (arith, long))) (λ f. all-passed))))
answers-in-order (edit p cell change) table =
    call-test _ _ _ BadTable _ (record-good (used_record table)) (λ sound.
    call-test _ _ _ OutOfRange _ (edit-fits table.seats table.rounds (present_edit p cell change (used_record table)) (omega (arith, sound.numbers.fewest))) (λ f.
    call-test _ _ _ EditsFull _ (less table.edits 512) (λ early.
    call-test _ [] _ BadOrder accepted (follows-fits (last_of None (used_record table).edits) (present_edit p cell change (used_record table))) (λ g. all-passed))))

pub calls-refused-in-order : CallsRefusedInOrder
unfolding call-number table_after kept_or done_of answer_number
calls-refused-in-order call before answer after (said, left) = (
  rw said (answers-in-order call before),
  λ some. left ∙ by (answer_to call before) (λ e. some (rw said e)),
)
  where
    by : (v : Verdict) → answer_number (done_of v) ≢ 0 → kept_or v before (added call before) ≡ before
    by accepted given = absurd (given refl)
    by (faulty f) given = refl

-- ════ What is accepted ════

pub accepted-is-good : EachAcceptedIsGood
unfolding checked_lists
accepted-is-good r = record {
  bytes = λ bytes e. (record-good r).0 (reading-taken limits bytes r e);
  lists = λ n t R lists e. ((record-good r).0 (lists-accepted limits n t R lists r e).sound, sym (judged-good _ (judged_lists limits n t R lists) r e).1);
  table = λ table e. let p = passes table r e in ((record-good r).0 (rw p.1 p.0), p.1);
}
