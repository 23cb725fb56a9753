-- Any run of calls: the table's used part and the record of the accepted calls stay the same, call by call.
-- Assumes nothing.
use mathlib.Core.Path.{◌≡◌, refl, sym, ◌∙◌, ap}
use mathlib.Core.Bool.{true}
use mathlib.Core.List.{List, [], ◌∷◌, ◌++◌}
use Prim.Native.Nat.{ℕ, ◌+◌, ◌*◌}
use native.Mathlib.Nat.{mul-zero}
use native.Mathlib.Omega.{arith}
use lib.Dec.{eqb}
use lib.IntN.{ℤ}
use lib.ListN.{length, take}
use borrow.Author.Tests.{eqb-true}
use Rattle.farm.specs.Limits.{limits}
use Rattle.farm.specs.Sets.{Seats}
use Rattle.farm.specs.declared.places.Seat.{Seat}
use Rattle.record.specs.Good.{good_record}
use Rattle.record.specs.Record.{Record}
use Rattle.record.specs.Tables.{edits_from}
use Rattle.record.specs.Writing.{Verdict, accepted, faulty}
use Rattle.record.proofs.GoodLaws.{record-facts}
use Rattle.live_table.specs.declared.table.Table.{Table}
use Rattle.live_table.specs.Used.{used_record}
use Rattle.live.specs.Calls.{Call, opening, round, edit, opened_record, with_round, with_edit, present_edit, tests_of, opened_table, table_with_round, table_with_edit, added, kept_or, answer_to, table_after}
use Rattle.live.specs.Answers.{Done, done_of, Ends}
use Rattle.live.specs.Runs.{Run, stop, step, Told, nothing, told, recorded, recorded_if, record_of_all}
use Rattle.live.specs.Promises.{CallsHaveARun, RunKeepsTheRecord}
use Rattle.live_table.proofs.ListLaws.{used_over, edits-from-append, cut-full}
use Rattle.live_table.proofs.UsedLaws.{reading-good}
use Rattle.live.proofs.GoodSteps.{AllPass, all_pass, opened-good, round-good, edit-good}

-- ════ Used parts ════

pub used-opened : (n t : ℕ) (table : Table) → used_record (opened_table n t table) ≡ opened_record n t
unfolding used_record edits_from
used-opened n t table = rw (mul-zero n)

-- A table whose used part is good has all of it in its arrays.
pub used-with-round : (sets : List Seats) (table : Table) → AllPass (tests_of (round sets) (used_record table))
    → used_record (table_with_round sets table) ≡ with_round sets (used_record table)
unfolding used_record tests_of
used-with-round sets table (a, (b, (c, (d, none)))) =
    let whole : good_record limits (used_record table) ≡ true = cc in
    let fits : eqb (length sets) table.seats ≡ true = cc in
    let f = record-facts limits (used_record table) whole in
    let long : length sets ≡ table.seats = eqb-true _ _ fits in
    let losses : take (table.seats * (table.rounds + 1)) (table_with_round sets table).losses ≡ take (table.seats * table.rounds) table.losses ++ sets
    = used_over (table.seats * table.rounds) (table.seats * (table.rounds + 1)) sets table.losses f.loss_count (omega arith) in
    rw losses

pub used-with-edit : (seat : Seat) (cell : ℕ) (change : ℤ) (table : Table) → AllPass (tests_of (edit seat cell change) (used_record table))
    → used_record (table_with_edit seat cell change table)
    ≡ with_edit (present_edit seat cell change (used_record table)) (used_record table)
unfolding used_record tests_of
used-with-edit seat cell change table (a, (b, (c, (d, none)))) =
    let whole : good_record limits (used_record table) ≡ true = cc in
    let E = table.edits in
    let full = cut-full E table.editors table.times table.cells table.changes (record-facts limits (used_record table) whole).edit_count in
    rw (
      used_over E (E + 1) (seat.0 ∷ []) table.editors full.seats refl,
      used_over E (E + 1) (table.rounds ∷ []) table.times full.times refl,
      used_over E (E + 1) (cell ∷ []) table.cells full.cells refl,
      used_over E (E + 1) (change ∷ []) table.changes full.changes refl,
      edits-from-append (take E table.editors) (take E table.times) (take E table.cells) (take E table.changes) seat.0
          table.rounds cell change (full.times ∙ sym full.seats) (full.cells ∙ sym full.seats) (full.changes ∙ sym full.seats),
    )

-- ════ One call ════

-- What has been told of a table is its used part, and good.
abbrev Keeps : Told → Table → Type 0
Keeps nothing table = Unit {0}
Keeps (told r) table = (used_record table ≡ r) × (good_record limits r ≡ true)

accepted-keeps : (call : Call) (table : Table) (before : Told) → Keeps before table → AllPass (tests_of call (used_record table))
    → Keeps (recorded call before) (added call table)
unfolding recorded
accepted-keeps (opening n t) table before k p = (used-opened n t table, opened-good n t (used_record table) p)
accepted-keeps (round sets) table nothing k p = tt
accepted-keeps (round sets) table (told r) (u, g) p = (
  used-with-round sets table p ∙ ap (with_round sets) u,
  ap (λ (s : Record). good_record limits (with_round sets s)) (sym u) ∙ round-good sets (used_record table) p,
)
accepted-keeps (edit seat cell change) table nothing k p = tt
accepted-keeps (edit seat cell change) table (told r) (u, g) p = (
  used-with-edit seat cell change table p ∙ ap (λ (s : Record). with_edit (present_edit seat cell change s) s) u,
  ap (λ (s : Record). good_record limits (with_edit (present_edit seat cell change s) s)) (sym u) ∙ edit-good seat cell change (used_record table) p,
)

call-keeps : (call : Call) (table : Table) (answer : Done) (after : Table) (before : Told) → Ends call table answer after → Keeps before table
    → Keeps (recorded_if answer call before) after
unfolding table_after done_of recorded_if kept_or answer_to
call-keeps call table answer after before (said, left) k = rw (said, left) (by (answer_to call table) refl)
  where
    by : (v : Verdict) → answer_to call table ≡ v → Keeps (recorded_if (done_of v) call before) (kept_or v table (added call table))
    by accepted e = accepted-keeps call table before k (all_pass _ e)
    by (faulty refusal) e = k

-- ════ Any run ════

pub calls-have-a-run : CallsHaveARun
calls-have-a-run [] table = ([], table, stop table)
calls-have-a-run (call ∷ calls) table =
    let next = calls-have-a-run calls (table_after call table) in (
      done_of (answer_to call table) ∷ next.0,
      next.1,
      step call calls table (done_of (answer_to call table)) (table_after call table) next.0 next.1 (refl, refl) next.2,
    )

run-keeps : (calls : List Call) (table : Table) (answers : List Done) (after : Table) (before : Told) → Run calls table answers after
    → Keeps before table → Keeps (record_of_all calls answers before) after
unfolding record_of_all
run-keeps _ _ _ _ before (stop table) k = k
run-keeps _ _ _ _ before (step call calls table answer between answers after ends run) k =
    run-keeps calls between answers after (recorded_if answer call before) run (call-keeps call table answer between before ends k)

pub run-keeps-the-record : RunKeepsTheRecord
run-keeps-the-record calls table answers after r run e =
    let k : (used_record after ≡ r) × (good_record limits r ≡ true) = rw e at (run-keeps calls table answers after nothing run tt) in
    (rw (reading-good after (rw k.0 k.1), k.0), k.0)
