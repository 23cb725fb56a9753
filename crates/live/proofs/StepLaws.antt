-- What each test of the code on a table decides: one law for each way that a call ends.
-- Assumes nothing.
use mathlib.Core.Path.{◌≡◌, refl, sym, ◌∙◌, ap}
use mathlib.Core.Bool.{Bool, true, false, ◌&&◌}
use mathlib.Core.List.{List, [], ◌∷◌}
use Prim.Native.Nat.{ℕ, ◌+◌, ◌*◌, ◌^◌, ◌≤◌, ◌<◌}
use native.Mathlib.Omega.{arith}
use lib.Dec.{eqb}
use lib.IntN.{ℤ, pos, negsuc}
use lib.ListN.{length}
use mir.Syntax.{w16}
use mir.Val.{SFits}
use borrow.Author.Tests.{le-ltb, lt-ltb, ltb-true, eqb-true}
use Rattle.std.specs.Prelude.{None, Ok, Err}
use Rattle.farm.specs.Limits.{limits}
use Rattle.farm.specs.Sets.{Seats}
use Rattle.farm.specs.declared.places.Seat.{Seat}
use Rattle.farm.specs.declared.refusals.Refusal.{Refusal}
use Rattle.farm.specs.declared.refusals.Refusal.TheVariants.{OutOfRange, BadOrder, RoundsFull, EditsFull, BadTable}
use Rattle.record.specs.Writing.{lists_of, Verdict, accepted, faulty, unless, header_from, fitting, judged_edits, judged_lists}
use Rattle.record.specs.Answers.{judged_in}
use Rattle.record.specs.Changes.{mapped}
use Rattle.record.specs.Edits.{follows}
use Rattle.record.specs.Faults.{last_of}
use Rattle.record.specs.Good.{good_header, good_edit, good_record}
use Rattle.record.specs.Tables.{edits_from}
use Rattle.record.specs.declared.edits.Edit.{Edit}
use Rattle.record.proofs.GoodLaws.{header-facts, header-from-facts, edit-facts, edit-from-facts, record-facts}
use Rattle.live_table.specs.declared.table.Table.{Table}
use Rattle.live.specs.Answers.{done_of, Ends}
use Rattle.live.specs.Calls.{Call, round, edit, present_edit, round11, round10, round4, edit3, edit12, edit5, tests_of, first_failing, added, kept_or, answer_to, table_after}
use Rattle.live_table.specs.Used.{used_record}
use Rattle.live_table.proofs.SoundLaws.{not_so, sets-fit}
use Rattle.live.proofs.GoodSteps.{all_pass}

-- ════ A round ════

one-round-fits : (b : Bool) → (b && true && true && true) ≡ b
one-round-fits true = refl
one-round-fits false = refl

module _ (sets : List Seats) (table : Table) where
  pub round-bad : good_record limits (used_record table) ≡ false → answer_to (round sets) table ≡ faulty BadTable
  unfolding answer_to tests_of first_failing unless
  round-bad h = rw h

  module _ (g : good_record limits (used_record table) ≡ true) where
    round-on : answer_to (round sets) table ≡ first_failing (round11 (used_record table) ∷ round10 sets (used_record table) ∷ round4 sets (used_record table) ∷ [])
    unfolding answer_to tests_of first_failing unless
    round-on = rw g

    pub round-full : 127 ≤ table.rounds → answer_to (round sets) table ≡ faulty RoundsFull
    unfolding first_failing unless used_record
    round-full h = round-on ∙ rw (le-ltb table.rounds 127 h)

    pub round-judged : table.rounds < 127 → answer_to (round sets) table ≡ judged_lists limits table.seats table.bound 1 (lists_of sets [] [] [] [])
    unfolding first_failing unless used_record judged_lists fitting judged_edits edits_from
    round-judged h =
        let f = header-facts limits _ (record-facts limits (used_record table) g).header in
        let header : good_header limits (header_from table.seats table.bound 1 (lists_of sets [] [] [] [])) ≡ true
        = header-from-facts limits _ (record { fewest = f.fewest; most = f.most; bound = f.bound; rounds = omega arith; edits = omega arith }) in
        let one : table.seats * 1 ≡ table.seats = omega arith in
        round-on ∙ rw (lt-ltb table.rounds 127 h, header, one, one-round-fits (eqb (length sets) table.seats))

-- ════ An edit ════

-- Every change of sixteen bits has a number in range.
pub mapped-fits : (z : ℤ) → SFits w16 z → mapped z ≤ 65535
unfolding mapped
mapped-fits (pos d) f = let s : d < 2 ^ 15 = f.sfits in omega arith
mapped-fits (negsuc d) f = let s : d < 2 ^ 15 = f.sfits in omega arith

-- The new edit is the one that the call places at the present time.
module _ (e : Edit) (table : Table) (now : e.time.0 ≡ table.rounds) where
  present : present_edit e.seat e.cell e.change (used_record table) ≡ e
  unfolding used_record
  present = λ i. record { seat = e.seat; time = record { 0 = sym now i }; cell = e.cell; change = e.change }

  abbrev call : Call
  call = edit e.seat e.cell e.change

  pub edit-bad : good_record limits (used_record table) ≡ false → answer_to call table ≡ faulty BadTable
  unfolding answer_to tests_of first_failing unless
  edit-bad h = rw h

  module _ (g : good_record limits (used_record table) ≡ true) where
    edit-on : answer_to call table ≡ first_failing (edit3 e (used_record table) ∷ edit12 (used_record table) ∷ edit5 e (used_record table) ∷ [])
    unfolding answer_to tests_of first_failing unless
    edit-on = rw (g, present)

    edit-out : good_edit limits table.seats table.rounds e ≡ false → answer_to call table ≡ faulty OutOfRange
    unfolding first_failing unless used_record
    edit-out h = edit-on ∙ rw h

    pub edit-no-seat : table.seats ≤ e.seat.0 → answer_to call table ≡ faulty OutOfRange
    unfolding used_record
    edit-no-seat h = edit-out (not_so _ (λ f.
        let f' = edit-facts limits _ _ e f in
        let k = header-facts limits _ (record-facts limits (used_record table) g).header in omega arith))

    pub edit-no-cell : 65535 < e.cell → answer_to call table ≡ faulty OutOfRange
    edit-no-cell h = edit-out (not_so _ (λ f. let f' = edit-facts limits _ _ e f in omega arith))

    module _ (at : e.seat.0 < table.seats) (in-range : e.cell ≤ 65535) (fits : SFits w16 e.change) where
      sound : good_edit limits table.seats table.rounds e ≡ true
      sound = let m = mapped-fits e.change fits in edit-from-facts limits _ _ e (record { seat = omega arith; time = omega arith; cell = in-range; change = m })

      pub edit-full : 512 ≤ table.edits → answer_to call table ≡ faulty EditsFull
      unfolding first_failing unless used_record
      edit-full h = edit-on ∙ rw (sound, le-ltb table.edits 512 h)

      module _ (room : table.edits < 512) where
        pub edit-early : follows (last_of None (used_record table).edits) e ≡ false → answer_to call table ≡ faulty BadOrder
        unfolding first_failing unless used_record
        edit-early h = edit-on ∙ rw (sound, lt-ltb table.edits 512 room, h)

        pub edit-accepted : follows (last_of None (used_record table).edits) e ≡ true → answer_to call table ≡ accepted
        unfolding first_failing unless used_record
        edit-accepted h = edit-on ∙ rw (sound, lt-ltb table.edits 512 room, h)

-- ════ How a call ends ════

module _ (call : Call) (table : Table) where
  pub refused-ends : (refusal : Refusal) → done_of (answer_to call table) ≡ Err refusal → Ends call table (Err refusal) table
  unfolding done_of table_after kept_or
  refused-ends refusal e = rw (was-refused (answer_to call table) e) (refl, refl)
    where
      was-refused : (v : Verdict) → done_of v ≡ Err refusal → v ≡ faulty refusal
      was-refused accepted g = cc
      was-refused (faulty other) g = let same : other ≡ refusal = cc in ap faulty same

  pub was-accepted : done_of (answer_to call table) ≡ Ok tt → answer_to call table ≡ accepted
  unfolding done_of
  was-accepted e = by (answer_to call table) e
    where
      by : (v : Verdict) → done_of v ≡ Ok tt → v ≡ accepted
      by accepted g = refl
      by (faulty other) g = cc

  pub accepted-ends : (after : Table) → after ≡ added call table → done_of (answer_to call table) ≡ Ok tt → Ends call table (Ok tt) after
  unfolding done_of table_after kept_or
  accepted-ends after e v = rw (was-accepted v) (refl, e)

-- A judgement and a call are answered alike.
pub judged-done : (v : Verdict) → judged_in v ≡ done_of v
unfolding judged_in done_of
judged-done accepted = refl
judged-done (faulty refusal) = refl

-- What is accepted has room in the arrays.
pub round-has-room : (sets : List Seats) (table : Table) → answer_to (round sets) table ≡ accepted
    → (table.seats * table.rounds + length sets ≤ 889) × (table.rounds < 127)
unfolding answer_to tests_of used_record
round-has-room sets table v =
    let p = all_pass _ v in
    let f = header-facts limits _ (record-facts limits (used_record table) p.0).header in
    let early = ltb-true table.rounds 127 p.1.0 in
    let long = eqb-true (length sets) table.seats p.1.1.0 in
    let small : table.seats * (table.rounds + 1) ≤ 889 = sets-fit _ _ f.most (omega arith) in
    (omega arith, early)

pub edit-has-room : (seat : Seat) (cell : ℕ) (change : ℤ) (table : Table) → answer_to (edit seat cell change) table ≡ accepted → table.edits < 512
unfolding answer_to tests_of used_record
edit-has-room seat cell change table v = let p = all_pass _ v in ltb-true table.edits 512 p.1.1.0
