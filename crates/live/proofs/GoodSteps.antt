-- An accepted call leads from a good record to a good record.
-- Assumes nothing.
use mathlib.Core.Path.{◌≡◌, refl, sym}
use mathlib.Core.Bool.{Bool, true, false, ◌&&◌, true≢false}
use mathlib.Core.List.{List, [], ◌∷◌, ◌++◌}
use Prim.Native.Nat.{ℕ, zero, suc, ◌+◌, ◌*◌, ◌≤◌, ◌<◌}
use native.Mathlib.Nat.{mul-zero, mul-suc, zero-add, not-suc-le-zero}
use native.Mathlib.Omega.{arith}
use lib.Dec.{eqb, ltb}
use lib.IntN.{ℤ}
use lib.ListN.{length, length-append}
use borrow.Author.Tests.{eq-eqb, ne_eqb, ltb-true, eqb-true}
use Rattle.std.specs.Prelude.{Option, Some, None}
use Rattle.farm.specs.Limits.{Limits, limits}
use Rattle.farm.specs.Sets.{Seats}
use Rattle.farm.proofs.Cases.{and_intro, and-elim}
use Rattle.farm.specs.declared.places.Seat.{Seat}
use Rattle.farm.specs.declared.refusals.Refusal.{Refusal}
use Rattle.record.specs.declared.edits.Edit.{Edit}
use Rattle.record.specs.Edits.{follows}
use Rattle.record.specs.Faults.{last_of}
use Rattle.record.specs.Losses.{first_seat, seat_after, good_set}
use Rattle.record.specs.Good.{sender_after, good_sets, good_edit, good_edits, good_record}
use Rattle.record.specs.Record.{Record}
use Rattle.record.specs.Writing.{Verdict, accepted, unless}
use Rattle.record.proofs.GoodLaws.{header-facts, header-from-facts, edit-facts, edit-from-facts, record-facts, record-from-facts}
use Rattle.live.specs.Calls.{opening, round, edit, opened_record, with_round, present_edit, with_edit, Test, tests_of, first_failing}

-- ════ Tests ════

-- Every test passes.
abbrev pub AllPass : List Test → Type 0
AllPass [] = Unit {0}
AllPass ((passes, refusal) ∷ tests) = (passes ≡ true) × AllPass tests

unless-accepted : (test : Bool) (r : Refusal) (later : Verdict) → unless test r later ≡ accepted → (test ≡ true) × (later ≡ accepted)
unfolding unless
unless-accepted true r later e = (refl, e)
unless-accepted false r later e = absurd (true≢false (cc))

pub all_pass : (tests : List Test) → first_failing tests ≡ accepted → AllPass tests
unfolding first_failing
all_pass [] e = tt
all_pass ((passes, refusal) ∷ tests) e =
    let p = unless-accepted passes refusal (first_failing tests) e in (p.0, all_pass tests p.1)

-- ════ Senders ════

-- The sender after so many sets.
sender_in : (n : ℕ) → Seat → (count : ℕ) → Seat
sender_in n sender zero = sender
sender_in n sender (suc count) = sender_in n (sender_after n sender) count

sender-adds : (n a b : ℕ) (sender : Seat) → sender_in n sender (a + b) ≡ sender_in n (sender_in n sender a) b
unfolding sender_in
sender-adds n zero b sender = rw (zero-add b)
sender-adds n (suc a) b sender = let e : suc a + b ≡ suc (a + b) = omega arith in rw e (sender-adds n a b (sender_after n sender))

-- The rest of a round leads back to the first sender.
round-ends : (n left : ℕ) (sender : Seat) → sender.0 + suc left ≡ n → sender_in n sender (suc left) ≡ first_seat
unfolding sender_in sender_after
round-ends n zero sender e = rw (eq-eqb (suc sender.0) n (omega arith))
round-ends n (suc left) sender e =
    rw (ne_eqb (suc sender.0) n (λ f. omega arith)) (round-ends n left (seat_after sender) (omega arith))

rounds-end : (n R : ℕ) → 0 < n → sender_in n first_seat (n * R) ≡ first_seat
unfolding sender_in
rounds-end zero R h = absurd (not-suc-le-zero h)
rounds-end (suc n) zero h = rw mul-zero
rounds-end (suc n) (suc R) h =
    rw (mul-suc (suc n) R, sender-adds (suc n) (suc n * R) (suc n) first_seat, rounds-end (suc n) R h) (round-ends (suc n) n first_seat (zero-add (suc n)))

sets-append : (n : ℕ) (sender : Seat) (a b : List Seats) → good_sets n sender a ≡ true → good_sets n (sender_in n sender (length a)) b ≡ true
    → good_sets n sender (a ++ b) ≡ true
unfolding good_sets sender_in
sets-append n sender [] b p q = q
sets-append n sender (x ∷ a) b p q =
    let both = and-elim (good_set n sender x) (good_sets n (sender_after n sender) a) p in
    and_intro (good_set n sender x) (good_sets n (sender_after n sender) (a ++ b)) both.0
    (sets-append n (sender_after n sender) a b both.1 q)

-- ════ Edits ════

-- What was good with fewer rounds is good with one more.
edits-with-round : (L : Limits) (n R : ℕ) (before : Option Edit) (edits : List Edit) → good_edits L n R before edits ≡ true
    → good_edits L n (R + 1) before edits ≡ true
unfolding good_edits
edits-with-round L n R before [] h = refl
edits-with-round L n R before (e ∷ edits) h =
    let a = and-elim _ _ h in
    let b = and-elim _ _ a.0 in
    let f = edit-facts L n R e b.0 in
    let later : e.time.0 ≤ R + 1 = omega (arith, f.time) in
    and_intro _ _
    (and_intro _ _ (edit-from-facts L n (R + 1) e (record { seat = f.seat; time = later; cell = f.cell; change = f.change })) b.1)
    (edits-with-round L n R (Some e) edits a.1)

edits-append : (L : Limits) (n R : ℕ) (before : Option Edit) (edits : List Edit) (e : Edit) → good_edits L n R before edits ≡ true
    → good_edit L n R e ≡ true → follows (last_of before edits) e ≡ true → good_edits L n R before (edits ++ (e ∷ [])) ≡ true
unfolding good_edits last_of
edits-append L n R before [] e h g f = and_intro _ _ (and_intro _ _ g f) refl
edits-append L n R before (x ∷ edits) e h g f =
    let a = and-elim (good_edit L n R x && follows before x) (good_edits L n R (Some x) edits) h in
    and_intro (good_edit L n R x && follows before x) (good_edits L n R (Some x) (edits ++ (e ∷ []))) a.0 (edits-append L n R (Some x) edits e a.1 g f)

-- ════ The three calls ════

-- Only which tests pass is used here, and not their order.

pub opened-good : (n t : ℕ) (r : Record) → AllPass (tests_of (opening n t) r) → good_record limits (opened_record n t) ≡ true
unfolding tests_of good_sets good_edits
opened-good n t r (header, none) =
    record-from-facts limits (opened_record n t) (record {
      header = header;
      loss_count = sym (mul-zero n);
      losses = refl;
      edit_count = refl;
      edits = refl;
    })

pub round-good : (sets : List Seats) (r : Record) → AllPass (tests_of (round sets) r) → good_record limits (with_round sets r) ≡ true
unfolding tests_of
round-good sets r (a, (b, (c, (d, none)))) =
    let whole : good_record limits r ≡ true = cc in
    let room : ltb r.header.rounds limits.most_rounds ≡ true = cc in
    let fits : eqb (length sets) r.header.seats ≡ true = cc in
    let sound : good_sets r.header.seats first_seat sets ≡ true = cc in
    let f = record-facts limits r whole in
    let h = header-facts limits r.header f.header in
    let less : r.header.rounds < limits.most_rounds = ltb-true _ _ room in
    let long : length sets ≡ r.header.seats = eqb-true _ _ fits in
    record-from-facts limits (with_round sets r) (record {
      header = header-from-facts limits (with_round sets r).header (record { fewest = h.fewest; most = h.most; bound = h.bound; rounds = omega arith; edits = h.edits });
      loss_count = rw (length-append, f.loss_count, long) (omega arith);
      losses =
          sets-append r.header.seats first_seat r.losses sets f.losses
          (rw (f.loss_count, rounds-end r.header.seats r.header.rounds (omega (arith, h.fewest))) sound);
      edit_count = f.edit_count;
      edits = edits-with-round limits r.header.seats r.header.rounds None r.edits f.edits;
    })

pub edit-good : (seat : Seat) (cell : ℕ) (change : ℤ) (r : Record) → AllPass (tests_of (edit seat cell change) r)
    → good_record limits (with_edit (present_edit seat cell change r) r) ≡ true
unfolding tests_of
edit-good seat cell change r (a, (b, (c, (d, none)))) =
    let e = present_edit seat cell change r in
    let whole : good_record limits r ≡ true = cc in
    let fits : good_edit limits r.header.seats r.header.rounds e ≡ true = cc in
    let room : ltb r.header.edits limits.most_edits ≡ true = cc in
    let rising : follows (last_of None r.edits) e ≡ true = cc in
    let f = record-facts limits r whole in
    let h = header-facts limits r.header f.header in
    let less : r.header.edits < limits.most_edits = ltb-true _ _ room in
    record-from-facts limits (with_edit e r) (record {
      header = header-from-facts limits (with_edit e r).header (record { fewest = h.fewest; most = h.most; bound = h.bound; rounds = h.rounds; edits = omega arith });
      loss_count = f.loss_count;
      losses = f.losses;
      edit_count = rw (length-append, f.edit_count);
      edits = edits-append limits r.header.seats r.header.rounds None r.edits e f.edits fits rising;
    })
