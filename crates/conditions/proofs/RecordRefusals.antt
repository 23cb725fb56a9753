-- Records as bytes and as lists, read into tables and written: each refusal by its number, exactly where its words hold.
-- Assumes nothing.
use Rattle.std.specs.Prelude.{Option, Some, None}
use mathlib.Core.Path.{◌≡◌, refl, sym, ◌∙◌, ap, subst}
use mathlib.Core.Logic.{◌↔◌, ◌≢◌, inl, inr}
use mathlib.Core.Bool.{Bool, true, false, cond, true≢false}
use mathlib.Core.List.{List, [], ◌∷◌}
use Prim.Native.Nat.{ℕ, ◌<◌}
use native.Mathlib.Omega.{arith}
use lib.Dec.{leb}
use lib.ListN.{length}
use borrow.Author.Tests.{le-leb, leb-true}
use Rattle.farm.specs.Limits.{limits}
use Rattle.farm.specs.Refusals.{number_of}
use Rattle.farm.specs.declared.refusals.Refusal.{Refusal}
use Rattle.farm.specs.declared.refusals.Refusal.TheVariants.{OutOfRange, BadLossSet, BadOrder, NoRoom, BadLengths}
use Rattle.farm.proofs.Cases.{and_intro, and-elim}
use Rattle.knowledge.specs.Farm.{seat}
use Rattle.record.specs.declared.edits.Edit.{Edit}
use Rattle.record.specs.Document.{reading_of, bytes_of}
use Rattle.record.specs.Answers.{checked_of, written_in}
use Rattle.record.specs.Faults.{NumberFault, ends_early, too_long, not_shortest, Spot, at_seats, at_bound, at_rounds, at_edits, at_loss_set, at_seat, at_time, at_cell, at_change, refusal_at, Fault, bad_number, bad_value, bad_order, bytes_left}
use Rattle.record.specs.Record.{Record, Reading, good, bad}
use Rattle.record.specs.Tables.{Tables, roomy, read_into, tables_after, TablesRead}
use Rattle.record.specs.Taking.{IsBytes}
use Rattle.record.specs.Writing.{Verdict, accepted, faulty, judged, judged_edits, judged_lists, checked_lists, edits_in, header_from, record_from, fitting, Written, count, unwritten, needed, needed_by, answered, written_to, buffer_after, buffer_with}
use Rattle.record.proofs.Promises.{document-numbers-fit, reads-exactly-good-records, refused-exactly-for-its-fault}
use Rattle.record.proofs.WritingLaws.{fitting-elim, fitting-intro, refused-leaves}
use Rattle.conditions.specs.Order.{◌unless◌, GiveThen, Give, read_number, answer_number}
use Rattle.conditions.specs.Good.{EditFits, Follows}
use Rattle.conditions.specs.Refusals.{BytesGive, none, one, two, three, four, five, six, BytesRefusedByNumber, LengthsFit, edit_tests, list_tests, ListsRefusedInOrder, TablesLong, ReadingRefusedInOrder, room7, WritingRefusedInOrder, LengthRefusedInOrder}
use Rattle.conditions.proofs.OrderLaws.{verdict-test}
use Rattle.conditions.proofs.GoodLaws.{numbers_fit, losses-fit, edit-fits, follows-fits, record-good}

-- ════ A record as bytes ════

at-spot : (bytes : List ℕ) (spot : Spot) → Fault limits bytes (refusal_at spot) → BytesGive bytes (number_of (refusal_at spot))
unfolding refusal_at
at-spot bytes at_seats f = three f
at-spot bytes (at_bound n) f = three f
at-spot bytes (at_rounds n t) f = three f
at-spot bytes (at_edits n t R) f = three f
at-spot bytes (at_loss_set h sets) f = four f
at-spot bytes (at_seat r) f = three f
at-spot bytes (at_time r seat) f = three f
at-spot bytes (at_cell r seat time) f = three f
at-spot bytes (at_change r seat time cell) f = three f

number-fault : (bytes rest : List ℕ) (r : Refusal) → NumberFault limits rest r → Fault limits bytes r → BytesGive bytes (number_of r)
number-fault bytes rest r (ends_early c l) f = one f
number-fault bytes rest r (too_long front after e c l) f = two f
number-fault bytes rest r (not_shortest front after e c l m) f = two f

fault-number : (bytes : List ℕ) (f : Refusal) → Fault limits bytes f → BytesGive bytes (number_of f)
fault-number bytes f (bad_number spot rest r g u n) = number-fault bytes rest r n (bad_number spot rest r g u n)
fault-number bytes f (bad_value spot v rest g u s n) = at-spot bytes spot (bad_value spot v rest g u s n)
fault-number bytes f (bad_order p e rest g u h n) = five (bad_order p e rest g u h n)
fault-number bytes f (bytes_left r b rest g u) = six (bytes_left r b rest g u)

module _ (bytes : List ℕ) (all : IsBytes bytes) where
  given_by : (k : ℕ) → BytesGive bytes k → read_number (reading_of bytes) ≡ k
  unfolding read_number
  given_by k (none r g e) = rw ((reads-exactly-good-records limits document-numbers-fit bytes all r).1 ((record-good r).1 g, e))
  given_by k (one f) = rw ((refused-exactly-for-its-fault limits document-numbers-fit bytes all _).1 f)
  given_by k (two f) = rw ((refused-exactly-for-its-fault limits document-numbers-fit bytes all _).1 f)
  given_by k (three f) = rw ((refused-exactly-for-its-fault limits document-numbers-fit bytes all _).1 f)
  given_by k (four f) = rw ((refused-exactly-for-its-fault limits document-numbers-fit bytes all _).1 f)
  given_by k (five f) = rw ((refused-exactly-for-its-fault limits document-numbers-fit bytes all _).1 f)
  given_by k (six f) = rw ((refused-exactly-for-its-fault limits document-numbers-fit bytes all _).1 f)

  gives : (x : Reading) → reading_of bytes ≡ x → BytesGive bytes (read_number x)
  unfolding read_number
  gives (good r) e =
      let g = (reads-exactly-good-records limits document-numbers-fit bytes all r).0 e in
      none r ((record-good r).0 g.0) g.1
  gives (bad f) e = fault-number bytes f ((refused-exactly-for-its-fault limits document-numbers-fit bytes all f).0 e)

pub bytes-refused-by-number : BytesRefusedByNumber
bytes-refused-by-number bytes all k = (given_by bytes all k, λ e. subst (BytesGive bytes) e (gives bytes all _ refl))

-- ════ A record as lists ════

lengths-fit : (n R : ℕ) (lists : Tables) → (fitting n R lists ≡ true) ↔ LengthsFit n R lists
lengths-fit n R lists = (
  λ g. let f = fitting-elim n R lists g in record { losses = f.losses; times = f.times; cells = f.cells; changes = f.changes },
  λ f. fitting-intro n R lists (record { losses = f.losses; times = f.times; cells = f.cells; changes = f.changes }),
)

-- Whatever gives a verdict its number, what comes after the lists stands where they are good.
module _ (num : Verdict → ℕ) (numbered : (f : Refusal) → num (faulty f) ≡ number_of f) (later : ℕ → Type 0) (end : later (num accepted)) where
  edits-in-order : (n R : ℕ) (before : Option Edit) (edits : List Edit) → 0 < n
      → GiveThen (edit_tests n R before edits) later (num (judged_edits limits n R before edits))
  unfolding judged_edits GiveThen
  edits-in-order n R before [] some = end
  edits-in-order n R before (e ∷ edits) some =
      verdict-test num numbered (EditFits n R e) (5 unless Follows before e ∷ edit_tests n R (Some e) edits) later _ OutOfRange _ (edit-fits n R e some) (λ f.
      verdict-test num numbered (Follows before e) (edit_tests n R (Some e) edits) later _ BadOrder (judged_edits limits n R (Some e) edits) (follows-fits before e) (λ g.
      edits-in-order n R (Some e) edits some))

  judged-in-order : (n t R : ℕ) (lists : Tables) → GiveThen (list_tests n t R lists) later (num (judged_lists limits n t R lists))
  unfolding judged_lists
  judged-in-order n t R lists =
      verdict-test num numbered _ _ later _ OutOfRange _ (numbers_fit (header_from n t R lists)) (λ numbers.
      verdict-test num numbered _ _ later _ BadLengths _ (lengths-fit n R lists) (λ lengths.
      verdict-test num numbered _ _ later _ BadLossSet _ (losses-fit n R lists.losses lengths.losses) (λ losses.
      edits-in-order n R None (edits_in lists) (omega (arith, numbers.fewest)))))

pub lists-refused-in-order : ListsRefusedInOrder
unfolding checked_lists judged read_number
lists-refused-in-order n t R lists =
    judged-in-order (λ v. read_number (judged (record_from n t R lists) v)) (λ f. refl) (λ j. j ≡ 0) refl n t R lists

-- ════ Reading into tables ════

tables-long : (t : Tables) → (roomy limits t ≡ true) ↔ TablesLong t
unfolding roomy
tables-long t = (
  λ g.
      let a = and-elim _ _ g in
      let b = and-elim _ _ a.1 in
      let c = and-elim _ _ b.1 in
      let d = and-elim _ _ c.1 in
      record { losses = leb-true 889 _ a.0; seats = leb-true 512 _ b.0; times = leb-true 512 _ c.0; cells = leb-true 512 _ d.0; changes = leb-true 512 _ d.1 },
  λ f.
      and_intro _ _ (le-leb 889 _ f.losses)
      (and_intro _ _ (le-leb 512 _ f.seats) (and_intro _ _ (le-leb 512 _ f.times) (and_intro _ _ (le-leb 512 _ f.cells) (le-leb 512 _ f.changes)))),
)

checked-number : (x : Reading) → answer_number (checked_of x) ≡ read_number x
unfolding answer_number checked_of read_number
checked-number (good r) = refl
checked-number (bad f) = refl

read-test : (bytes : List ℕ) (words : Type 0) (b : Bool) → (b ≡ true) ↔ words → BytesGive bytes (read_number (reading_of bytes))
    → GiveThen (7 unless words ∷ []) (BytesGive bytes) (read_number (cond b (reading_of bytes) (bad NoRoom)))
unfolding GiveThen read_number
read-test bytes words true same own = inl (same.0 refl, own)
read-test bytes words false same own = inr (λ w. true≢false (sym (same.1 w)), refl)

tables-stay : (x : Reading) (before after : Tables) → TablesRead x before after → read_number x ≢ 0 → after ≡ before
unfolding tables_after read_number
tables-stay (good r) before after left some = absurd (some refl)
tables-stay (bad f) before after left some =
    λ i. record { losses = left.losses i; seats = left.seats i; times = left.times i; cells = left.cells i; changes = left.changes i }

pub reading-refused-in-order : ReadingRefusedInOrder
unfolding read_into
reading-refused-in-order bytes before answer after all outcome =
    let number = ap answer_number outcome.answered ∙ checked-number (read_into limits before bytes) in (
      rw number (read-test bytes (TablesLong before) (roomy limits before) (tables-long before) (gives bytes all _ refl)),
      λ some. tables-stay (read_into limits before bytes) before after outcome.left (λ e. some (number ∙ e)),
    )

-- ════ Writing ════

pub written-test : (room : ℕ) (r : Record) → Give (room7 r room ∷ []) (answer_number (written_in (answered limits (good r) room)))
unfolding GiveThen answered written_in answer_number
written-test room r = by (leb (length (bytes_of r)) room) refl
  where
    by : (b : Bool) → leb (length (bytes_of r)) room ≡ b
        → Give (room7 r room ∷ []) (answer_number (written_in (cond b (count (length (bytes_of r))) (unwritten NoRoom))))
    by true e = inl (leb-true _ _ e, refl)
    by false e = inr (λ w. true≢false (sym (le-leb _ _ w) ∙ e), refl)

pub buffer-stays : (x : Reading) (old : List ℕ) (w : Written) → answered limits x (length old) ≡ w → answer_number (written_in w) ≢ 0
    → buffer_with limits x old ≡ old
unfolding written_in answer_number
buffer-stays x old (count k) e some = absurd (some refl)
buffer-stays x old (unwritten f) e some = refused-leaves limits x old f e

pub writing-refused-in-order : WritingRefusedInOrder
unfolding written_to buffer_after checked_lists judged answered written_in answer_number
writing-refused-in-order n t R lists old answer new said left = (
  rw said
      (judged-in-order (λ v. answer_number (written_in (answered limits (judged (record_from n t R lists) v) (length old)))) (λ f. refl) _
      (written-test (length old) (record_from n t R lists)) n t R lists),
  λ some. left ∙ buffer-stays (checked_lists limits n t R lists) old _ refl (λ e. some (ap answer_number said ∙ e)),
)

pub length-refused-in-order : LengthRefusedInOrder
unfolding needed_by checked_lists judged needed written_in answer_number
length-refused-in-order n t R lists =
    judged-in-order (λ v. answer_number (written_in (needed limits (judged (record_from n t R lists) v)))) (λ f. refl) (λ j. j ≡ 0) refl n t R lists
