-- Lists that are accepted for writing are a good record, and a good record's own lists are accepted.
-- Assumes nothing.
use mathlib.Core.Path.{◌≡◌, refl, sym, ◌∙◌, ap}
use mathlib.Core.Bool.{Bool, true, false, cond}
use mathlib.Core.List.{List, [], ◌∷◌}
use Prim.Native.Nat.{ℕ, ◌*◌, ◌≤◌}
use native.Mathlib.Omega.{arith}
use lib.Dec.{leb}
use lib.ListN.{length, take, drop}
use borrow.Author.Tests.{eqb-true, eq-eqb, leb-true}
use Rattle.std.specs.Prelude.{Option, None, Some}
use Rattle.farm.specs.Limits.{Limits}
use Rattle.farm.specs.declared.refusals.Refusal.{Refusal}
use Rattle.farm.specs.declared.refusals.Refusal.TheVariants.{OutOfRange, BadLossSet, BadOrder, NoRoom, BadLengths}
use Rattle.record.specs.declared.edits.Edit.{Edit}
use Rattle.record.specs.Edits.{follows}
use Rattle.record.specs.Record.{Record, Reading, good, bad, bytes_of}
use Rattle.record.specs.Good.{good_edit, good_edits, good_record}
use Rattle.record.specs.Tables.{Tables, seats_of, over}
use Rattle.record.specs.Columns.{tables_of}
use Rattle.record.specs.Writing.{Verdict, accepted, faulty, unless, judged_edits, header_from, fitting, judged_lists, record_from, judged, checked_lists, count, unwritten, answered, buffer_with}
use Rattle.record.proofs.GoodLaws.{and3-elim, and3-intro, and4-elim, and4-intro, record-facts, record-from-facts}
use Rattle.record.proofs.TableLaws.{length_over}
use Rattle.record.proofs.ColumnLaws.{take-over, drop-over, edits-from-columns, length-seats, length-times, length-cells, length-changes, columns-from-edits}

-- ════ Verdicts ════

pub accepted-not-faulty : (r : Refusal) → faulty r ≡ accepted → ⊥
accepted-not-faulty r e = let z : ◌≡◌ {A = ℕ} 0 1 = cc in omega arith

pub unless-accepted : (t : Bool) (r : Refusal) (later : Verdict) → unless t r later ≡ accepted → (t ≡ true) × (later ≡ accepted)
unfolding unless
unless-accepted true r later e = (refl, e)
unless-accepted false r later e = absurd (accepted-not-faulty r e)

pub judged-good : (x : Record) (v : Verdict) (r : Record) → judged x v ≡ good r → (v ≡ accepted) × (x ≡ r)
unfolding judged
judged-good x accepted r e = (refl, (cc))
judged-good x (faulty f) r e = cc

-- ════ Edits ════

pub edits-accepted : (L : Limits) (n R : ℕ) (before : Option Edit) (edits : List Edit) → judged_edits L n R before edits ≡ accepted
    → good_edits L n R before edits ≡ true
unfolding judged_edits good_edits
edits-accepted L n R before [] e = refl
edits-accepted L n R before (edit ∷ edits) e =
    let x = unless-accepted _ OutOfRange _ e in
    let y = unless-accepted _ BadOrder _ x.1 in
    and3-intro _ _ _ x.0 y.0 (edits-accepted L n R (Some edit) edits y.1)

pub good-edits-accepted : (L : Limits) (n R : ℕ) (before : Option Edit) (edits : List Edit) → good_edits L n R before edits ≡ true
    → judged_edits L n R before edits ≡ accepted
unfolding judged_edits good_edits unless
good-edits-accepted L n R before [] g = refl
good-edits-accepted L n R before (edit ∷ edits) g =
    let x = and3-elim (good_edit L n R edit) (follows before edit) (good_edits L n R (Some edit) edits) g in
    rw (x.0, x.1) (good-edits-accepted L n R (Some edit) edits x.2)

-- ════ Lists ════

pub record Fitting (n R : ℕ) (lists : Tables) : Type 0 where
  pub losses : length lists.losses ≡ n * R
  pub times : length lists.times ≡ length lists.seats
  pub cells : length lists.cells ≡ length lists.seats
  pub changes : length lists.changes ≡ length lists.seats

pub fitting-elim : (n R : ℕ) (lists : Tables) → fitting n R lists ≡ true → Fitting n R lists
unfolding fitting
fitting-elim n R lists e =
    let x = and4-elim _ _ _ _ e in
    record {
      losses = eqb-true (length lists.losses) (n * R) x.0;
      times = eqb-true (length lists.times) (length lists.seats) x.1;
      cells = eqb-true (length lists.cells) (length lists.seats) x.2;
      changes = eqb-true (length lists.changes) (length lists.seats) x.3;
    }

pub fitting-intro : (n R : ℕ) (lists : Tables) → Fitting n R lists → fitting n R lists ≡ true
unfolding fitting
fitting-intro n R lists f =
    and4-intro _ _ _ _
    (eq-eqb (length lists.losses) (n * R) f.losses)
    (eq-eqb (length lists.times) (length lists.seats) f.times)
    (eq-eqb (length lists.cells) (length lists.seats) f.cells)
    (eq-eqb (length lists.changes) (length lists.seats) f.changes)

-- What acceptance means: the record is the lists', it is good, and its tables are those lists.
pub record Accepted (L : Limits) (n t R : ℕ) (lists : Tables) (r : Record) : Type 0 where
  pub sound : good_record L r ≡ true
  pub header : r.header ≡ header_from n t R lists
  pub tables : tables_of r ≡ lists

pub lists-accepted : (L : Limits) (n t R : ℕ) (lists : Tables) (r : Record) → checked_lists L n t R lists ≡ good r → Accepted L n t R lists r
unfolding checked_lists judged_lists record_from tables_of
lists-accepted L n t R lists r e =
    let v = judged-good _ _ r e in
    let h = unless-accepted _ OutOfRange _ v.0 in
    let w = unless-accepted _ BadLengths _ h.1 in
    let s = unless-accepted _ BadLossSet _ w.1 in
    let f = fitting-elim n R lists w.0 in
    let c = columns-from-edits lists.seats lists.times lists.cells lists.changes f.times f.cells f.changes in
    rw (← v.1)
    (record {
      sound = record-from-facts L _
          (record {
            header = h.0;
            loss_count = f.losses;
            losses = s.0;
            edit_count = c.count;
            edits = edits-accepted L n R None _ s.1;
          });
      header = refl;
      tables = λ i. record {
        losses = lists.losses;
        seats = c.seats-same i;
        times = c.times-same i;
        cells = c.cells_same i;
        changes = c.changes-same i;
      };
    })

pub good-lists-accepted : (L : Limits) (r : Record) → good_record L r ≡ true
    → checked_lists L r.header.seats r.header.bound r.header.rounds (tables_of r) ≡ good r
unfolding checked_lists judged_lists record_from tables_of unless judged
good-lists-accepted L r g =
    let f = record-facts L r g in
    let count : length (seats_of r.edits) ≡ r.header.edits = length-seats r.edits ∙ f.edit_count in
    let fits = fitting-intro r.header.seats r.header.rounds (tables_of r)
    (record {
      losses = f.loss_count;
      times = length-times r.edits ∙ sym (length-seats r.edits);
      cells = length-cells r.edits ∙ sym (length-seats r.edits);
      changes = length-changes r.edits ∙ sym (length-seats r.edits);
    }) in
    rw (
      edits-from-columns r.edits,
      count,
      f.header,
      fits,
      f.losses,
      good-edits-accepted L r.header.seats r.header.rounds None r.edits f.edits,
    )

-- ════ The buffer ════

pub refused-leaves : (L : Limits) (x : Reading) (old : List ℕ) (f : Refusal) → answered L x (length old) ≡ unwritten f → buffer_with L x old ≡ old
unfolding answered buffer_with
refused-leaves L (good r) old f e = by (leb (length (bytes_of L r)) (length old)) _ e
  where
    by : (t : Bool) (new : List ℕ) → cond t (count (length (bytes_of L r))) (unwritten NoRoom) ≡ unwritten f → cond t new old ≡ old
    by true new g = cc
    by false new g = refl
refused-leaves L (bad g) old f e = refl

-- What was counted stands in front, and is the record's bytes.
pub record Counted (L : Limits) (x : Reading) (old : List ℕ) (k : ℕ) : Type 0 where
  pub written : Record
  pub sound : x ≡ good written
  pub long : k ≡ length (bytes_of L written)
  pub fits : length (bytes_of L written) ≤ length old
  pub buffer : buffer_with L x old ≡ over 0 (bytes_of L written) old

pub counted : (L : Limits) (x : Reading) (old : List ℕ) (k : ℕ) → answered L x (length old) ≡ count k → Counted L x old k
unfolding answered buffer_with
counted L (good r) old k e = by (leb (length (bytes_of L r)) (length old)) refl e
  where
    by : (t : Bool) → leb (length (bytes_of L r)) (length old) ≡ t
        → cond t (count (length (bytes_of L r))) (unwritten NoRoom) ≡ count k → Counted L (good r) old k
    by true fits f = record { written = r; sound = refl; long = (cc); fits = leb-true (length (bytes_of L r)) (length old) fits; buffer = rw fits }
    by false fits f = cc
counted L (bad f) old k e = cc

pub take_counted : (L : Limits) (x : Reading) (old : List ℕ) (k : ℕ) (c : Counted L x old k) → take k (buffer_with L x old) ≡ bytes_of L c.written
take_counted L x old k c = ap (take k) c.buffer ∙ take-over (bytes_of L c.written) old k (sym c.long)

rest-of-counted : (L : Limits) (x : Reading) (old : List ℕ) (k : ℕ) → Counted L x old k
    → (length (buffer_with L x old) ≡ length old) × (drop k (buffer_with L x old) ≡ drop k old)
rest-of-counted L x old k c =
    let room = c.fits in (
      ap length c.buffer ∙ length_over 0 (bytes_of L c.written) old (omega arith),
      ap (drop k) c.buffer ∙ drop-over (bytes_of L c.written) old k (sym c.long),
    )

pub rest-kept : (L : Limits) (x : Reading) (old : List ℕ) (k : ℕ) → answered L x (length old) ≡ count k
    → (length (buffer_with L x old) ≡ length old) × (drop k (buffer_with L x old) ≡ drop k old)
rest-kept L x old k e = rest-of-counted L x old k (counted L x old k e)
