-- The tests of a good record come apart into their parts, and go together again.
-- Assumes nothing.
use mathlib.Core.Path.{◌≡◌}
use mathlib.Core.Bool.{Bool, true, ◌&&◌}
use Prim.Native.Nat.{ℕ, ◌-◌, ◌*◌, ◌^◌, ◌<◌, ◌≤◌}
use native.Mathlib.Omega.{arith}
use lib.Dec.{leb}
use lib.ListN.{length}
use borrow.Author.Tests.{leb-true, le-leb, ltb-true, eqb-true, eq-eqb}
use Rattle.std.specs.Prelude.{None}
use Rattle.farm.specs.Limits.{Limits}
use Rattle.farm.specs.Sets.{Seats}
use Rattle.farm.specs.declared.places.Seat.{Seat}
use Rattle.farm.proofs.Cases.{and_intro, and-elim}
use Rattle.record.specs.declared.header.Header.{Header}
use Rattle.record.specs.declared.edits.Edit.{Edit}
use Rattle.record.specs.Changes.{mapped}
use Rattle.record.specs.Losses.{first_seat, good_set}
use Rattle.record.specs.Record.{Record}
use Rattle.record.specs.Good.{within, good_header, good_sets, good_rounds, good_edit, good_edits, good_record}

-- ════ Tests joined ════

pub and3-elim : (a b c : Bool) → (a && b && c) ≡ true → (a ≡ true) × (b ≡ true) × (c ≡ true)
and3-elim a b c e =
    let x = and-elim (a && b) c e in
    let y = and-elim a b x.0 in
    (y.0, y.1, x.1)

pub and3-intro : (a b c : Bool) → a ≡ true → b ≡ true → c ≡ true → (a && b && c) ≡ true
and3-intro a b c p q r = rw (p, q, r)

pub and4-elim : (a b c d : Bool) → (a && b && c && d) ≡ true → (a ≡ true) × (b ≡ true) × (c ≡ true) × (d ≡ true)
and4-elim a b c d e =
    let x = and-elim (a && b && c) d e in
    let y = and3-elim a b c x.0 in
    (y.0, y.1, y.2, x.1)

pub and4-intro : (a b c d : Bool) → a ≡ true → b ≡ true → c ≡ true → d ≡ true → (a && b && c && d) ≡ true
and4-intro a b c d p q r s = rw (p, q, r, s)

-- ════ Ranges ════

pub within-elim : (low high v : ℕ) → within low high v ≡ true → (low ≤ v) × (v ≤ high)
within-elim low high v e =
    let x = and-elim (leb low v) (leb v high) e in
    (leb-true low v x.0, leb-true v high x.1)

pub within-intro : (low high v : ℕ) → low ≤ v → v ≤ high → within low high v ≡ true
within-intro low high v l h = and_intro (leb low v) (leb v high) (le-leb low v l) (le-leb v high h)

-- ════ The parts of a good record ════

pub record HeaderFacts (L : Limits) (h : Header) : Type 0 where
  pub fewest : L.fewest_seats ≤ h.seats
  pub most : h.seats ≤ L.most_seats
  pub bound : h.bound ≤ h.seats - 1
  pub rounds : h.rounds ≤ L.most_rounds
  pub edits : h.edits ≤ L.most_edits

pub header-facts : (L : Limits) (h : Header) → good_header L h ≡ true → HeaderFacts L h
unfolding good_header
header-facts L h e =
    let x = and4-elim _ _ _ _ e in
    let n = within-elim L.fewest_seats L.most_seats h.seats x.0 in
    record {
      fewest = n.0;
      most = n.1;
      bound = (within-elim 0 (h.seats - 1) h.bound x.1).1;
      rounds = (within-elim 0 L.most_rounds h.rounds x.2).1;
      edits = (within-elim 0 L.most_edits h.edits x.3).1;
    }

pub header-from-facts : (L : Limits) (h : Header) → HeaderFacts L h → good_header L h ≡ true
unfolding good_header
header-from-facts L h f =
    and4-intro _ _ _ _
    (within-intro L.fewest_seats L.most_seats h.seats f.fewest f.most)
    (within-intro 0 (h.seats - 1) h.bound (omega arith) f.bound)
    (within-intro 0 L.most_rounds h.rounds (omega arith) f.rounds)
    (within-intro 0 L.most_edits h.edits (omega arith) f.edits)

pub set-facts : (n : ℕ) (sender : Seat) (set : Seats) → good_set n sender set ≡ true → set < 2 ^ n
unfolding good_set
set-facts n sender set e = ltb-true set (2 ^ n) (and-elim _ _ e).0

pub record EditFacts (L : Limits) (n R : ℕ) (e : Edit) : Type 0 where
  pub seat : e.seat.0 ≤ n - 1
  pub time : e.time.0 ≤ R
  pub cell : e.cell ≤ L.largest_cell
  pub change : mapped e.change ≤ L.largest_mapped_change

pub edit-facts : (L : Limits) (n R : ℕ) (e : Edit) → good_edit L n R e ≡ true → EditFacts L n R e
unfolding good_edit
edit-facts L n R e g =
    let x = and4-elim _ _ _ _ g in
    record {
      seat = (within-elim 0 (n - 1) e.seat.0 x.0).1;
      time = (within-elim 0 R e.time.0 x.1).1;
      cell = (within-elim 0 L.largest_cell e.cell x.2).1;
      change = (within-elim 0 L.largest_mapped_change (mapped e.change) x.3).1;
    }

pub edit-from-facts : (L : Limits) (n R : ℕ) (e : Edit) → EditFacts L n R e → good_edit L n R e ≡ true
unfolding good_edit
edit-from-facts L n R e f =
    and4-intro _ _ _ _
    (within-intro 0 (n - 1) e.seat.0 (omega arith) f.seat)
    (within-intro 0 R e.time.0 (omega arith) f.time)
    (within-intro 0 L.largest_cell e.cell (omega arith) f.cell)
    (within-intro 0 L.largest_mapped_change (mapped e.change) (omega arith) f.change)

pub record RecordFacts (L : Limits) (r : Record) : Type 0 where
  pub header : good_header L r.header ≡ true
  pub loss_count : length r.losses ≡ r.header.seats * r.header.rounds
  pub losses : good_sets r.header.seats first_seat r.losses ≡ true
  pub edit_count : length r.edits ≡ r.header.edits
  pub edits : good_edits L r.header.seats r.header.rounds None r.edits ≡ true

pub record-facts : (L : Limits) (r : Record) → good_record L r ≡ true → RecordFacts L r
unfolding good_record good_rounds
record-facts L r e =
    let x = and4-elim _ _ _ _ e in
    let y = and-elim _ _ x.1 in
    record {
      header = x.0;
      loss_count = eqb-true (length r.losses) (r.header.seats * r.header.rounds) y.0;
      losses = y.1;
      edit_count = eqb-true (length r.edits) r.header.edits x.2;
      edits = x.3;
    }

pub record-from-facts : (L : Limits) (r : Record) → RecordFacts L r → good_record L r ≡ true
unfolding good_record good_rounds
record-from-facts L r f =
    and4-intro _ _ _ _ f.header
    (and_intro _ _ (eq-eqb (length r.losses) (r.header.seats * r.header.rounds) f.loss_count) f.losses)
    (eq-eqb (length r.edits) r.header.edits f.edit_count) f.edits
