-- A good reading and its parts, as the second pass meets them.
-- Assumes nothing.
use Rattle.std.specs.Prelude.{Ok, Err, None}
use mathlib.Core.Path.{◌≡◌, sym, ◌∙◌, ap, ap₂, subst}
use mathlib.Core.Bool.{true}
use mathlib.Core.List.{List, [], ◌∷◌, ◌++◌}
use Prim.Native.Nat.{ℕ, zero, suc, ◌+◌, ◌-◌, ◌*◌, ◌^◌, ◌≤◌}
use native.Mathlib.Nat.{lt_of_lt_of_le, pow-le-pow_right, suc-mul, zero-mul, zero-add, suc-add, add_comm, mul-le-mul}
use native.Mathlib.Omega.{arith}
use lib.Dec.{leb, lit<}
use lib.ListN.{length, drop}
use borrow.Author.Tests.{leb-true, le-leb}
use Rattle.farm.specs.Limits.{Limits, limits}
use Rattle.farm.specs.Sets.{Seats}
use Rattle.farm.specs.declared.places.Seat.{Seat}
use Rattle.farm.specs.declared.refusals.Refusal.{Refusal}
use Rattle.farm.proofs.Cases.{and-elim}
use Rattle.numbers.specs.declared.read.Cursor.{Cursor}
use Rattle.record.specs.declared.header.Header.{Header}
use Rattle.record.specs.declared.edits.Edit.{Edit}
use Rattle.record.specs.Taking.{Taken, value, refused, ◌>>=◌}
use Rattle.record.specs.Numbers.{take_number}
use Rattle.record.specs.Header.{take_header}
use Rattle.record.specs.Losses.{first_seat, seat_after, take_set, take_round, take_rounds}
use Rattle.record.specs.Edits.{take_edits}
use Rattle.record.specs.Record.{Record, Reading, good, bad, take_record, whole, reading_of}
use Rattle.filling.specs.Filling.{Gives, given, take_numbers, AllBelow, EditsFilled}
use Rattle.record.specs.Tables.{Tables, over, seats_of, times_of, cells_of, changes_of, roomy, tables_after, TablesRead, Accepted}
use Rattle.numbers.specs.Cursors.{cursor_at, passed_in}
use Rattle.numbers.proofs.CursorLaws.{passed-was-refused}
use Rattle.record.specs.Answers.{checked_of}
use Rattle.record.proofs.TakingLaws.{bind-value, value-not-refused, Tail, tail-drop}
use Rattle.record.proofs.GoodLaws.{set-facts}
use Rattle.record.proofs.LossLaws.{set-took, rounds-tail}
use Rattle.checking.proofs.RecordLaws.{from, from_is, Head}

-- ════ A good reading comes apart ════

module _ (L : Limits) where
  pub record Parts (bytes : List ℕ) (r : Record) : Type 0 where
    pub after-header : List ℕ
    pub after-losses : List ℕ
    pub header : take_header L bytes ≡ value r.header after-header
    pub losses : take_rounds L r.header.seats r.header.rounds after-header ≡ value r.losses after-losses
    pub edits : take_edits L r.header.seats r.header.rounds r.header.edits None after-losses ≡ value r.edits []

  whole-good : (t : Taken Record) (r : Record) → whole t ≡ good r → t ≡ value r []
  unfolding whole
  whole-good (value w []) r e = let same : w ≡ r = cc in ap (λ (x : Record). value x []) same
  whole-good (value w (b ∷ rest)) r e = let z : ◌≡◌ {A = ℕ} 0 1 = cc in absurd (omega arith)
  whole-good (refused s) r e = let z : ◌≡◌ {A = ℕ} 0 1 = cc in absurd (omega arith)

  pub good-parts : (bytes : List ℕ) (r : Record) → reading_of L bytes ≡ good r → Parts bytes r
  unfolding reading_of take_record
  good-parts bytes r e =
      let x = bind-value (take_header L bytes) _ r [] (whole-good _ r e) in
      let y = bind-value (take_rounds L x.0.seats x.0.rounds x.1) _ r [] x.3 in
      let z = bind-value (take_edits L x.0.seats x.0.rounds x.0.edits None y.1) _ r [] y.3 in
      let made : record { header = x.0; losses = y.0; edits = z.0 } ≡ r = cc in
      let ends : z.1 ≡ [] = cc in
      subst (λ (w : Record). Parts bytes w) made
      (record { after-header = x.1; after-losses = y.1; header = x.2; losses = y.2; edits = z.2 ∙ ap (value z.0) ends })

-- ════ Rounds are numbers, one after the other ════

numbers-join : (L : Limits) (k m : ℕ) (bytes : List ℕ) (xs : List ℕ) (mid : List ℕ) (ys : List ℕ) (end : List ℕ)
    → take_numbers L k bytes ≡ value xs mid → take_numbers L m mid ≡ value ys end → take_numbers L (k + m) bytes ≡ value (xs ++ ys) end
unfolding take_numbers ◌>>=◌
numbers-join L zero m bytes xs mid ys end e f =
    let start : bytes ≡ mid = cc in
    let none : [] ≡ xs = cc in
    rw zero-add (ap (take_numbers L m) start ∙ f ∙ ap (λ (l : List ℕ). value (l ++ ys) end) none)
numbers-join L (suc k) m bytes xs mid ys end e f =
    let x = bind-value (take_number L bytes) _ xs mid e in
    let y = bind-value (take_numbers L k x.1) _ xs mid x.3 in
    let front : x.0 ∷ y.0 ≡ xs = cc in
    let meets : y.1 ≡ mid = cc in
    rw (suc-add, x.2, numbers-join L k m x.1 y.0 mid ys end (y.2 ∙ ap (value y.0) meets) f)
    (ap (λ (l : List ℕ). value (l ++ ys) end) front)

all-below-join : (bound : ℕ) (xs ys : List ℕ) → AllBelow bound xs → AllBelow bound ys → AllBelow bound (xs ++ ys)
unfolding AllBelow
all-below-join bound [] ys a b = b
all-below-join bound (x ∷ xs) ys a b = (a.0, all-below-join bound xs ys a.1 b)

all-below-more : (low high : ℕ) (xs : List ℕ) → low ≤ high → AllBelow low xs → AllBelow high xs
unfolding AllBelow
all-below-more low high [] h a = tt
all-below-more low high (x ∷ xs) h a = (lt_of_lt_of_le a.0 h, all-below-more low high xs h a.1)

module _ (L : Limits) where
  round-numbers : (n : ℕ) (sender : Seat) (left : ℕ) (bytes : List ℕ) (sets : List Seats) (rest : List ℕ) → take_round L n sender left bytes ≡ value sets rest
      → (take_numbers L left bytes ≡ value sets rest) × AllBelow (2 ^ n) sets
  unfolding take_round take_numbers ◌>>=◌ AllBelow
  round-numbers n sender zero bytes sets rest e =
      let none : [] ≡ sets = cc in
      (e, subst (λ (l : List ℕ). AllBelow (2 ^ n) l) none tt)
  round-numbers n sender (suc left) bytes sets rest e =
      let x = bind-value (take_set L n sender bytes) _ sets rest e in
      let y = bind-value (take_round L n (seat_after sender) left x.1) _ sets rest x.3 in
      let was = set-took L n sender bytes x.0 x.1 x.2 in
      let later = round-numbers n (seat_after sender) left x.1 y.0 y.1 y.2 in
      let front : x.0 ∷ y.0 ≡ sets = cc in (
        rw (was.0, later.0) y.3,
        subst (λ (l : List ℕ). AllBelow (2 ^ n) l) front (set-facts n sender x.0 was.1, later.1),
      )

  pub rounds-numbers : (n rounds : ℕ) (bytes : List ℕ) (sets : List Seats) (rest : List ℕ) → take_rounds L n rounds bytes ≡ value sets rest
      → (take_numbers L (rounds * n) bytes ≡ value sets rest) × AllBelow (2 ^ n) sets
  unfolding take_rounds take_numbers AllBelow
  rounds-numbers n zero bytes sets rest e =
      let none : [] ≡ sets = cc in
      (rw zero-mul e, subst (λ (l : List ℕ). AllBelow (2 ^ n) l) none tt)
  rounds-numbers n (suc rounds) bytes sets rest e =
      let x = bind-value (take_round L n first_seat n bytes) _ sets rest e in
      let y = bind-value (take_rounds L n rounds x.1) _ sets rest x.3 in
      let first = round-numbers n first_seat n bytes x.0 x.1 x.2 in
      let later = rounds-numbers n rounds x.1 y.0 y.1 y.2 in
      let front : x.0 ++ y.0 ≡ sets = cc in
      let ends : y.1 ≡ rest = cc in
      let count : n + rounds * n ≡ suc rounds * n = add_comm n (rounds * n) ∙ sym (suc-mul rounds n) in (
        ap (λ (k : ℕ). take_numbers L k bytes) (sym count)
            ∙ numbers-join L n (rounds * n) bytes x.0 x.1 y.0 y.1 first.0 later.0
            ∙ ap₂ (λ (l m : List ℕ). value l m) front ends,
        subst (λ (l : List ℕ). AllBelow (2 ^ n) l) front (all-below-join (2 ^ n) x.0 y.0 first.1 later.1),
      )

-- ════ What the second pass meets ════

pub record Ready (bytes : List ℕ) (h : Header) (at : ℕ) (r : Record) : Type 0 where
  pub after-losses : List ℕ
  pub numbers : take_numbers limits (h.rounds * h.seats) (from at bytes) ≡ value r.losses after-losses
  pub tail : Tail after-losses (from at bytes)
  pub small : AllBelow 65536 r.losses
  pub edits : take_edits limits h.seats h.rounds h.edits None after-losses ≡ value r.edits []
  pub count : h.rounds * h.seats ≤ 889

pub ready : (bytes : List ℕ) (h : Header) (at : ℕ) (a : Accepted (reading_of limits bytes)) → Head bytes h at → Ready bytes h at a.what
ready bytes h at a head =
    let p = good-parts limits bytes a.what a.is in
    let met : value h (from at bytes) ≡ value a.what.header p.after-header = sym head.took ∙ p.header in
    let same : a.what.header ≡ h = cc in
    let after : p.after-header ≡ from at bytes = cc in
    by p.after-losses
    (ap₂ (λ (g : Header) (l : List ℕ). take_rounds limits g.seats g.rounds l) (sym same) (sym after) ∙ p.losses)
    (ap (λ (g : Header). take_edits limits g.seats g.rounds g.edits None p.after-losses) (sym same) ∙ p.edits)
  where
    by : (rest : List ℕ) → take_rounds limits h.seats h.rounds (from at bytes) ≡ value a.what.losses rest
        → take_edits limits h.seats h.rounds h.edits None rest ≡ value a.what.edits []
        → Ready bytes h at a.what
    by rest e f =
        let numbers = rounds-numbers limits h.seats h.rounds (from at bytes) a.what.losses rest e in
        let few : h.seats ≤ 16 = omega (arith, head.few) in
        record {
          after-losses = rest;
          numbers = numbers.0;
          tail = rounds-tail limits h.seats h.rounds (from at bytes) a.what.losses rest e;
          small = all-below-more (2 ^ h.seats) 65536 a.what.losses (pow-le-pow_right {n = 2} (lit< tt) few) numbers.1;
          edits = f;
          count = mul-le-mul head.rounds head.few;
        }

-- Where the edits begin, once the loss sets are in their table.
pub record EditsReady (bytes : List ℕ) (h : Header) (at next : ℕ) (r : Record) : Type 0 where
  pub inside : next ≤ length (from at bytes)
  pub edits : take_edits limits h.seats h.rounds h.edits None (from next (from at bytes)) ≡ value r.edits []

pub edits-ready : (bytes : List ℕ) (h : Header) (at : ℕ) (next : Cursor) (r : Record) → Ready bytes h at r
    → Ok next ≡ passed_in (from at bytes) (take_numbers limits (h.rounds * h.seats) (from at bytes)) → EditsReady bytes h at next.at r
unfolding passed_in
edits-ready bytes h at next r w e =
    let place : Ok next ≡ Ok (cursor_at (from at bytes) w.after-losses) = e ∙ ap (passed_in (from at bytes)) w.numbers in
    let where_next : next ≡ cursor_at (from at bytes) w.after-losses = cc in
    let at_next : next.at ≡ length (from at bytes) - length w.after-losses = ap (λ (c : Cursor). c.at) where_next in
    record {
      inside = omega arith;
      edits =
          ap (λ (l : List ℕ). take_edits limits h.seats h.rounds h.edits None l)
          (from_is next.at (from at bytes) ∙ ap (λ (k : ℕ). drop k (from at bytes)) at_next ∙ tail-drop w.tail)
          ∙ w.edits;
    }

-- A part that gives a value is not refused.
pub part-not-refused : {A : Type 0} (bytes : List ℕ) (t : Taken A) (a : A) (rest : List ℕ) (x : Refusal) → t ≡ value a rest
    → Err x ≡ passed_in bytes t → ⊥
part-not-refused bytes t a rest x e p = value-not-refused a rest x (sym e ∙ passed-was-refused bytes t x (sym p))

-- The answer of a good reading has the header that was read.
pub good-answer : (bytes : List ℕ) (h : Header) (at : ℕ) (a : Accepted (reading_of limits bytes)) → Head bytes h at
    → Ok h ≡ checked_of (reading_of limits bytes)
unfolding checked_of
good-answer bytes h at a head =
    let p = good-parts limits bytes a.what a.is in
    let met : value h (from at bytes) ≡ value a.what.header p.after-header = sym head.took ∙ p.header in
    let same : h ≡ a.what.header = cc in
    rw a.is (ap Ok same)

-- ════ Room ════

pub record Room (t : Tables) : Type 0 where
  pub losses : 889 ≤ length t.losses
  pub seats : 512 ≤ length t.seats
  pub times : 512 ≤ length t.times
  pub cells : 512 ≤ length t.cells
  pub changes : 512 ≤ length t.changes

pub room : (t : Tables) → roomy limits t ≡ true → Room t
unfolding roomy
room t e =
    let a = and-elim (leb 889 (length t.losses)) _ e in
    let b = and-elim (leb 512 (length t.seats)) _ a.1 in
    let c = and-elim (leb 512 (length t.times)) _ b.1 in
    let d = and-elim (leb 512 (length t.cells)) (leb 512 (length t.changes)) c.1 in
    record {
      losses = leb-true _ _ a.0;
      seats = leb-true _ _ b.0;
      times = leb-true _ _ c.0;
      cells = leb-true _ _ d.0;
      changes = leb-true _ _ d.1;
    }

pub enough : (t : Tables) → Room t → roomy limits t ≡ true
unfolding roomy
enough t w =
    rw (
      le-leb 889 (length t.losses) w.losses,
      le-leb 512 (length t.seats) w.seats,
      le-leb 512 (length t.times) w.times,
      le-leb 512 (length t.cells) w.cells,
      le-leb 512 (length t.changes) w.changes,
    )

-- ════ The tables afterwards ════

-- A good record's lists over the lists at the call.
pub tables-filled : (reading : Reading) (r : Record) (before after : Tables) → reading ≡ good r
    → (sets : Taken (List ℕ)) (after-sets : List ℕ) → sets ≡ value r.losses after-sets
    → (edits : Taken (List Edit)) (after-edits : List ℕ) → edits ≡ value r.edits after-edits
    → after.losses ≡ over 0 (given sets) before.losses → EditsFilled (given edits) before after → TablesRead reading before after
unfolding tables_after given
tables-filled reading r before after e sets after-sets took-sets edits after-edits took-edits losses filled =
    record {
      losses = rw e (losses ∙ ap (λ (l : Taken (List ℕ)). over 0 (given l) before.losses) took-sets);
      seats = rw e (filled.seats ∙ ap (λ (l : Taken (List Edit)). over 0 (seats_of (given l)) before.seats) took-edits);
      times = rw e (filled.times ∙ ap (λ (l : Taken (List Edit)). over 0 (times_of (given l)) before.times) took-edits);
      cells = rw e (filled.cells ∙ ap (λ (l : Taken (List Edit)). over 0 (cells_of (given l)) before.cells) took-edits);
      changes = rw e (filled.changes ∙ ap (λ (l : Taken (List Edit)). over 0 (changes_of (given l)) before.changes) took-edits);
    }

-- A refusal leaves them.
pub tables-kept : (reading : Reading) (r : Refusal) (t : Tables) → reading ≡ bad r → TablesRead reading t t
unfolding tables_after
tables-kept reading r t e = record { losses = rw e; seats = rw e; times = rw e; cells = rw e; changes = rw e }

-- What the fill of the loss sets asks for.
pub sets-ready : (bytes : List ℕ) (h : Header) (at : ℕ) (r : Record) → Ready bytes h at r
    → Gives (take_numbers limits (h.rounds * h.seats) (from at bytes))
    × AllBelow 65536 (given (take_numbers limits (h.rounds * h.seats) (from at bytes)))
unfolding given
sets-ready bytes h at r w = (record { what = r.losses; rest = w.after-losses; took = w.numbers }, rw w.numbers w.small)
