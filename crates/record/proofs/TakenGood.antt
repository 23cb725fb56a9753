-- Whatever is taken from a list of numbers is good, be they bytes or not.
-- Assumes nothing.
use mathlib.Core.Path.{◌≡◌, refl, sym, ◌∙◌, ap}
use mathlib.Core.Bool.{true}
use mathlib.Core.List.{List, [], ◌∷◌, ◌++◌}
use Prim.Native.Nat.{ℕ, zero, suc, ◌-◌, ◌*◌}
use lib.ListN.{length}
use Rattle.std.specs.Prelude.{Option, None, Some}
use Rattle.farm.specs.Limits.{Limits}
use Rattle.farm.specs.Sets.{Seats}
use Rattle.farm.specs.declared.places.Seat.{Seat}
use Rattle.farm.specs.declared.refusals.Refusal.TheVariants.{BadLossSet, BadOrder}
use Rattle.farm.proofs.Cases.{and_intro}
use Rattle.record.specs.declared.header.Header.{Header}
use Rattle.record.specs.declared.edits.Edit.{Edit}
use Rattle.record.specs.Taking.{Taken, value, refused, when}
use Rattle.record.specs.Numbers.{take_number, take_within}
use Rattle.record.specs.Changes.{unmapped}
use Rattle.record.specs.Header.{take_header}
use Rattle.record.specs.Losses.{first_seat, good_set, take_set, take_rounds}
use Rattle.record.specs.Edits.{follows, take_edit, take_edits}
use Rattle.record.specs.Record.{Record, good, take_record, whole, reading_of}
use Rattle.record.specs.Good.{good_header, sender_after, good_sets, good_edit, good_edits, good_record}
use Rattle.record.specs.Tables.{edit_of}
use Rattle.record.proofs.TakingLaws.{value-not-refused, bind-value, when-value}
use Rattle.record.proofs.NumberLaws.{within-value}
use Rattle.record.proofs.HeaderLaws.{header-took}
use Rattle.record.proofs.ChangeLaws.{mapped-unmapped}
use Rattle.record.proofs.FlatLosses.{joined, take_sets, rounds-are-flat}
use Rattle.record.proofs.GoodLaws.{and3-intro, header-from-facts, edit-from-facts, record-from-facts}

pub joined-value : {A : Type 0} (front l : List A) (t : Taken (List A)) (end : List ℕ) → joined front t ≡ value l end
    → (more : List A) × (t ≡ value more end) × (front ++ more ≡ l)
unfolding joined
joined-value front l (value more rest) end e =
    let same : front ++ more ≡ l = cc in
    let ends : rest ≡ end = cc in
    (more, ap (λ (b : List ℕ). value more b) ends, same)
joined-value front l (refused r) end e = absurd (value-not-refused l end r (sym e))

module _ (L : Limits) where
  pub header-taken : (bytes : List ℕ) (x : Header) (rest : List ℕ) → take_header L bytes ≡ value x rest → good_header L x ≡ true
  header-taken bytes x rest e =
      let w = header-took L bytes x rest e in
      let n = within-value L _ _ _ _ _ w.n in
      let t = within-value L _ _ _ _ _ w.t in
      let R = within-value L _ _ _ _ _ w.R in
      let E = within-value L _ _ _ _ _ w.E in
      header-from-facts L x (record { fewest = n.1; most = n.2; bound = t.2; rounds = R.2; edits = E.2 })

  -- ════ Losses ════

  pub set-taken : (n : ℕ) (sender : Seat) (bytes : List ℕ) (set : Seats) (rest : List ℕ) → take_set L n sender bytes ≡ value set rest
      → (take_number L bytes ≡ value set rest) × (good_set n sender set ≡ true)
  unfolding take_set
  set-taken n sender bytes set rest e =
      let x = bind-value (take_number L bytes) _ set rest e in
      let y = when-value (good_set n sender x.0) BadLossSet _ set rest x.3 in
      let same : x.0 ≡ set = cc in
      let sound = y.0 in
      (x.2 ∙ y.1, rw same at sound)

  pub sets-taken : (n : ℕ) (sender : Seat) (left : ℕ) (bytes : List ℕ) (sets : List Seats) (rest : List ℕ) → take_sets L n sender left bytes ≡ value sets rest
      → (length sets ≡ left) × (good_sets n sender sets ≡ true)
  unfolding take_sets good_sets
  sets-taken n sender zero bytes sets rest e = let none : [] ≡ sets = cc in rw (← none) (refl, refl)
  sets-taken n sender (suc left) bytes sets rest e =
      let x = bind-value (take_set L n sender bytes) _ sets rest e in
      let y = joined-value (x.0 ∷ []) sets (take_sets L n (sender_after n sender) left x.1) rest x.3 in
      let later = sets-taken n (sender_after n sender) left x.1 y.0 rest y.1 in
      let all = y.2 in
      rw (← all) (ap suc later.0, and_intro _ _ (set-taken n sender bytes x.0 x.1 x.2).1 later.1)

  pub rounds-taken : (n R : ℕ) (bytes : List ℕ) (losses : List Seats) (rest : List ℕ) → take_rounds L n R bytes ≡ value losses rest
      → (length losses ≡ n * R) × (good_sets n first_seat losses ≡ true)
  rounds-taken n R bytes losses rest e = sets-taken n first_seat (n * R) bytes losses rest (sym (rounds-are-flat L n R bytes) ∙ e)

  -- ════ Edits ════

  -- The four numbers of an edit, one after the other.
  pub record EditTook (n R : ℕ) (bytes : List ℕ) (edit : Edit) (rest : List ℕ) : Type 0 where
    pub seat : ℕ
    pub time : ℕ
    pub cell : ℕ
    pub change : ℕ
    pub after-seat : List ℕ
    pub after-time : List ℕ
    pub after-cell : List ℕ
    pub took-seat : take_within L 0 (n - 1) bytes ≡ value seat after-seat
    pub took-time : take_within L 0 R after-seat ≡ value time after-time
    pub took-cell : take_within L 0 L.largest_cell after-time ≡ value cell after-cell
    pub took-change : take_within L 0 L.largest_mapped_change after-cell ≡ value change rest
    pub made : edit_of seat time cell (unmapped change) ≡ edit

  pub edit-took : (n R : ℕ) (bytes : List ℕ) (edit : Edit) (rest : List ℕ) → take_edit L n R bytes ≡ value edit rest → EditTook n R bytes edit rest
  unfolding take_edit
  edit-took n R bytes edit rest e =
      let s = bind-value (take_within L 0 (n - 1) bytes) _ edit rest e in
      let t = bind-value (take_within L 0 R s.1) _ edit rest s.3 in
      let c = bind-value (take_within L 0 L.largest_cell t.1) _ edit rest t.3 in
      let d = bind-value (take_within L 0 L.largest_mapped_change c.1) _ edit rest c.3 in
      let made : edit_of s.0 t.0 c.0 (unmapped d.0) ≡ edit = cc in
      let ends : d.1 ≡ rest = cc in
      record {
        seat = s.0;
        time = t.0;
        cell = c.0;
        change = d.0;
        after-seat = s.1;
        after-time = t.1;
        after-cell = c.1;
        took-seat = s.2;
        took-time = t.2;
        took-cell = c.2;
        took-change = d.2 ∙ ap (λ (l : List ℕ). value d.0 l) ends;
        made = made;
      }

  pub edit-taken : (n R : ℕ) (bytes : List ℕ) (edit : Edit) (rest : List ℕ) → take_edit L n R bytes ≡ value edit rest → good_edit L n R edit ≡ true
  edit-taken n R bytes edit rest e =
      let w = edit-took n R bytes edit rest e in
      let s = within-value L _ _ _ _ _ w.took-seat in
      let t = within-value L _ _ _ _ _ w.took-time in
      let c = within-value L _ _ _ _ _ w.took-cell in
      let d = within-value L _ _ _ _ _ w.took-change in
      let number = mapped-unmapped w.change in
      rw (← w.made) (edit-from-facts L n R _ (record { seat = s.2; time = t.2; cell = c.2; change = rw number d.2 }))

  pub edits-taken : (n R left : ℕ) (before : Option Edit) (bytes : List ℕ) (edits : List Edit) (rest : List ℕ)
      → take_edits L n R left before bytes ≡ value edits rest → (length edits ≡ left) × (good_edits L n R before edits ≡ true)
  unfolding take_edits good_edits
  edits-taken n R zero before bytes edits rest e = let none : [] ≡ edits = cc in rw (← none) (refl, refl)
  edits-taken n R (suc left) before bytes edits rest e =
      let x = bind-value (take_edit L n R bytes) _ edits rest e in
      let y = bind-value (when (follows before x.0) BadOrder (take_edits L n R left (Some x.0) x.1)) _ edits rest x.3 in
      let z = when-value (follows before x.0) BadOrder (take_edits L n R left (Some x.0) x.1) y.0 y.1 y.2 in
      let later = edits-taken n R left (Some x.0) x.1 y.0 y.1 z.1 in
      let all : x.0 ∷ y.0 ≡ edits = cc in
      rw (← all) (ap suc later.0, and3-intro _ _ _ (edit-taken n R bytes x.0 x.1 x.2) z.0 later.1)

  -- ════ The record ════

  pub record-taken : (bytes : List ℕ) (r : Record) (rest : List ℕ) → take_record L bytes ≡ value r rest → good_record L r ≡ true
  unfolding take_record
  record-taken bytes r rest e =
      let x = bind-value (take_header L bytes) _ r rest e in
      let y = bind-value (take_rounds L x.0.seats x.0.rounds x.1) _ r rest x.3 in
      let z = bind-value (take_edits L x.0.seats x.0.rounds x.0.edits None y.1) _ r rest y.3 in
      by x.0 x.1 y.0 y.1 z.0 z.1 x.2 y.2 z.2 z.3
    where
      by : (header : Header) (a : List ℕ) (losses : List Seats) (b : List ℕ) (edits : List Edit) (c : List ℕ)
          → take_header L bytes ≡ value header a
          → take_rounds L header.seats header.rounds a ≡ value losses b
          → take_edits L header.seats header.rounds header.edits None b ≡ value edits c
          → value (record { header = header; losses = losses; edits = edits }) c ≡ value r rest → good_record L r ≡ true
      by header a losses b edits c p q s same =
          let S = rounds-taken header.seats header.rounds a losses b q in
          let E = edits-taken header.seats header.rounds header.edits None b edits c s in
          let all : record { header = header; losses = losses; edits = edits } ≡ r = cc in
          rw (← all)
          (record-from-facts L _
          (record {
            header = header-taken bytes header a p;
            loss_count = S.0;
            losses = S.1;
            edit_count = E.0;
            edits = E.1;
          }))

  pub whole-good : (t : Taken Record) (r : Record) → whole t ≡ good r → t ≡ value r []
  unfolding whole
  whole-good (value x []) r e = ap (λ (y : Record). value y []) (cc)
  whole-good (value x (b ∷ rest)) r e = cc
  whole-good (refused f) r e = cc

  pub reading-taken : (bytes : List ℕ) (r : Record) → reading_of L bytes ≡ good r → good_record L r ≡ true
  unfolding reading_of
  reading-taken bytes r e = record-taken bytes r [] (whole-good (take_record L bytes) r e)
