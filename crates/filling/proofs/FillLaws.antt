-- The second pass over a good record: each turn takes what the first pass took, and puts it in its place.
-- Assumes nothing.
use Rattle.std.specs.Prelude.{Ok, Result, Option, Some, None}
use mathlib.Core.Path.{◌≡◌, refl, sym, ◌∙◌, ap, subst}
use mathlib.Core.Bool.{Bool, true, false}
use mathlib.Core.List.{List, [], ◌∷◌}
use Prim.Native.Nat.{ℕ, suc, ◌+◌, ◌-◌, ◌<◌, ◌≤◌}
use native.Mathlib.Nat.{sub-zero}
use native.Mathlib.Omega.{arith}
use lib.ListN.{length, drop, set, length-set}
use Rattle.farm.specs.Limits.{limits}
use Rattle.farm.specs.declared.refusals.Refusal.{Refusal}
use Rattle.farm.specs.declared.refusals.Refusal.TheVariants.{BadOrder}
use Rattle.record.specs.declared.edits.Edit.{Edit}
use Rattle.record.specs.Taking.{Taken, value, refused, ◌>>=◌, when}
use Rattle.record.specs.Numbers.{take_number}
use Rattle.record.specs.Edits.{follows, take_edit, take_edits}
use Rattle.filling.specs.Filling.{Gives, given, take_numbers, AllBelow, EditsFilled}
use Rattle.record.specs.Tables.{Tables, tables, over, seats_of, times_of, cells_of, changes_of}
use Rattle.numbers.specs.declared.read.Cursor.{Cursor}
use Rattle.numbers.specs.Cursors.{cursor_at, passed_in}
use Rattle.record.proofs.TakingLaws.{bind-value, value-not-refused}
use Rattle.numbers.proofs.CursorLaws.{cursor-drop, Placed}
use Rattle.record.proofs.TableLaws.{over_none, over_first, Column, column-start, column-on, column-end}

-- None is left to take: the place that was come to is where all that was to be taken ended.
come-to : (bytes : List ℕ) (at : ℕ) (rest : List ℕ) (p : Result Cursor Refusal) → at ≤ length bytes → drop at bytes ≡ rest → p ≡ Ok (cursor_at bytes rest)
    → Ok (record { at = at }) ≡ p
come-to bytes at rest p inside e f = sym (f ∙ rw (← e, cursor-drop bytes at inside))

-- ════ Loss sets ════

all-below-cons : (bound v : ℕ) (later all : List ℕ) → v ∷ later ≡ all → AllBelow bound all → (v < bound) × AllBelow bound later
unfolding AllBelow
all-below-cons bound v later all e h = subst (λ (l : List ℕ). AllBelow bound l) (sym e) h

-- What is left to take, and that it makes the tables what they are to be.
pub record SetsLeft (bytes : List ℕ) (count at i : ℕ) (old present : List ℕ) : Type 0 where
  pub left : List ℕ
  pub rest : List ℕ
  pub took : take_numbers limits (count - i) (drop at bytes) ≡ value left rest
  pub small : AllBelow 65536 left
  pub within : i ≤ count
  pub inside : at ≤ length bytes
  pub kept : length present ≡ length old
  pub same : over i left present ≡ over 0 (given (take_numbers limits count bytes)) old
  pub ends : passed_in bytes (take_numbers limits count bytes) ≡ Ok (cursor_at bytes rest)

pub sets-start : (bytes : List ℕ) (count : ℕ) (old : List ℕ) → Gives (take_numbers limits count bytes)
    → AllBelow 65536 (given (take_numbers limits count bytes)) → SetsLeft bytes count 0 0 old old
unfolding given passed_in
sets-start bytes count old gives small =
    record {
      left = gives.what;
      rest = gives.rest;
      took = rw sub-zero gives.took;
      small = rw gives.took at small;
      within = omega arith;
      inside = omega arith;
      kept = refl;
      same = rw gives.took;
      ends = rw gives.took;
    }

module _ (bytes : List ℕ) (count at i : ℕ) (old present : List ℕ) (s : SetsLeft bytes count at i old present) where
  pub sets_end : count ≤ i → (Ok (record { at = at }) ≡ passed_in bytes (take_numbers limits count bytes))
      × (present ≡ over 0 (given (take_numbers limits count bytes)) old)
  unfolding take_numbers
  sets_end h =
      let none : count - i ≡ 0 = omega arith in
      let took : value [] (drop at bytes) ≡ value s.left s.rest = rw none at s.took in
      let empty : [] ≡ s.left = cc in (
        come-to bytes at s.rest _ s.inside (cc) s.ends,
        sym (over_none i present) ∙ ap (λ (l : List ℕ). over i l present) empty ∙ s.same,
      )

  module _ (more : i < count) where
    next-left : count - i ≡ suc (count - (i + 1))
    next-left = omega arith

    parts : (v : ℕ) × (rest : List ℕ) × (take_number limits (drop at bytes) ≡ value v rest)
        × ((take_numbers limits (count - (i + 1)) rest >>= (λ x. value (v ∷ x.0) x.1)) ≡ value s.left s.rest)
    unfolding take_numbers
    parts = bind-value (take_number limits (drop at bytes)) _ s.left s.rest (rw next-left at s.took)

    pub sets-no-stop : (r : Refusal) → take_number limits (drop at bytes) ≡ refused r → ⊥
    sets-no-stop r e = value-not-refused parts.0 parts.1 r (sym parts.2 ∙ e)

    pub sets-on : count ≤ length old → (v next : ℕ) → Placed bytes (take_number limits (drop at bytes)) v next
        → (v < 65536) × SetsLeft bytes count next (i + 1) old (set present i v)
    unfolding take_numbers ◌>>=◌
    sets-on room v next was =
        let y = bind-value (take_numbers limits (count - (i + 1)) parts.1) _ s.left s.rest parts.3 in
        let first : value parts.0 parts.1 ≡ value v (drop next bytes) = sym parts.2 ∙ was.took in
        let same-v : parts.0 ≡ v = cc in
        let same_rest : parts.1 ≡ drop next bytes = cc in
        let front : v ∷ y.0 ≡ s.left = cc in
        let ends : y.1 ≡ s.rest = cc in
        let later : take_numbers limits (count - (i + 1)) (drop next bytes) ≡ value y.0 s.rest =
        ap (take_numbers limits (count - (i + 1))) (sym same_rest) ∙ y.2 ∙ ap (value y.0) ends in
        let small = all-below-cons 65536 v y.0 s.left front s.small in
        let long : i < length present = omega (arith, s.kept) in (
          small.0,
          record {
            left = y.0;
            rest = s.rest;
            took = later;
            small = small.1;
            within = omega arith;
            inside = was.inside;
            kept = length-set present i v ∙ s.kept;
            same = sym (over_first i v y.0 present long) ∙ ap (λ (l : List ℕ). over i l present) front ∙ s.same;
            ends = s.ends;
          },
        )

-- ════ Edits ════

-- What is left to take, after an edit that the first pass compared it with, and that it makes the four lists what they are to be.
pub record EditsLeft (bytes : List ℕ) (n R count at i : ℕ) (old present : Tables) : Type 0 where
  pub left : List Edit
  pub before : Option Edit
  pub rest : List ℕ
  pub took : take_edits limits n R (count - i) before (drop at bytes) ≡ value left rest
  pub within : i ≤ count
  pub inside : at ≤ length bytes
  pub ends : passed_in bytes (take_edits limits n R count None bytes) ≡ Ok (cursor_at bytes rest)
  pub seats : Column i (seats_of left) (seats_of (given (take_edits limits n R count None bytes))) old.seats present.seats
  pub times : Column i (times_of left) (times_of (given (take_edits limits n R count None bytes))) old.times present.times
  pub cells : Column i (cells_of left) (cells_of (given (take_edits limits n R count None bytes))) old.cells present.cells
  pub changes : Column i (changes_of left) (changes_of (given (take_edits limits n R count None bytes))) old.changes present.changes

pub edits-start : (bytes : List ℕ) (n R count : ℕ) (old : Tables) → Gives (take_edits limits n R count None bytes)
    → EditsLeft bytes n R count 0 0 old old
unfolding given passed_in
edits-start bytes n R count old gives =
    record {
      left = gives.what;
      before = None;
      rest = gives.rest;
      took = rw sub-zero gives.took;
      within = omega arith;
      inside = omega arith;
      ends = rw gives.took;
      seats = rw gives.took (column-start (seats_of gives.what) old.seats);
      times = rw gives.took (column-start (times_of gives.what) old.times);
      cells = rw gives.took (column-start (cells_of gives.what) old.cells);
      changes = rw gives.took (column-start (changes_of gives.what) old.changes);
    }

-- Edits that were taken come apart into the first one and the later ones.
edits-split : (n R left : ℕ) (before : Option Edit) (bytes : List ℕ) (edits : List Edit) (rest : List ℕ) (e : Edit) (after : List ℕ)
    → take_edits limits n R (suc left) before bytes ≡ value edits rest → take_edit limits n R bytes ≡ value e after
    → (later : List Edit) × (edits ≡ e ∷ later) × (take_edits limits n R left (Some e) after ≡ value later rest)
unfolding take_edits ◌>>=◌ when
edits-split n R left before bytes edits rest e after h q =
    by (follows before e) (take_edits limits n R left (Some e) after) (rw q at h)
  where
    by : (good : Bool) (t : Taken (List Edit)) → (when good BadOrder t >>= (λ x. value (e ∷ x.0) x.1)) ≡ value edits rest
        → (later : List Edit) × (edits ≡ e ∷ later) × (t ≡ value later rest)
    by true (value later end) f = (later, (cc), (cc))
    by true (refused r) f = absurd (value-not-refused edits rest r (sym f))
    by false t f = absurd (value-not-refused edits rest BadOrder (sym f))

module _ (bytes : List ℕ) (n R count at i : ℕ) (old present : Tables) (s : EditsLeft bytes n R count at i old present) where
  pub edits-filled : count ≤ i → (Ok (record { at = at }) ≡ passed_in bytes (take_edits limits n R count None bytes))
      × EditsFilled (given (take_edits limits n R count None bytes)) old present
  unfolding take_edits seats_of times_of cells_of changes_of
  edits-filled h =
      let none : count - i ≡ 0 = omega arith in
      let took : value [] (drop at bytes) ≡ value s.left s.rest = rw none at s.took in
      let empty : s.left ≡ [] = cc in (
        come-to bytes at s.rest _ s.inside (cc) s.ends,
        record {
          seats = column-end i _ old.seats present.seats (rw empty at s.seats);
          times = column-end i _ old.times present.times (rw empty at s.times);
          cells = column-end i _ old.cells present.cells (rw empty at s.cells);
          changes = column-end i _ old.changes present.changes (rw empty at s.changes);
        },
      )

  module _ (more : i < count) where
    -- The next edit was accepted.
    pub edits-give : Gives (take_edit limits n R (drop at bytes))
    unfolding take_edits
    edits-give =
        let next-left : count - i ≡ suc (count - (i + 1)) = omega arith in
        let x = bind-value (take_edit limits n R (drop at bytes)) _ s.left s.rest (rw next-left at s.took) in
        record { what = x.0; rest = x.1; took = x.2 }

    pub edits-no-stop : (r : Refusal) → take_edit limits n R (drop at bytes) ≡ refused r → ⊥
    edits-no-stop r e = value-not-refused edits-give.what edits-give.rest r (sym edits-give.took ∙ e)

    pub edits-on : count ≤ length old.seats → count ≤ length old.times → count ≤ length old.cells → count ≤ length old.changes
        → (e : Edit) (next : ℕ) → Placed bytes (take_edit limits n R (drop at bytes)) e next
        → EditsLeft bytes n R count next (i + 1) old
        (tables present.losses (set present.seats i e.seat.0) (set present.times i e.time.0)
        (set present.cells i e.cell) (set present.changes i e.change))
    unfolding seats_of times_of cells_of changes_of
    edits-on a b c d e next was =
        let next-left : count - i ≡ suc (count - (i + 1)) = omega arith in
        let w = edits-split n R (count - (i + 1)) s.before (drop at bytes) s.left s.rest e (drop next bytes) (rw next-left at s.took) was.took in
        by w.0 w.1 w.2
      where
        by : (later : List Edit) → s.left ≡ e ∷ later
            → take_edits limits n R (count - (i + 1)) (Some e) (drop next bytes) ≡ value later s.rest
            → EditsLeft bytes n R count next (i + 1) old
            (tables present.losses (set present.seats i e.seat.0) (set present.times i e.time.0)
            (set present.cells i e.cell) (set present.changes i e.change))
        by later front took =
            record {
              left = later;
              before = Some e;
              rest = s.rest;
              took = took;
              within = omega arith;
              inside = was.inside;
              ends = s.ends;
              seats = column-on i _ _ _ old.seats present.seats (omega arith) (rw front at s.seats);
              times = column-on i _ _ _ old.times present.times (omega arith) (rw front at s.times);
              cells = column-on i _ _ _ old.cells present.cells (omega arith) (rw front at s.cells);
              changes = column-on i _ _ _ old.changes present.changes (omega arith) (rw front at s.changes);
            }
