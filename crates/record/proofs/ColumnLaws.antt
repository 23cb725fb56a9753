-- Edits and their columns: four parallel lists of one length are a list of edits, and a list of edits is four such lists.
-- Assumes nothing.
use mathlib.Core.Path.{◌≡◌, refl, ◌∙◌, ap}
use mathlib.Core.Bool.{Bool, true, false, cond}
use mathlib.Core.List.{List, [], ◌∷◌}
use Prim.Native.Nat.{ℕ, zero, suc, ◌<◌}
use native.Mathlib.Nat.{not-suc-le-zero, zero-add}
use native.Mathlib.Omega.{arith}
use lib.IntN.{ℤ, pos}
use lib.ListN.{length, take, drop, get_or}
use lib.Seq.{take_at, drop_at}
use Rattle.farm.specs.Limits.{Limits}
use Rattle.farm.specs.declared.refusals.Refusal.TheVariants.{NoRoom}
use Rattle.record.specs.declared.edits.Edit.{Edit}
use Rattle.record.specs.Record.{Record, good, bad, reading_of}
use Rattle.record.specs.Tables.{Tables, over, seats_of, times_of, cells_of, changes_of, edit_of, edits_from, roomy, read_into, tables_after}
use Rattle.record.specs.Columns.{tables_of, laid, used}
use Rattle.record.specs.Good.{good_record}
use Rattle.record.proofs.GoodLaws.{record-facts}

-- ════ Entries put in front ════

module _ {A : Type 0} (new old : List A) (k : ℕ) (long : length new ≡ k) where
  pub take-over : take k (over 0 new old) ≡ new
  unfolding over
  take-over = take_at new _ k long

  pub drop-over : drop k (over 0 new old) ≡ drop k old
  unfolding over
  drop-over = drop_at new _ k long ∙ ap (λ (i : ℕ). drop i old) (zero-add (length new) ∙ long)

-- ════ From edits to columns and back ════

pub edits-from-columns : (edits : List Edit) → edits_from (seats_of edits) (times_of edits) (cells_of edits) (changes_of edits) ≡ edits
unfolding edits_from seats_of times_of cells_of changes_of
edits-from-columns [] = refl
edits-from-columns (e ∷ edits) = ap (λ (l : List Edit). e ∷ l) (edits-from-columns edits)

pub length-seats : (edits : List Edit) → length (seats_of edits) ≡ length edits
unfolding seats_of
length-seats [] = refl
length-seats (e ∷ edits) = ap suc (length-seats edits)

pub length-times : (edits : List Edit) → length (times_of edits) ≡ length edits
unfolding times_of
length-times [] = refl
length-times (e ∷ edits) = ap suc (length-times edits)

pub length-cells : (edits : List Edit) → length (cells_of edits) ≡ length edits
unfolding cells_of
length-cells [] = refl
length-cells (e ∷ edits) = ap suc (length-cells edits)

pub length-changes : (edits : List Edit) → length (changes_of edits) ≡ length edits
unfolding changes_of
length-changes [] = refl
length-changes (e ∷ edits) = ap suc (length-changes edits)

-- ════ From columns to edits and back ════

pub record Columns (seats times cells : List ℕ) (changes : List ℤ) (edits : List Edit) : Type 0 where
  pub count : length edits ≡ length seats
  pub seats-same : seats_of edits ≡ seats
  pub times-same : times_of edits ≡ times
  pub cells_same : cells_of edits ≡ cells
  pub changes-same : changes_of edits ≡ changes

-- Parallel lists of one length come back as they were.
pub columns-from-edits : (seats times cells : List ℕ) (changes : List ℤ) → length times ≡ length seats → length cells ≡ length seats
    → length changes ≡ length seats → Columns seats times cells changes (edits_from seats times cells changes)
unfolding edits_from seats_of times_of cells_of changes_of
columns-from-edits [] [] [] [] a b c =
    record { count = refl; seats-same = refl; times-same = refl; cells_same = refl; changes-same = refl }
columns-from-edits [] [] [] (d ∷ changes) a b c = absurd (omega arith)
columns-from-edits [] [] (x ∷ cells) changes a b c = absurd (omega arith)
columns-from-edits [] (t ∷ times) cells changes a b c = absurd (omega arith)
columns-from-edits (s ∷ seats) [] cells changes a b c = absurd (omega arith)
columns-from-edits (s ∷ seats) (t ∷ times) [] changes a b c = absurd (omega arith)
columns-from-edits (s ∷ seats) (t ∷ times) (x ∷ cells) [] a b c = absurd (omega arith)
columns-from-edits (s ∷ seats) (t ∷ times) (x ∷ cells) (d ∷ changes) a b c =
    let below = columns-from-edits seats times cells changes (omega arith) (omega arith) (omega arith) in
    record {
      count = ap suc below.count;
      seats-same = ap (λ (l : List ℕ). s ∷ l) below.seats-same;
      times-same = ap (λ (l : List ℕ). t ∷ l) below.times-same;
      cells_same = ap (λ (l : List ℕ). x ∷ l) below.cells_same;
      changes-same = ap (λ (l : List ℤ). d ∷ l) below.changes-same;
    }

-- ════ At an index ════

-- The edits from an index on are the first of them and the edits after it, for a loop over the four lists.
pub edits-drop : (seats times cells : List ℕ) (changes : List ℤ) (i : ℕ) → length times ≡ length seats → length cells ≡ length seats
    → length changes ≡ length seats → i < length seats
    → drop i (edits_from seats times cells changes)
    ≡ edit_of (get_or seats i 0) (get_or times i 0) (get_or cells i 0) (get_or changes i (pos 0)) ∷ drop (suc i) (edits_from seats times cells changes)
unfolding edits_from
edits-drop [] times cells changes i a b c h = absurd (not-suc-le-zero h)
edits-drop (s ∷ seats) [] cells changes i a b c h = absurd (omega arith)
edits-drop (s ∷ seats) (t ∷ times) [] changes i a b c h = absurd (omega arith)
edits-drop (s ∷ seats) (t ∷ times) (x ∷ cells) [] i a b c h = absurd (omega arith)
edits-drop (s ∷ seats) (t ∷ times) (x ∷ cells) (d ∷ changes) zero a b c h = refl
edits-drop (s ∷ seats) (t ∷ times) (x ∷ cells) (d ∷ changes) (suc i) a b c h =
    edits-drop seats times cells changes i (omega arith) (omega arith) (omega arith) (omega arith)

-- ════ Tables after a reading ════

pub laid-after : (r : Record) (old : Tables) → tables_after (good r) old ≡ laid (tables_of r) old
unfolding tables_after laid tables_of
laid-after r old = refl

pub read-into-good : (L : Limits) (old : Tables) (bytes : List ℕ) (r : Record) → read_into L old bytes ≡ good r → reading_of L bytes ≡ good r
unfolding read_into
read-into-good L old bytes r e = by (roomy L old) e
  where
    by : (t : Bool) → cond t (reading_of L bytes) (bad NoRoom) ≡ good r → reading_of L bytes ≡ good r
    by true f = f
    by false f = cc

-- The used part is the record's own tables, whatever was there before.
pub used-after : (L : Limits) (r : Record) (old : Tables) → good_record L r ≡ true → used r.header (tables_after (good r) old) ≡ tables_of r
unfolding used tables_after tables_of
used-after L r old g =
    let f = record-facts L r g in
    λ i. record {
      losses = take-over r.losses old.losses _ f.loss_count i;
      seats = take-over (seats_of r.edits) old.seats _ (length-seats r.edits ∙ f.edit_count) i;
      times = take-over (times_of r.edits) old.times _ (length-times r.edits ∙ f.edit_count) i;
      cells = take-over (cells_of r.edits) old.cells _ (length-cells r.edits ∙ f.edit_count) i;
      changes = take-over (changes_of r.edits) old.changes _ (length-changes r.edits ∙ f.edit_count) i;
    }
