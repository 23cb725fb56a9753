-- Entries put over a list from a place on, one by one.
-- Assumes nothing.
use mathlib.Core.Path.{◌≡◌, refl, sym, ◌∙◌, ap}
use mathlib.Core.List.{List, [], ◌∷◌, ◌++◌, append_assoc}
use Prim.Native.Nat.{ℕ, suc, ◌+◌, ◌<◌, ◌≤◌}
use native.Mathlib.Nat.{add-zero}
use native.Mathlib.Numerals.{add-one}
use native.Mathlib.Omega.{arith}
use lib.ListN.{length, take, drop, set, length-set, length-append, length-take, length-drop, take-append-drop}
use lib.Seq.{take-suc-set, drop-set-lt}
use Rattle.record.specs.Tables.{over}

module _ {A : Type 0} where
  -- Nothing put over a list leaves it.
  pub over_none : (at : ℕ) (old : List A) → over at [] old ≡ old
  unfolding over
  over_none at old = rw add-zero (take-append-drop at old)

  -- The first entry is stored, and the others go over the next place on.
  pub over_first : (at : ℕ) (a : A) (new old : List A) → at < length old → over at (a ∷ new) old ≡ over (at + 1) new (set old at a)
  unfolding over
  over_first at a new old h =
      let place : at + suc (length new) ≡ suc at + length new = omega arith in
      rw (add-one, take-suc-set old at a h, drop-set-lt (suc at + length new) old at a (omega arith))
      (ap (λ (k : ℕ). take at old ++ (a ∷ (new ++ drop k old))) place
      ∙ sym (append_assoc (take at old) (a ∷ []) (new ++ drop (suc at + length new) old)))

  pub length_over : (at : ℕ) (new old : List A) → at + length new ≤ length old → length (over at new old) ≡ length old
  unfolding over
  length_over at new old h = simp (length-append, length-take, length-drop) (omega arith)

-- A list on its way: what is left, put over the present list from a place on, makes it what it is to be.
pub record Column {A : Type 0} (i : ℕ) (left all old present : List A) : Type 0 where
  pub kept : length present ≡ length old
  pub same : over i left present ≡ over 0 all old

module _ {A : Type 0} where
  pub column-start : (all old : List A) → Column 0 all all old old
  column-start all old = record { kept = refl; same = refl }

  pub column-on : (i : ℕ) (a : A) (left all old present : List A) → i < length old → Column i (a ∷ left) all old present
      → Column (i + 1) left all old (set present i a)
  column-on i a left all old present h k =
      record {
        kept = length-set present i a ∙ k.kept;
        same = sym (over_first i a left present (omega (arith, k.kept))) ∙ k.same;
      }

  pub column-end : (i : ℕ) (all old present : List A) → Column i [] all old present → present ≡ over 0 all old
  column-end i all old present k = sym (over_none i present) ∙ k.same
