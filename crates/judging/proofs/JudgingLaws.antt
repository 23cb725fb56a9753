-- What the first loss set of some decides, and the first edit of some: one law for each way that the judgement ends or goes on; and the walk over the lists of edits.
-- Assumes nothing.
use mathlib.Core.Path.{◌≡◌, ap}
use mathlib.Core.Bool.{true, false}
use mathlib.Core.List.{List, [], ◌∷◌}
use Prim.Native.Nat.{ℕ, ◌+◌, ◌<◌, ◌≤◌}
use native.Mathlib.Numerals.{add-one}
use native.Mathlib.Omega.{arith}
use lib.IntN.{ℤ, pos}
use lib.ListN.{length, get_or, drop, drop_of_length-le}
use lib.Seq.{drop-cons}
use mir.Syntax.{w16}
use mir.Val.{SFits, to_z, of_z}
use mir.ValLaws.{to_z-of_z}
use Rattle.std.proofs.lemmas.Bool.Decides.{nat_tests}
use Rattle.farm.specs.Limits.{Limits}
use Rattle.farm.specs.Sets.{Seats}
use Rattle.farm.specs.declared.places.Seat.{Seat}
use Rattle.farm.specs.declared.refusals.Refusal.TheVariants.{OutOfRange, BadOrder}
use Rattle.record.specs.declared.edits.Edit.{Edit}
use Rattle.std.specs.Prelude.{Option, Some}
use Rattle.record.specs.Losses.{good_set}
use Rattle.record.specs.Edits.{follows}
use Rattle.record.specs.Good.{sender_after, good_sets, good_edit}
use Rattle.record.specs.Tables.{Tables, edit_of}
use Rattle.record.specs.Writing.{faulty, unless, judged_edits, edits_in}
use Rattle.record.proofs.ColumnLaws.{columns-from-edits, edits-drop}

-- ════ The loss sets ════

pub sender-below : (n : ℕ) (sender : Seat) → sender.0 < n → (sender_after n sender).0 < n
unfolding sender_after
sender-below n sender l = grind (arith, nat_tests)

module _ (n : ℕ) (sender : Seat) (i : ℕ) (sets : List Seats) where
  pub set-stops : i < length sets → good_set n sender (get_or sets i 0) ≡ false → good_sets n sender (drop i sets) ≡ false
  unfolding good_sets
  set-stops l e = rw (drop-cons sets i 0 l, good_sets, e)

  pub set_on : i < length sets → good_set n sender (get_or sets i 0) ≡ true
      → good_sets n (sender_after n sender) (drop (i + 1) sets) ≡ good_sets n sender (drop i sets)
  unfolding good_sets
  set_on l e = rw (add-one, drop-cons sets i 0 l, good_sets, e)

  pub sets_end : length sets ≤ i → good_sets n sender (drop i sets) ≡ true
  unfolding good_sets
  sets_end l = rw (drop_of_length-le sets l)

-- ════ The edits ════

-- The code holds a change as 16 bits, and it is the same change.
pub change-kept : (seat time cell : ℕ) (d : ℤ) → SFits w16 d → edit_of seat time cell (to_z w16 (of_z w16 d)) ≡ edit_of seat time cell d
change-kept seat time cell d f = ap (λ (z : ℤ). edit_of seat time cell z) (to_z-of_z w16 d f)

-- A loop over the four lists by an index, as `judging` and `writing` go over them: each turn takes the next edit off what is left.
module _ (i : ℕ) (lists : Tables) (times : length lists.times ≡ length lists.seats) (cells : length lists.cells ≡ length lists.seats) (changes : length lists.changes ≡ length lists.seats) where
  -- The code holds the change as 16 bits.
  pub edits-next : i < length lists.seats → SFits w16 (get_or lists.changes i (pos 0))
      → drop i (edits_in lists)
      ≡ edit_of (get_or lists.seats i 0) (get_or lists.times i 0) (get_or lists.cells i 0) (to_z w16 (of_z w16 (get_or lists.changes i (pos 0)))) ∷ drop (i + 1) (edits_in lists)
  edits-next l fits =
      rw (change-kept _ _ _ _ fits, add-one) (edits-drop lists.seats lists.times lists.cells lists.changes i times cells changes l)

  pub edits-done : length lists.seats ≤ i → drop i (edits_in lists) ≡ []
  edits-done l =
      let count = (columns-from-edits lists.seats lists.times lists.cells lists.changes times cells changes).count in
      drop_of_length-le (edits_in lists) (omega arith)

-- The first of some edits decides, or leaves the others to decide.
module _ (L : Limits) (n R : ℕ) (before : Option Edit) (e : Edit) (edits : List Edit) where
  pub field-stops : good_edit L n R e ≡ false → judged_edits L n R before (e ∷ edits) ≡ faulty OutOfRange
  unfolding judged_edits unless
  field-stops f = rw f

  module _ (sound : good_edit L n R e ≡ true) where
    pub order-stops : follows before e ≡ false → judged_edits L n R before (e ∷ edits) ≡ faulty BadOrder
    unfolding judged_edits unless
    order-stops f = rw (sound, f)

    pub edit-on : follows before e ≡ true → judged_edits L n R (Some e) edits ≡ judged_edits L n R before (e ∷ edits)
    unfolding judged_edits unless
    edit-on f = rw (sound, f)
