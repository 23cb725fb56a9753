-- The edits: seat, time, cell, change, in strictly rising order of time, then seat, then cell.
use Rattle.std.specs.Prelude.{Bool, true, ◌&&◌, ◌||◌, List, [], ◌∷◌, ◌++◌, ℕ, zero, suc, ◌-◌, eqb, ltb, Option, None, Some}
use Rattle.farm.specs.Limits.{Limits}
use Rattle.farm.specs.declared.refusals.Refusal.TheVariants.{BadOrder}
use Rattle.record.specs.declared.edits.Edit.{Edit}
use Rattle.record.specs.Taking.{Taken, value, ◌>>=◌, when}
use Rattle.record.specs.Numbers.{number_bytes, take_within}
use Rattle.record.specs.Changes.{mapped, unmapped}

-- ════ The order ════

unfoldable pub rises : Edit → Edit → Bool
rises a b =
    ltb a.time.0 b.time.0
    || eqb a.time.0 b.time.0
    && (ltb a.seat.0 b.seat.0 || eqb a.seat.0 b.seat.0 && ltb a.cell b.cell)

unfoldable pub follows : Option Edit → Edit → Bool
follows None edit = true
follows (Some last) edit = rises last edit

-- ════ Reading ════

unfoldable pub take_edit : Limits → (n rounds : ℕ) → List ℕ → Taken Edit
take_edit L n R bytes = do
  (seat, after-seat) ← take_within L 0 (n - 1) bytes
  (time, after-time) ← take_within L 0 R after-seat
  (cell, after-cell) ← take_within L 0 L.largest_cell after-time
  (change, end) ← take_within L 0 L.largest_mapped_change after-cell
  value (record { seat = record { 0 = seat }; time = record { 0 = time }; cell = cell; change = unmapped change }) end

-- The order is tested when an edit is complete: refusal 5.
unfoldable pub take_edits : Limits → (n rounds left : ℕ) → Option Edit → List ℕ → Taken (List Edit)
take_edits L n R zero before bytes = value [] bytes
take_edits L n R (suc left) before bytes = do
  (edit, rest) ← take_edit L n R bytes
  (edits, end) ← when (follows before edit) BadOrder (take_edits L n R left (Some edit) rest)
  value (edit ∷ edits) end

-- ════ Writing ════

unfoldable pub edit_bytes : Limits → Edit → List ℕ
edit_bytes L e =
    number_bytes L e.seat.0 ++ number_bytes L e.time.0 ++ number_bytes L e.cell ++ number_bytes L (mapped e.change)

unfoldable pub edits_bytes : Limits → List Edit → List ℕ
edits_bytes L [] = []
edits_bytes L (e ∷ edits) = edit_bytes L e ++ edits_bytes L edits
