-- What the second pass over a record counts on: the first pass took everything, so each taking gives a value.
use Rattle.std.specs.Prelude.{◌≡◌, List, [], ◌∷◌, ℕ, zero, suc, ◌<◌}
use Rattle.farm.specs.Limits.{Limits}
use Rattle.record.specs.Taking.{Taken, value, refused, ◌>>=◌}
use Rattle.record.specs.Numbers.{take_number}
use Rattle.record.specs.declared.edits.Edit.{Edit}
use Rattle.record.specs.Tables.{Tables, over, seats_of, times_of, cells_of, changes_of}

-- A taking that gives a value.
pub record Gives {A : Type 0} (taken : Taken A) : Type 0 where
  pub what : A
  pub rest : List ℕ
  pub took : taken ≡ value what rest

-- The list that a taking gives; it is asked of no taking that is refused.
unfoldable pub given : {A : Type 0} → Taken (List A) → List A
given (value list rest) = list
given (refused r) = []

-- As many numbers, one after the other.
unfoldable pub take_numbers : Limits → (left : ℕ) → List ℕ → Taken (List ℕ)
take_numbers L zero bytes = value [] bytes
take_numbers L (suc left) bytes = do
  (v, rest) ← take_number L bytes
  (later, end) ← take_numbers L left rest
  value (v ∷ later) end

unfoldable pub AllBelow : (bound : ℕ) → List ℕ → Type 0
AllBelow bound [] = Unit {0}
AllBelow bound (v ∷ later) = (v < bound) × AllBelow bound later

-- Edits put over the first entries of the four lists.
pub record EditsFilled (edits : List Edit) (before after : Tables) : Type 0 where
  pub seats : after.seats ≡ over 0 (seats_of edits) before.seats
  pub times : after.times ≡ over 0 (times_of edits) before.times
  pub cells : after.cells ≡ over 0 (cells_of edits) before.cells
  pub changes : after.changes ≡ over 0 (changes_of edits) before.changes
