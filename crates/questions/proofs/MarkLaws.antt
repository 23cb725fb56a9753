-- Marks and counts of edits: what the questions find, and that the marks of edits are those of their places.
-- Assumes nothing.
use mathlib.Core.Path.{◌≡◌, refl, ap}
use mathlib.Core.List.{List, [], ◌∷◌}
use Prim.Native.Nat.{ℕ, ◌+◌}
use lib.ListN.{length}
use Rattle.farm.specs.declared.places.Seat.{Seat}
use Rattle.farm.specs.declared.places.Time.{Time}
use Rattle.farm.specs.declared.refusals.Refusal.{Refusal}
use Rattle.knowledge.specs.Farm.{Farm}
use Rattle.knowledge.specs.Views.{View}
use Rattle.knowledge.specs.Settled.{Settled, has_place}
use Rattle.record.specs.declared.edits.Edit.{Edit}
use Rattle.record.specs.Tables.{seats_of, times_of}
use Rattle.telling.specs.Marks.{mark_at, marks_in, count_in}
use Rattle.questions.specs.Question.{found, refused, Lent, in_core, marks_of, count_of, settled_in}
use Rattle.questions.specs.Accepted.{marks_on}
use Rattle.questions.proofs.CoreLaws.{looked-refused, looked-found}

-- ════ The questions ════

module _ (farm : Farm) (seats times : List ℕ) (p : Seat) (ℓ : Time) where
  pub marks-refused : (lent : Lent) (r : Refusal) → settled_in lent (length seats) farm p ℓ ≡ refused r
      → marks_on lent farm seats times p ℓ ≡ refused r
  unfolding marks_on
  marks-refused lent r e = looked-refused _ _ r e

  pub marks-found : (lent : Lent) (s : Settled) → settled_in lent (length seats) farm p ℓ ≡ found s
      → marks_on lent farm seats times p ℓ ≡ found (marks_in s.core seats times)
  unfolding marks_on
  marks-found lent s e = looked-found _ _ s e

-- ════ The marks of edits are those of their places ════

pub marks-of-edits : (core : View) (edits : List Edit) → marks_of core edits ≡ marks_in core (seats_of edits) (times_of edits)
unfolding marks_of marks_in mark_at seats_of times_of in_core has_place
marks-of-edits core [] = refl
marks-of-edits core (e ∷ edits) = ap (λ (l : List ℕ). mark_at core e.seat e.time ∷ l) (marks-of-edits core edits)

pub count-of-edits : (core : View) (edits : List Edit) → count_of core edits ≡ count_in core (seats_of edits) (times_of edits)
unfolding count_of count_in mark_at seats_of times_of in_core has_place
count-of-edits core [] = refl
count-of-edits core (e ∷ edits) = ap (λ (k : ℕ). mark_at core e.seat e.time + k) (count-of-edits core edits)
