-- Marks and counts of edits over the two lists of their places, edit by edit.
-- Assumes nothing.
use mathlib.Core.Path.{◌≡◌, refl, ◌∙◌, ap}
use mathlib.Core.Logic.{◌⊎◌, inl, inr}
use mathlib.Core.Bool.{Bool, true, false, cond}
use mathlib.Core.List.{List, [], ◌∷◌, ◌++◌}
use Prim.Native.Nat.{ℕ, zero, suc, ◌+◌, ◌<◌, ◌≤◌}
use native.Mathlib.Nat.{not-suc-le-zero}
use native.Mathlib.Omega.{arith}
use lib.Dec.{ltb}
use lib.ListN.{length, get_or, take, drop, set}
use Rattle.farm.specs.declared.places.Seat.{Seat}
use Rattle.farm.specs.declared.places.Time.{Time}
use Rattle.knowledge.specs.Farm.{seat, time}
use Rattle.knowledge.specs.Views.{View}
use Rattle.knowledge.specs.Settled.{has_place}
use Rattle.telling.specs.Laid.{laid}
use Rattle.telling.specs.Marks.{mark_at, marks_in, count_in}
use Rattle.telling.proofs.LaidLaws.{laid-one}

-- ════ One mark ════

mark-small : (v : View) (s : Seat) (t : Time) → mark_at v s t ≤ 1
unfolding mark_at has_place
mark-small v s t = by (ltb t.0 (v s.0))
  where
    by : (b : Bool) → cond b 1 0 ≤ 1
    by true = omega arith
    by false = omega arith

-- ════ All marks ════

pub length-marks : (v : View) (seats times : List ℕ) → length times ≡ length seats → length (marks_in v seats times) ≡ length seats
unfolding marks_in
length-marks v [] times e = refl
length-marks v (s ∷ seats) [] e = let no : ⊥ = omega arith in absurd no
length-marks v (s ∷ seats) (t ∷ times) e = ap suc (length-marks v seats times (omega arith))

pub get_or-marks : (v : View) (seats times : List ℕ) (i : ℕ) → length times ≡ length seats → i < length seats
    → get_or (marks_in v seats times) i 0 ≡ mark_at v (seat (get_or seats i 0)) (time (get_or times i 0))
unfolding marks_in
get_or-marks v [] times i e h = absurd (not-suc-le-zero h)
get_or-marks v (s ∷ seats) [] i e h = let no : ⊥ = omega arith in absurd no
get_or-marks v (s ∷ seats) (t ∷ times) zero e h = refl
get_or-marks v (s ∷ seats) (t ∷ times) (suc i) e h = get_or-marks v seats times i (omega arith) (omega arith)

-- ════ The edits that are left ════

pub count-few : (v : View) (seats times : List ℕ) → count_in v seats times ≤ length seats
unfolding count_in
count-few v [] times = omega arith
count-few v (s ∷ seats) [] = omega arith
count-few v (s ∷ seats) (t ∷ times) =
    let few = count-few v seats times in
    let one = mark-small v (seat s) (time t) in
    omega arith

-- One of them is counted: what was counted, and what is left, make the same.
pub count-one : (v : View) (s t : ℕ) (seats times all when : List ℕ) (k total : ℕ) → all ≡ s ∷ seats → when ≡ t ∷ times
    → k + count_in v all when ≡ total → (k + mark_at v (seat s) (time t)) + count_in v seats times ≡ total
unfolding count_in
count-one v s t seats times all when k total es et e =
    let one : k + (mark_at v (seat s) (time t) + count_in v seats times) ≡ total = rw (es, et) at e in
    omega arith

pub count-none : (v : View) (seats times : List ℕ) → (seats ≡ []) ⊎ (times ≡ []) → count_in v seats times ≡ 0
unfolding count_in
count-none v [] times none = refl
count-none v (s ∷ seats) [] none = refl
count-none v (s ∷ seats) (t ∷ times) (inl e) = absurd cc
count-none v (s ∷ seats) (t ∷ times) (inr e) = absurd cc

-- The mark of the first of them is put in its place: what was laid, and what is left to lay, make the same.
pub mark-laid : (v : View) (s t : ℕ) (seats times all when now total : List ℕ) (i j k x : ℕ) → all ≡ s ∷ seats → when ≡ t ∷ times
    → j ≡ i → k ≡ i + 1 → x ≡ mark_at v (seat s) (time t) → i < length now → take i now ++ laid (marks_in v all when) (drop i now) ≡ total
    → take k (set now j x) ++ laid (marks_in v seats times) (drop k (set now j x)) ≡ total
unfolding marks_in
mark-laid v s t seats times all when now total i j k x es et ej ek ex h e =
    rw (ej, ek, ex) (laid-one i (marks_in v seats times) now (mark_at v (seat s) (time t)) h ∙ (rw (es, et) at e))

pub marks-none : (v : View) (seats times : List ℕ) → (seats ≡ []) ⊎ (times ≡ []) → marks_in v seats times ≡ []
unfolding marks_in
marks-none v [] times none = refl
marks-none v (s ∷ seats) [] none = refl
marks-none v (s ∷ seats) (t ∷ times) (inl e) = absurd cc
marks-none v (s ∷ seats) (t ∷ times) (inr e) = absurd cc
