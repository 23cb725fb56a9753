-- Cursors instead of rests: a taking at a place, byte by byte, and where the next one begins.
-- Assumes nothing.
use mathlib.Core.Path.{◌≡◌, refl, sym, ◌∙◌, ap}
use Rattle.std.specs.Prelude.{Result, Ok, Err}
use mathlib.Core.Bool.{Bool, true, false, ◌||◌}
use mathlib.Core.List.{List, ◌∷◌}
use Prim.Native.Nat.{ℕ, zero, suc, ◌+◌, ◌-◌, ◌<◌, ◌≤◌}
use native.Mathlib.Numerals.{add-one}
use native.Mathlib.Omega.{arith}
use lib.Dec.{ltb}
use lib.ListN.{length, get_or, drop, length-drop, drop_of_length-le}
use lib.Seq.{drop-cons}
use Rattle.farm.specs.Limits.{limits}
use Rattle.farm.specs.declared.refusals.Refusal.{Refusal}
use Rattle.farm.specs.declared.refusals.Refusal.TheVariants.{EndsEarly, BadForm}
use Rattle.numbers.specs.declared.read.Cursor.{Cursor}
use Rattle.record.specs.Taking.{Taken, value, refused, when, ◌>>=◌}
use Rattle.record.specs.Numbers.{take_groups, last_group, with_group, take_number, take_within}
use Rattle.numbers.specs.Cursors.{cursor_at, read_in, passed_in, number_at, within_at}
use Rattle.record.proofs.TakingLaws.{Tail, tail-drop, tail-trans, tail-of-drop}
use Rattle.record.proofs.NumberLaws.{take_last, take_more, take-too-long, last-good, number-tail, within-value}

-- The rest after a place begins at that place.
pub cursor-drop : (bytes : List ℕ) (k : ℕ) → k ≤ length bytes → length bytes - length (drop k bytes) ≡ k
cursor-drop bytes k h = rw length-drop (omega arith)

-- ════ One byte of a number ════

module _ (bytes : List ℕ) (at : ℕ) where
  pub ends-here : (more : ℕ) (first : Bool) → length bytes ≤ at → take_groups more first (drop at bytes) ≡ refused EndsEarly
  unfolding take_groups
  ends-here more first h = rw (drop_of_length-le bytes h)

  module _ (here : at < length bytes) where
    front : drop at bytes ≡ get_or bytes at 0 ∷ drop (at + 1) bytes
    front = rw add-one (drop-cons bytes at 0 here)

    pub last-here : (more : ℕ) (first : Bool) → get_or bytes at 0 < 128 → (first || ltb 0 (get_or bytes at 0)) ≡ true
        → take_groups more first (drop at bytes) ≡ value (get_or bytes at 0) (drop (at + 1) bytes)
    last-here more first h e =
        ap (take_groups more first) front ∙ take_last more first (get_or bytes at 0) _ h ∙ last-good first (get_or bytes at 0) _ e

    pub zero-here : (more : ℕ) → get_or bytes at 0 ≡ 0 → take_groups more false (drop at bytes) ≡ refused BadForm
    unfolding last_group when
    zero-here more e =
        ap (take_groups more false) front ∙ take_last more false (get_or bytes at 0) _ (omega arith)
        ∙ ap (λ (b : ℕ). last_group false b (drop (at + 1) bytes)) e

    pub more-here : (more : ℕ) (first : Bool) → 128 ≤ get_or bytes at 0
        → take_groups (suc more) first (drop at bytes) ≡ with_group (get_or bytes at 0) (take_groups more false (drop (at + 1) bytes))
    more-here more first h = ap (take_groups (suc more) first) front ∙ take_more more first (get_or bytes at 0) _ h

    pub too-long-here : (first : Bool) → 128 ≤ get_or bytes at 0 → take_groups zero first (drop at bytes) ≡ refused BadForm
    too-long-here first h = ap (take_groups zero first) front ∙ take-too-long first (get_or bytes at 0) _ h

-- A number that goes on after its first byte, and one that goes on after its second.
module _ (bytes : List ℕ) (at : ℕ) (here : at < length bytes) (more : 128 ≤ get_or bytes at 0) where
  pub after-one : (t : Taken ℕ) → take_groups 1 false (drop (at + 1) bytes) ≡ t → take_number limits (drop at bytes) ≡ with_group (get_or bytes at 0) t
  unfolding take_number
  after-one t e = more-here bytes at here 1 true more ∙ ap (with_group (get_or bytes at 0)) e

  pub after-two : at + 1 < length bytes → 128 ≤ get_or bytes (at + 1) 0 → (t : Taken ℕ) → take_groups 0 false (drop (at + 1 + 1) bytes) ≡ t
      → take_number limits (drop at bytes) ≡ with_group (get_or bytes at 0) (with_group (get_or bytes (at + 1) 0) t)
  after-two here-too more-too t e = after-one _ (more-here bytes (at + 1) here-too 0 false more-too ∙ ap (with_group (get_or bytes (at + 1) 0)) e)

-- ════ Fields: where one ends, the next begins ════

-- A number in its place: what was taken, where the rest begins, and that it begins within the bytes.
pub record Placed {A : Type 0} (bytes : List ℕ) (taken : Taken A) (a : A) (next : ℕ) : Type 0 where
  pub took : taken ≡ value a (drop next bytes)
  pub inside : next ≤ length bytes

-- A value whose rest is a tail of the bytes stands in its place.
pub placed : {A : Type 0} (bytes : List ℕ) (a : A) (rest : List ℕ) (next : ℕ) → Tail rest bytes → length bytes - length rest ≡ next
    → Placed bytes (value a rest) a next
placed bytes a rest next t at =
    record { took = ap (value a) (sym (tail-drop t) ∙ ap (λ (k : ℕ). drop k bytes) at); inside = omega arith }

-- What a reader answers, from what is taken there.
pub read-refused : {A : Type 0} (bytes : List ℕ) (t : Taken A) (r : Refusal) → t ≡ refused r → Err r ≡ read_in bytes t
unfolding read_in
read-refused bytes t r e = rw e

pub read-value : {A : Type 0} (bytes : List ℕ) (t : Taken A) (a : A) (next : ℕ) → t ≡ value a (drop next bytes) → next ≤ length bytes
    → Ok (a, record { at = next }) ≡ read_in bytes t
unfolding read_in
read-value bytes t a next e h = rw (e, cursor-drop bytes next h)

-- And back: what was taken, from the answer.
pub read-was-refused : {A : Type 0} (bytes : List ℕ) (t : Taken A) (r : Refusal) → read_in bytes t ≡ Err r → t ≡ refused r
unfolding read_in
read-was-refused bytes (value a rest) r e = cc
read-was-refused bytes (refused s) r e = cc

pub read-was : {A : Type 0} (bytes : List ℕ) (t : Taken A) (a : A) (next : Cursor) → ((w : A) (rest : List ℕ) → t ≡ value w rest → Tail rest bytes)
    → read_in bytes t ≡ Ok (a, next) → Placed bytes t a next.at
unfolding read_in
read-was {A} bytes (value w rest) a next tail e =
    let both : ◌≡◌ {A = A × Cursor} (w, cursor_at bytes rest) (a, next) = cc in
    let same : w ≡ a = ap (λ (p : A × Cursor). p.0) both in
    rw (← same) (placed bytes w rest next.at (tail w rest refl) (ap (λ (p : A × Cursor). p.1.at) both))
read-was {A} bytes (refused r) a next tail e = cc

-- The same of a part that was only looked through.
pub passed-was-refused : {A : Type 0} (bytes : List ℕ) (t : Taken A) (r : Refusal) → passed_in bytes t ≡ Err r → t ≡ refused r
unfolding passed_in
passed-was-refused bytes (value a rest) r e = cc
passed-was-refused bytes (refused s) r e = cc

pub passed-was : {A : Type 0} (bytes : List ℕ) (t : Taken A) (next : Cursor) → ((a : A) (rest : List ℕ) → t ≡ value a rest → Tail rest bytes)
    → passed_in bytes t ≡ Ok next → (a : A) × Placed bytes t a next.at
unfolding passed_in
passed-was bytes (value a rest) next tail e =
    let place : cursor_at bytes rest ≡ next = cc in
    (a, placed bytes a rest next.at (tail a rest refl) (ap (λ (c : Cursor). c.at) place))
passed-was bytes (refused r) next tail e = cc

-- What follows a part changes nothing of where it ends.
pub passed-mapped : {A B : Type 0} (all : List ℕ) (t : Taken A) (f : A → B) → passed_in all (t >>= (λ x. value (f x.0) x.1)) ≡ passed_in all t
unfolding passed_in ◌>>=◌
passed-mapped all (value a rest) f = refl
passed-mapped all (refused r) f = refl

-- A number at a place, from the answer.
pub number-was : (bytes : List ℕ) (at v : ℕ) (next : Cursor) → number_at bytes at ≡ Ok (v, next)
    → Placed bytes (take_number limits (drop at bytes)) v next.at
unfolding number_at
number-was bytes at v next e =
    read-was bytes (take_number limits (drop at bytes)) v next
    (λ w rest f. tail-trans (number-tail limits (drop at bytes) w rest f) (tail-of-drop at bytes)) e

pub number-was-refused : (bytes : List ℕ) (at : ℕ) (r : Refusal) → number_at bytes at ≡ Err r → take_number limits (drop at bytes) ≡ refused r
unfolding number_at
number-was-refused bytes at r e = read-was-refused bytes _ r e

within-was : (low high : ℕ) (bytes : List ℕ) (at v : ℕ) (next : Cursor) → within_at low high bytes at ≡ Ok (v, next)
    → Placed bytes (take_within limits low high (drop at bytes)) v next.at
unfolding within_at
within-was low high bytes at v next e =
    read-was bytes (take_within limits low high (drop at bytes)) v next
    (λ w rest f. tail-trans (number-tail limits (drop at bytes) w rest (within-value limits low high _ w rest f).0) (tail-of-drop at bytes)) e

-- ════ A field, taken by `let .. else` ════

-- The refusal that the arm returns is the one that the field was refused by.
pub field-refused : (low high : ℕ) (bytes : List ℕ) (at : ℕ) (n : Result (ℕ × Cursor) Refusal) (r : Refusal) → n ≡ within_at low high bytes at
    → n ≡ Err r → take_within limits low high (drop at bytes) ≡ refused r
unfolding within_at
field-refused low high bytes at n r e f = read-was-refused bytes _ r (sym e ∙ f)

-- The value that the pattern binds lies in its range, and the next field begins at the next cursor.
pub record Field (low high : ℕ) (bytes : List ℕ) (at v next : ℕ) : Type 0 where
  pub took : take_within limits low high (drop at bytes) ≡ value v (drop next bytes)
  pub inside : next ≤ length bytes
  pub above : low ≤ v
  pub below : v ≤ high

pub field-was : (low high : ℕ) (bytes : List ℕ) (at : ℕ) (n : Result (ℕ × Cursor) Refusal) (v : ℕ) (next : Cursor) → n ≡ within_at low high bytes at
    → n ≡ Ok (v, next) → Field low high bytes at v next.at
field-was low high bytes at n v next e f =
    let was = within-was low high bytes at v next (sym e ∙ f) in
    let range = within-value limits low high (drop at bytes) v _ was.took in
    record { took = was.took; inside = was.inside; above = range.1; below = range.2 }
