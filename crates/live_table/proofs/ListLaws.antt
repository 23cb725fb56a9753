-- Lists that grow behind their used part.
-- Assumes nothing.
use mathlib.Core.Path.{◌≡◌, refl, sym, ◌∙◌, ap}
use mathlib.Core.List.{List, [], ◌∷◌, ◌++◌, append_assoc}
use Prim.Native.Nat.{ℕ, ◌+◌, ◌≤◌, ◌<◌}
use native.Mathlib.Nat.{suc-ne-zero}
use native.Mathlib.Omega.{arith}
use lib.IntN.{ℤ}
use lib.ListN.{length, take, drop, set, length-append, length-take}
use lib.Seq.{take_at}
use Rattle.record.specs.Tables.{over, edit_of, edits_from}
use Rattle.record.proofs.TableLaws.{over_none, over_first}

-- The used part afterwards is the old one with the new entries.
pub used_over : {A : Type 0} (used more : ℕ) (new old : List A) → length (take used old) ≡ used → used + length new ≡ more
    → take more (over used new old) ≡ take used old ++ new
unfolding over
used_over used more new old h e =
    rw (← append_assoc (take used old) new (drop (used + length new) old))
    (take_at (take used old ++ new) (drop (used + length new) old) more (rw (length-append, h) e))

-- Four lists that grow by one entry each hold one edit more.
pub edits-from-append : (seats times cells : List ℕ) (changes : List ℤ) (s t c : ℕ) (d : ℤ)
    → length times ≡ length seats → length cells ≡ length seats → length changes ≡ length seats
    → edits_from (seats ++ (s ∷ [])) (times ++ (t ∷ [])) (cells ++ (c ∷ [])) (changes ++ (d ∷ []))
    ≡ edits_from seats times cells changes ++ (edit_of s t c d ∷ [])
unfolding edits_from
edits-from-append [] [] [] [] s t c d ht hc hd = refl
edits-from-append [] [] [] (y ∷ changes) s t c d ht hc hd = absurd (suc-ne-zero _ hd)
edits-from-append [] [] (x ∷ cells) changes s t c d ht hc hd = absurd (suc-ne-zero _ hc)
edits-from-append [] (x ∷ times) cells changes s t c d ht hc hd = absurd (suc-ne-zero _ ht)
edits-from-append (x ∷ seats) [] cells changes s t c d ht hc hd = absurd (suc-ne-zero _ (sym ht))
edits-from-append (x ∷ seats) (y ∷ times) [] changes s t c d ht hc hd = absurd (suc-ne-zero _ (sym hc))
edits-from-append (x ∷ seats) (y ∷ times) (z ∷ cells) [] s t c d ht hc hd = absurd (suc-ne-zero _ (sym hd))
edits-from-append (x ∷ seats) (y ∷ times) (z ∷ cells) (w ∷ changes) s t c d ht hc hd =
    ap (◌∷◌ (edit_of x y z w)) (edits-from-append seats times cells changes s t c d (omega arith) (omega arith) (omega arith))

-- The four lists have at least as many entries as there are edits.
record Covered (count : ℕ) (a b c : List ℕ) (d : List ℤ) : Type 0 where
  pub seats : count ≤ length a
  pub times : count ≤ length b
  pub cells : count ≤ length c
  pub changes : count ≤ length d

edits-from-covered : (seats times cells : List ℕ) (changes : List ℤ)
    → Covered (length (edits_from seats times cells changes)) seats times cells changes
unfolding edits_from
edits-from-covered [] times cells changes = omega arith
edits-from-covered (x ∷ seats) [] cells changes = omega arith
edits-from-covered (x ∷ seats) (y ∷ times) [] changes = omega arith
edits-from-covered (x ∷ seats) (y ∷ times) (z ∷ cells) [] = omega arith
edits-from-covered (x ∷ seats) (y ∷ times) (z ∷ cells) (w ∷ changes) =
    let rest = edits-from-covered seats times cells changes in omega arith

-- Lists that are cut to so many entries, and hold so many edits, are that long.
pub record Full (count : ℕ) (a b c : List ℕ) (d : List ℤ) : Type 0 where
  pub seats : length a ≡ count
  pub times : length b ≡ count
  pub cells : length c ≡ count
  pub changes : length d ≡ count

pub cut-full : (E : ℕ) (a b c : List ℕ) (d : List ℤ) → length (edits_from (take E a) (take E b) (take E c) (take E d)) ≡ E
    → Full E (take E a) (take E b) (take E c) (take E d)
cut-full E a b c d h =
    let k = edits-from-covered (take E a) (take E b) (take E c) (take E d) in
    record { seats = whole a (omega arith); times = whole b (omega arith); cells = whole c (omega arith); changes = whole d (omega arith) }
  where
    whole : {A : Type 0} (l : List A) → E ≤ length (take E l) → length (take E l) ≡ E
    whole l g = let e = length-take E l in omega arith

-- One entry put by itself.
pub over-one : {A : Type 0} (at : ℕ) (x : A) (old : List A) → at < length old → set old at x ≡ over at (x ∷ []) old
over-one at x old h = sym (over_first at x [] old h ∙ over_none (at + 1) (set old at x))
