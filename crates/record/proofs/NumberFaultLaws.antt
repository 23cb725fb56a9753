-- A number is refused for what document 01 says is wrong with it, and for nothing else.
-- Assumes nothing.
use mathlib.Core.Path.{◌≡◌, refl, sym, ◌∙◌, ap}
use mathlib.Core.Logic.{◌⊎◌, inl, inr, ⊎_elim}
use mathlib.Core.Bool.{Bool, true, false, cond, ◌||◌, true≢false}
use mathlib.Core.List.{List, [], ◌∷◌, ◌++◌}
use Prim.Native.Nat.{ℕ, zero, suc, ◌+◌, ◌-◌, ◌*◌, ◌<◌, ◌≤◌}
use native.Mathlib.Nat.{not-suc-le-zero}
use native.Mathlib.Omega.{arith}
use lib.Dec.{leb, ltb}
use lib.ListN.{length}
use borrow.Author.Tests.{ltb-false, leb-true, le-leb}
use Rattle.farm.specs.Limits.{Limits}
use Rattle.farm.specs.declared.refusals.Refusal.{Refusal}
use Rattle.farm.specs.declared.refusals.Refusal.TheVariants.{EndsEarly, BadForm}
use Rattle.farm.proofs.Cases.{and_intro, and-elim, or-none}
use Rattle.record.specs.Taking.{Taken, value, refused, when}
use Rattle.record.specs.Numbers.{last_group, with_group, take_groups, take_number}
use Rattle.record.specs.Faults.{continued, NumberFault, ends_early, too_long, not_shortest}
use Rattle.record.specs.Widths.{Wide}
use Rattle.record.proofs.TakingLaws.{value-not-refused}
use Rattle.record.proofs.NumberLaws.{take_last, take_more, take-too-long}
use Rattle.record.proofs.RefusalLaws.{when-refused}

-- The same from the middle of a number on, with `more` bytes allowed before the last one.
data GroupFault (more : ℕ) (first : Bool) (bytes : List ℕ) : Refusal → Type 0 where
  ends : continued bytes ≡ true → length bytes ≤ more → GroupFault more first bytes EndsEarly
  long : (front rest : List ℕ) → front ++ rest ≡ bytes → continued front ≡ true → length front ≡ suc more → GroupFault more first bytes BadForm
  loose : (front rest : List ℕ) → front ++ 0 ∷ rest ≡ bytes → continued front ≡ true → (first ≡ true → 0 < length front) → length front ≤ more
      → GroupFault more first bytes BadForm

with-group-refused : (b : ℕ) (t : Taken ℕ) (r : Refusal) → with_group b t ≡ refused r → t ≡ refused r
unfolding with_group
with-group-refused b (value v rest) r e = absurd (value-not-refused (b - 128 + 128 * v) rest r e)
with-group-refused b (refused s) r e = ap refused (cc)

-- ════ A refusal has its fault ════

last-fault : (more : ℕ) (first : Bool) (b : ℕ) (rest : List ℕ) (r : Refusal) → last_group first b rest ≡ refused r → GroupFault more first (b ∷ rest) r
unfolding last_group continued
last-fault more first b rest r e =
    ⊎_elim
    (λ x.
    let none = or-none first (ltb 0 b) x.0 in
    let low = ltb-false 0 b none.1 in
    let nought : 0 ≡ b = omega arith in
    let same = x.1 in
    let not_first = none.0 in
    rw (← same)
    (loose [] rest (ap (λ (c : ℕ). c ∷ rest) nought) refl (λ t. absurd (true≢false (sym t ∙ not_first))) (omega arith)))
    (λ x. absurd (value-not-refused b rest r x.1))
    (when-refused (first || ltb 0 b) BadForm (value b rest) r e)

-- One byte more in front, with its top bit set.
more-fault : (more : ℕ) (first : Bool) (b : ℕ) (bytes : List ℕ) {r : Refusal} → 128 ≤ b → GroupFault more false bytes r
    → GroupFault (suc more) first (b ∷ bytes) r
unfolding continued
more-fault more first b bytes h (ends c l) = ends (and_intro _ _ (le-leb 128 b h) c) (omega arith)
more-fault more first b bytes h (long front rest e c l) =
    long (b ∷ front) rest (ap (λ (m : List ℕ). b ∷ m) e) (and_intro _ _ (le-leb 128 b h) c) (omega arith)
more-fault more first b bytes h (loose front rest e c s l) =
    loose (b ∷ front) rest (ap (λ (m : List ℕ). b ∷ m) e) (and_intro _ _ (le-leb 128 b h) c) (λ t. omega arith) (omega arith)

refused-groups : (more : ℕ) (first : Bool) (bytes : List ℕ) (r : Refusal) → take_groups more first bytes ≡ refused r → GroupFault more first bytes r
unfolding take_groups continued
refused-groups more first [] r e = let same : EndsEarly ≡ r = cc in rw (← same) (ends refl (omega arith))
refused-groups zero first (b ∷ rest) r e = by (when-refused (ltb b 128) BadForm (last_group first b rest) r e)
  where
    by : ((ltb b 128 ≡ false) × (BadForm ≡ r)) ⊎ ((ltb b 128 ≡ true) × (last_group first b rest ≡ refused r)) → GroupFault zero first (b ∷ rest) r
    by (inl x) = let same = x.1 in rw (← same) (long (b ∷ []) rest refl (and_intro _ _ (le-leb 128 b (ltb-false b 128 x.0)) refl) refl)
    by (inr x) = last-fault zero first b rest r x.1
refused-groups (suc more) first (b ∷ rest) r e = by (ltb b 128) refl e (refused-groups more false rest r)
  where
    by : (t : Bool) → ltb b 128 ≡ t → cond t (last_group first b rest) (with_group b (take_groups more false rest)) ≡ refused r
        → (take_groups more false rest ≡ refused r → GroupFault more false rest r) → GroupFault (suc more) first (b ∷ rest) r
    by true l f below = last-fault (suc more) first b rest r f
    by false l f below = more-fault more first b rest (ltb-false b 128 l) (below (with-group-refused b (take_groups more false rest) r f))

-- ════ A fault is refused ════

continued-refused : (more : ℕ) (first : Bool) (bytes : List ℕ) → continued bytes ≡ true → length bytes ≤ more
    → take_groups more first bytes ≡ refused EndsEarly
unfolding continued with_group
continued-refused more first [] c l = unfold take_groups in refl
continued-refused zero first (b ∷ bytes) c l = absurd (not-suc-le-zero l)
continued-refused (suc more) first (b ∷ bytes) c l =
    let x = and-elim (leb 128 b) (continued bytes) c in
    take_more more first b bytes (leb-true 128 b x.0) ∙ ap (with_group b) (continued-refused more false bytes x.1 (omega arith))

long-refused : (more : ℕ) (first : Bool) (front rest : List ℕ) → continued front ≡ true → length front ≡ suc more
    → take_groups more first (front ++ rest) ≡ refused BadForm
unfolding continued with_group
long-refused more first [] rest c l = absurd (omega arith)
long-refused zero first (b ∷ front) rest c l =
    let x = and-elim (leb 128 b) (continued front) c in
    take-too-long first b (front ++ rest) (leb-true 128 b x.0)
long-refused (suc more) first (b ∷ front) rest c l =
    let x = and-elim (leb 128 b) (continued front) c in
    take_more more first b (front ++ rest) (leb-true 128 b x.0) ∙ ap (with_group b) (long-refused more false front rest x.1 (omega arith))

loose-refused : (more : ℕ) (first : Bool) (front rest : List ℕ) → continued front ≡ true → (first ≡ true → 0 < length front)
    → length front ≤ more → take_groups more first (front ++ 0 ∷ rest) ≡ refused BadForm
unfolding continued with_group
loose-refused more true [] rest c s l = absurd (not-suc-le-zero (s refl))
loose-refused more false [] rest c s l = take_last more false 0 rest (omega arith) ∙ (unfold last_group when in refl)
loose-refused zero first (b ∷ front) rest c s l = absurd (not-suc-le-zero l)
loose-refused (suc more) first (b ∷ front) rest c s l =
    let x = and-elim (leb 128 b) (continued front) c in
    take_more more first b (front ++ 0 ∷ rest) (leb-true 128 b x.0)
    ∙ ap (with_group b) (loose-refused more false front rest x.1 (λ t. absurd (true≢false (sym t))) (omega arith))

-- ════ Whole numbers ════

module _ (L : Limits) (wide : Wide L) (bytes : List ℕ) where
  pub refused-number-fault : (r : Refusal) → take_number L bytes ≡ refused r → NumberFault L bytes r
  unfolding take_number
  refused-number-fault r e = by (refused-groups (L.longest_number - 1) true bytes r e)
    where
      by : {s : Refusal} → GroupFault (L.longest_number - 1) true bytes s → NumberFault L bytes s
      by (ends c l) = let some = wide.some_byte in ends_early c (omega arith)
      by (long front rest w c l) = let some = wide.some_byte in too_long front rest w c (omega arith)
      by (loose front rest w c s l) = let some = wide.some_byte in not_shortest front rest w c (s refl) (omega arith)

  pub number-fault-refused : {r : Refusal} → NumberFault L bytes r → take_number L bytes ≡ refused r
  unfolding take_number
  number-fault-refused (ends_early c l) = let some = wide.some_byte in continued-refused (L.longest_number - 1) true bytes c (omega arith)
  number-fault-refused (too_long front rest w c l) =
      let some = wide.some_byte in
      rw (← w) (long-refused (L.longest_number - 1) true front rest c (omega arith))
  number-fault-refused (not_shortest front rest w c s l) =
      let some = wide.some_byte in
      rw (← w) (loose-refused (L.longest_number - 1) true front rest c (λ t. s) (omega arith))
