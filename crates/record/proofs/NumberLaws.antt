-- The laws of seven-bit numbers, over any count of bytes: what is written is read back, and what is read was written.
-- Assumes nothing.
use mathlib.Core.Path.{◌≡◌, refl, sym, ◌∙◌, ap, ap₂}
use mathlib.Core.Bool.{Bool, true, false, cond, ◌||◌, ◌&&◌}
use mathlib.Core.List.{List, [], ◌∷◌, ◌++◌}
use Prim.Native.Nat.{ℕ, zero, suc, ◌+◌, ◌-◌, ◌*◌, ◌/◌, ◌%◌, ◌^◌, ◌<◌, ◌≤◌}
use native.Mathlib.Nat.{pow-succ', div-lt_iff_lt-mul, pow-zero, one-le-pow}
use native.Mathlib.Omega.{arith}
use lib.Dec.{leb, ltb, lit<}
use borrow.Author.Tests.{ltb-true, ltb-false, lt-ltb, le-ltb, leb-true, le-leb, lt-leb}
use Rattle.farm.specs.Limits.{Limits}
use Rattle.farm.specs.declared.refusals.Refusal.{Refusal}
use Rattle.farm.specs.declared.refusals.Refusal.TheVariants.{EndsEarly, BadForm, OutOfRange}
use Rattle.farm.proofs.Cases.{or_right, and-elim}
use Rattle.record.specs.Taking.{IsBytes, Taken, value, refused, ◌>>=◌, when}
use Rattle.record.specs.Numbers.{groups_of, number_bytes, last_group, with_group, take_groups, take_number, take_within}
use Rattle.record.proofs.TakingLaws.{value-not-refused, bind-value, when-value, Tail, tail_all, tail-cons}

and-false : (a : Bool) → (a && false) ≡ false
and-false true = refl
and-false false = refl

-- ════ Reading, byte by byte ════

pub last-good : (first : Bool) (b : ℕ) (rest : List ℕ) → (first || ltb 0 b) ≡ true → last_group first b rest ≡ value b rest
unfolding last_group when
last-good first b rest e = rw e

pub take_last : (more : ℕ) (first : Bool) (b : ℕ) (rest : List ℕ) → b < 128 → take_groups more first (b ∷ rest) ≡ last_group first b rest
unfolding take_groups when
take_last zero first b rest h = rw (lt-ltb b 128 h)
take_last (suc more) first b rest h = rw (lt-ltb b 128 h)

pub take_more : (more : ℕ) (first : Bool) (b : ℕ) (rest : List ℕ) → 128 ≤ b
    → take_groups (suc more) first (b ∷ rest) ≡ with_group b (take_groups more false rest)
unfolding take_groups
take_more more first b rest h = rw (le-ltb b 128 h)

pub take-too-long : (first : Bool) (b : ℕ) (rest : List ℕ) → 128 ≤ b → take_groups zero first (b ∷ rest) ≡ refused BadForm
unfolding take_groups when
take-too-long first b rest h = rw (le-ltb b 128 h)

pub with-group-value : (b : ℕ) (t : Taken ℕ) (v : ℕ) (rest : List ℕ) → with_group b t ≡ value v rest
    → (w : ℕ) × (t ≡ value w rest) × (b - 128 + 128 * w ≡ v)
unfolding with_group
with-group-value b (value w end) v rest e = (w, ap (λ (l : List ℕ). value w l) same, (cc))
  where
    same : end ≡ rest
    same = cc
with-group-value b (refused r) v rest e = absurd (value-not-refused v rest r (sym e))

-- ════ What is written is read back ════

pub take-groups-of : (more : ℕ) (first : Bool) (v : ℕ) (rest : List ℕ) → v < 128 ^ suc more → (first || ltb 0 v) ≡ true
    → take_groups more first (groups_of more v ++ rest) ≡ value v rest
unfolding groups_of with_group
take-groups-of zero first v rest h e = take_last zero first v rest (omega arith) ∙ last-good first v rest e
take-groups-of (suc more) first v rest h e = by (ltb v 128) refl (take-groups-of more false (v / 128) rest small)
  where
    small : v / 128 < 128 ^ suc more
    small = (div-lt_iff_lt-mul (lit< tt)).1 (omega (arith, pow-succ' 128 (suc more)))

    by : (t : Bool) → ltb v 128 ≡ t
        → ((false || ltb 0 (v / 128)) ≡ true → take_groups more false (groups_of more (v / 128) ++ rest) ≡ value (v / 128) rest)
        → take_groups (suc more) first (cond t (v ∷ []) ((128 + v % 128) ∷ groups_of more (v / 128)) ++ rest) ≡ value v rest
    by true l below = take_last (suc more) first v rest (ltb-true v 128 l) ∙ last-good first v rest e
    by false l below =
        let large : 128 ≤ v = ltb-false v 128 l in
        take_more more first (128 + v % 128) (groups_of more (v / 128) ++ rest) (omega arith)
        ∙ ap (with_group (128 + v % 128)) (below (lt-ltb 0 (v / 128) (omega arith)))
        ∙ ap (λ (w : ℕ). value w rest) (omega arith)

-- ════ What is read was written ════

pub record Took (more : ℕ) (first : Bool) (bytes : List ℕ) (v : ℕ) (rest : List ℕ) : Type 0 where
  pub fits : v < 128 ^ suc more
  pub shortest : (first || ltb 0 v) ≡ true
  pub written : groups_of more v ++ rest ≡ bytes

-- A number that is read has the shortest form that fits, and the bytes are its groups.
pub took-groups : (more : ℕ) (first : Bool) (bytes : List ℕ) (v : ℕ) (rest : List ℕ) → IsBytes bytes
    → take_groups more first bytes ≡ value v rest → Took more first bytes v rest
unfolding take_groups last_group groups_of
took-groups more first [] v rest h e = absurd (value-not-refused v rest EndsEarly (sym e))
took-groups zero first (b ∷ bytes) v rest h e =
    let w = when-value (ltb b 128) BadForm _ v rest e in
    let x = when-value (first || ltb 0 b) BadForm _ v rest w.1 in
    let same : b ≡ v = cc in
    let ends : bytes ≡ rest = cc in
    record {
      fits = let l = ltb-true b 128 w.0 in omega (arith, pow-succ' 128 0, pow-zero 128);
      shortest = rw same at x.0;
      written = ap₂ (λ (a : ℕ) (l : List ℕ). a ∷ l) (sym same) (sym ends);
    }
took-groups (suc more) first (b ∷ bytes) v rest h e =
    by (ltb b 128) refl e (λ w. took-groups more false bytes w rest (λ i. h (suc i)))
  where
    by : (t : Bool) → ltb b 128 ≡ t → cond t (last_group first b bytes) (with_group b (take_groups more false bytes)) ≡ value v rest
        → ((w : ℕ) → take_groups more false bytes ≡ value w rest → Took more false bytes w rest)
        → Took (suc more) first (b ∷ bytes) v rest
    by true l f below =
        let x = when-value (first || ltb 0 b) BadForm _ v rest f in
        let same : b ≡ v = cc in
        let ends : bytes ≡ rest = cc in
        let small = ltb-true b 128 l in
        let power = one-le-pow (suc more) 128 (lit< tt) in
        record {
          fits = omega (arith, pow-succ' 128 (suc more));
          shortest = rw same at x.0;
          written = rw (lt-ltb v 128 (omega arith)) (ap₂ (λ (a : ℕ) (m : List ℕ). a ∷ m) (sym same) (sym ends));
        }
    by false l f below =
        let x = with-group-value b (take_groups more false bytes) v rest f in
        let t = below x.0 x.1 in
        let large = ltb-false b 128 l in
        let wide : b < 256 = h 0 in
        let more-than : 0 < x.0 = ltb-true 0 x.0 t.shortest in
        let sum = x.2 in
        let head : 128 + v % 128 ≡ b = omega arith in
        let tail : v / 128 ≡ x.0 = omega arith in
        record {
          fits = let lower = t.fits in omega (arith, pow-succ' 128 (suc more));
          shortest = or_right first (ltb 0 v) (lt-ltb 0 v (omega arith));
          written =
              rw (le-ltb v 128 (omega arith))
              (ap₂ (λ (a : ℕ) (m : List ℕ). a ∷ m) head (ap (λ (w : ℕ). groups_of more w ++ rest) tail ∙ t.written));
        }

-- ════ Tails ════

with-group-tail : (b : ℕ) (t : Taken ℕ) (v : ℕ) (rest bytes : List ℕ)
    → ((w : ℕ) → t ≡ value w rest → Tail rest bytes) → with_group b t ≡ value v rest → Tail rest (b ∷ bytes)
with-group-tail b t v rest bytes f e = let x = with-group-value b t v rest e in tail-cons b (f x.0 x.1)

last-group-tail : (first : Bool) (b v : ℕ) (bytes rest : List ℕ) → last_group first b bytes ≡ value v rest → Tail rest (b ∷ bytes)
unfolding last_group
last-group-tail first b v bytes rest e =
    let x = when-value (first || ltb 0 b) BadForm _ v rest e in
    let ends : bytes ≡ rest = cc in
    rw (← ends) (tail-cons b (tail_all bytes))

pub groups-tail : (more : ℕ) (first : Bool) (bytes : List ℕ) (v : ℕ) (rest : List ℕ)
    → take_groups more first bytes ≡ value v rest → Tail rest bytes
unfolding take_groups
groups-tail more first [] v rest e = absurd (value-not-refused v rest EndsEarly (sym e))
groups-tail zero first (b ∷ bytes) v rest e = last-group-tail first b v bytes rest (when-value (ltb b 128) BadForm _ v rest e).1
groups-tail (suc more) first (b ∷ bytes) v rest e =
    by (ltb b 128) e (λ w. groups-tail more false bytes w rest)
  where
    by : (t : Bool) → cond t (last_group first b bytes) (with_group b (take_groups more false bytes)) ≡ value v rest
        → ((w : ℕ) → take_groups more false bytes ≡ value w rest → Tail rest bytes) → Tail rest (b ∷ bytes)
    by true f below = last-group-tail first b v bytes rest f
    by false f below = with-group-tail b (take_groups more false bytes) v rest bytes below f

-- ════ Whole numbers ════

module _ (L : Limits) where
  pub number-tail : (bytes : List ℕ) (v : ℕ) (rest : List ℕ) → take_number L bytes ≡ value v rest → Tail rest bytes
  unfolding take_number
  number-tail bytes v rest e = groups-tail (L.longest_number - 1) true bytes v rest e

  -- What fits the longest form is written and read back.
  pub take-number-bytes : (v : ℕ) (rest : List ℕ) → v < 128 ^ suc (L.longest_number - 1)
      → take_number L (number_bytes L v ++ rest) ≡ value v rest
  unfolding take_number number_bytes
  take-number-bytes v rest h = take-groups-of (L.longest_number - 1) true v rest h refl

  pub took_number : (bytes : List ℕ) (v : ℕ) (rest : List ℕ) → IsBytes bytes → take_number L bytes ≡ value v rest
      → (v < 128 ^ suc (L.longest_number - 1)) × (number_bytes L v ++ rest ≡ bytes)
  unfolding take_number number_bytes
  took_number bytes v rest h e = let t = took-groups (L.longest_number - 1) true bytes v rest h e in (t.fits, t.written)

  pub within-value : (low high : ℕ) (bytes : List ℕ) (v : ℕ) (rest : List ℕ) → take_within L low high bytes ≡ value v rest
      → (take_number L bytes ≡ value v rest) × (low ≤ v) × (v ≤ high)
  unfolding take_within
  within-value low high bytes v rest e =
      let x = bind-value (take_number L bytes) _ v rest e in
      let y = when-value (leb low x.0 && leb x.0 high) OutOfRange _ v rest x.3 in
      let t = and-elim (leb low x.0) (leb x.0 high) y.0 in
      let same : x.0 ≡ v = cc in
      let ends : x.1 ≡ rest = cc in
      let l = leb-true low x.0 t.0 in
      let g = leb-true x.0 high t.1 in
      (x.2 ∙ ap₂ (λ (a : ℕ) (m : List ℕ). value a m) same ends, rw same at l, rw same at g)

  pub within-good : (low high : ℕ) (bytes : List ℕ) (v : ℕ) (rest : List ℕ) → take_number L bytes ≡ value v rest
      → low ≤ v → v ≤ high → take_within L low high bytes ≡ value v rest
  unfolding take_within ◌>>=◌ when
  within-good low high bytes v rest e l h = rw (e, le-leb low v l, le-leb v high h)

  pub within-refused : (low high : ℕ) (bytes : List ℕ) (r : Refusal) → take_number L bytes ≡ refused r
      → take_within L low high bytes ≡ refused r
  unfolding take_within ◌>>=◌
  within-refused low high bytes r e = rw e

  pub within-below : (low high : ℕ) (bytes : List ℕ) (v : ℕ) (rest : List ℕ) → take_number L bytes ≡ value v rest
      → v < low → take_within L low high bytes ≡ refused OutOfRange
  unfolding take_within ◌>>=◌ when
  within-below low high bytes v rest e l = rw (e, lt-leb low v l)

  pub within-above : (low high : ℕ) (bytes : List ℕ) (v : ℕ) (rest : List ℕ) → take_number L bytes ≡ value v rest
      → high < v → take_within L low high bytes ≡ refused OutOfRange
  unfolding take_within ◌>>=◌ when
  within-above low high bytes v rest e l = rw (e, lt-leb v high l, and-false (leb low v))

  pub within-tail : (low high : ℕ) (bytes : List ℕ) (v : ℕ) (rest : List ℕ) → take_within L low high bytes ≡ value v rest → Tail rest bytes
  within-tail low high bytes v rest e = number-tail bytes v rest (within-value low high bytes v rest e).0
