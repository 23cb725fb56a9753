-- Arrays of counts: lists filled in from the front, and what stands where.
-- Assumes nothing.
use mathlib.Core.Path.{◌≡◌, refl, sym, ◌∙◌}
use mathlib.Core.Logic.{◌⊎◌, inl, inr, ⊎_elim, ◌≢◌}
use mathlib.Core.List.{List, [], ◌∷◌, ◌++◌}
use Prim.Native.Nat.{ℕ, zero, suc, ◌≤◌, ◌<◌}
use native.Mathlib.Nat.{not-suc-le-zero, eq-or-lt_of_le}
use native.Mathlib.Omega.{arith}
use lib.ListN.{length, get_or, set, replicate, length-append, length-set, length-replicate, get_or-replicate, get_or-append, get_or-eq_default}
use lib.Seq.{get_or-set_same, get_or-set_other, ext_get_or, get_or_at}
use borrow.Author.Tests.{lt-ltb, le-ltb}
use Rattle.farm.proofs.Cases.{less-or-not, equal_or_not}
use Rattle.viewing.specs.Counts.{tabulate, below, filled}

-- ════ Tabulated lists ════

pub length-tabulate : (m : ℕ) (f : ℕ → ℕ) → length (tabulate m f) ≡ m
unfolding tabulate
length-tabulate zero f = refl
length-tabulate (suc m) f = length-append (tabulate m f) (f m ∷ []) ∙ (rw (length-tabulate m f) (omega arith))

pub get_d_tabulate : (m : ℕ) (f : ℕ → ℕ) (i : ℕ) → i < m → get_or (tabulate m f) i 0 ≡ f i
unfolding tabulate
get_d_tabulate zero f i h = absurd (not-suc-le-zero h)
get_d_tabulate (suc m) f i h = by (get_d_tabulate m f i) (eq-or-lt_of_le h)
  where
    by : (i < m → get_or (tabulate m f) i 0 ≡ f i) → (suc i ≡ suc m) ⊎ (suc i < suc m) → get_or (tabulate m f ++ (f m ∷ [])) i 0 ≡ f i
    by before (inl e) =
        let same : i ≡ m = omega arith in
        rw same (get_or_at (tabulate m f) (f m) [] 0 m (length-tabulate m f))
    by before (inr l) =
        let short : i < m = omega arith in
        let here : i < length (tabulate m f) = rw (length-tabulate m f) short in
        get_or-append (tabulate m f) (f m ∷ []) 0 i here ∙ before short

pub get_d_past : (m : ℕ) (f : ℕ → ℕ) (i : ℕ) → m ≤ i → get_or (tabulate m f) i 0 ≡ 0
get_d_past m f i h = get_or-eq_default (tabulate m f) 0 (rw (length-tabulate m f) h)

-- A list is tabulated by whatever gives each of its entries.
pub is-tabulated : (m : ℕ) (f : ℕ → ℕ) (l : List ℕ) → length l ≡ m → ((i : ℕ) → i < m → get_or l i 0 ≡ f i) → l ≡ tabulate m f
is-tabulated m f l e h =
    ext_get_or 0 l (tabulate m f) (e ∙ sym (length-tabulate m f))
    (λ i g. let short : i < m = rw e at g in h i short ∙ sym (get_d_tabulate m f i short))

pub tabulate-equal : (m : ℕ) (f g : ℕ → ℕ) → ((i : ℕ) → i < m → f i ≡ g i) → tabulate m f ≡ tabulate m g
tabulate-equal m f g h = is-tabulated m g (tabulate m f) (length-tabulate m f) (λ i l. get_d_tabulate m f i l ∙ h i l)

-- ════ Filled from the front ════

pub below_in : (bound : ℕ) (f : ℕ → ℕ) (i : ℕ) → i < bound → below bound f i ≡ f i
unfolding below
below_in bound f i h = rw (lt-ltb i bound h)

pub below_out : (bound : ℕ) (f : ℕ → ℕ) (i : ℕ) → bound ≤ i → below bound f i ≡ 0
unfolding below
below_out bound f i h = rw (le-ltb i bound h)

pub length-filled : (m i : ℕ) (f : ℕ → ℕ) → length (filled m i f) ≡ m
unfolding filled
length-filled m i f = length-tabulate m (below i f)

pub filled_none : (m : ℕ) (f : ℕ → ℕ) → replicate m 0 ≡ filled m 0 f
unfolding filled
filled_none m f =
    is-tabulated m (below 0 f) (replicate m 0) (length-replicate m 0)
    (λ i h. get_or-replicate m i 0 0 h ∙ sym (below_out 0 f i (omega arith)))

-- Two fillings that agree below both of their ends, and are 0 between the ends.
pub filled-equal : (m i k : ℕ) (f g : ℕ → ℕ) → ((j : ℕ) → j < m → below i f j ≡ below k g j) → filled m i f ≡ filled m k g
unfolding filled
filled-equal m i k f g h = tabulate-equal m (below i f) (below k g) h

pub filled_more : (m i : ℕ) (f : ℕ → ℕ) (x : ℕ) → i < m → x ≡ f i → set (filled m i f) i x ≡ filled m (suc i) f
unfolding filled
filled_more m i f x h e =
    is-tabulated m (below (suc i) f) (set (tabulate m (below i f)) i x) (length-set (tabulate m (below i f)) i x ∙ length-tabulate m (below i f))
    (λ j g. by j g (equal_or_not j i))
  where
    here : i < length (tabulate m (below i f))
    here = rw (length-tabulate m (below i f)) h

    kept : (j : ℕ) → j < m → j ≢ i → below i f j ≡ below (suc i) f j
    kept j g d =
        ⊎_elim (λ l. below_in i f j l ∙ sym (below_in (suc i) f j (omega arith)))
        (λ l. below_out i f j l ∙ sym (below_out (suc i) f j (⊎_elim (λ same. absurd (d (sym same))) (λ more. more) (eq-or-lt_of_le l))))
        (less-or-not j i)

    by : (j : ℕ) → j < m → (j ≡ i) ⊎ (j ≢ i) → get_or (set (tabulate m (below i f)) i x) j 0 ≡ below (suc i) f j
    by j g (inl same) = rw same (get_or-set_same (tabulate m (below i f)) i x 0 here ∙ e ∙ sym (below_in (suc i) f i (omega arith)))
    by j g (inr other) = get_or-set_other (tabulate m (below i f)) i j x 0 other ∙ get_d_tabulate m (below i f) j g ∙ kept j g other

-- Entries that are 0 need no filling in.
pub filled-skip : (m i k : ℕ) (f : ℕ → ℕ) → i ≤ k → ((j : ℕ) → i ≤ j → j < k → f j ≡ 0) → filled m i f ≡ filled m k f
filled-skip m i k f h zeros = filled-equal m i k f f (λ j g. by j (less-or-not j i) (less-or-not j k))
  where
    by : (j : ℕ) → (j < i) ⊎ (i ≤ j) → (j < k) ⊎ (k ≤ j) → below i f j ≡ below k f j
    by j (inl a) b = below_in i f j a ∙ sym (below_in k f j (omega arith))
    by j (inr a) (inl b) = below_out i f j a ∙ sym (below_in k f j b ∙ zeros j a b)
    by j (inr a) (inr b) = below_out i f j a ∙ sym (below_out k f j b)

pub get_or-filled : (m i : ℕ) (f : ℕ → ℕ) (j : ℕ) → j < m → get_or (filled m i f) j 0 ≡ below i f j
unfolding filled
get_or-filled m i f j h = get_d_tabulate m (below i f) j h
