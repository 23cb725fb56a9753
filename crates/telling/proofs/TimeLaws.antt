-- Views as they are given: latest times out of counts.
-- Assumes nothing.
use mathlib.Core.Path.{◌≡◌, refl, ◌∙◌, ap₂}
use mathlib.Core.Logic.{◌⊎◌, inl, inr, ⊎_elim}
use mathlib.Core.List.{List, [], ◌∷◌, ◌++◌}
use Prim.Native.Nat.{ℕ, zero, suc, ◌^◌, ◌<◌, ◌≤◌}
use native.Mathlib.Nat.{not-suc-le-zero, eq-or-lt_of_le}
use native.Mathlib.Omega.{arith}
use lib.IntN.{ℤ}
use lib.ListN.{length, get_or, length-append, get_or-append}
use lib.Seq.{get_or_at}
use mir.Syntax.{w16}
use mir.Val.{SFits, to_z, of_z}
use mir.ValLaws.{to_z-of_z}
use Rattle.farm.proofs.Cases.{less-or-not}
use Rattle.knowledge.specs.Views.{View, latest, latest_times}
use Rattle.viewing.specs.Counts.{counts, held, below, filled}
use Rattle.viewing.proofs.CountLaws.{get_or-filled, below_in, below_out, length-filled, get_d_past}
use Rattle.viewing.proofs.ViewSteps.{held-counts}

-- ════ One latest time ════

latest-fits : (count : ℕ) → count ≤ 2 ^ 15 → SFits w16 (latest count)
latest-fits zero h = record { sfits = omega arith }
latest-fits (suc count) h = record { sfits = omega arith }

-- A latest time that was put into a buffer.
pub time-kept : (count : ℕ) (r : ℤ) → count < 2 ^ 15 → r ≡ latest count → to_z w16 (of_z w16 r) ≡ latest count
time-kept count r h e = rw e (to_z-of_z w16 (latest count) (latest-fits count (omega arith)))

-- ════ The latest times of a view ════

pub length-times : (n : ℕ) (v : View) → length (latest_times n v) ≡ n
unfolding latest_times
length-times zero v = refl
length-times (suc n) v = length-append (latest_times n v) (latest (v n) ∷ []) ∙ (rw (length-times n v) (omega arith))

pub get_or-times : (n : ℕ) (v : View) (i : ℕ) (d : ℤ) → i < n → get_or (latest_times n v) i d ≡ latest (v i)
unfolding latest_times
get_or-times zero v i d h = absurd (not-suc-le-zero h)
get_or-times (suc n) v i d h = by (get_or-times n v i d) (eq-or-lt_of_le h)
  where
    by : (i < n → get_or (latest_times n v) i d ≡ latest (v i)) → (suc i ≡ suc n) ⊎ (suc i < suc n)
        → get_or (latest_times n v ++ (latest (v n) ∷ [])) i d ≡ latest (v i)
    by before (inl e) =
        let same : i ≡ n = omega arith in
        rw same (get_or_at (latest_times n v) (latest (v n)) [] d n (length-times n v))
    by before (inr l) =
        let short : i < n = omega arith in
        let here : i < length (latest_times n v) = rw (length-times n v) short in
        get_or-append (latest_times n v) (latest (v n) ∷ []) d i here ∙ before short

pub times-equal : (n : ℕ) (v w : View) → ((q : ℕ) → q < n → v q ≡ w q) → latest_times n v ≡ latest_times n w
unfolding latest_times
times-equal zero v w h = refl
times-equal (suc n) v w h =
    ap₂ (λ (l : List ℤ) (c : ℕ). l ++ (latest c ∷ [])) (times-equal n v w (λ q l. h q (omega arith))) (h n (omega arith))

-- ════ Out of an array of counts ════

pub times-held : (n : ℕ) (v : View) (l : List ℕ) → n ≤ 7 → l ≡ counts n v → latest_times n (held l) ≡ latest_times n v
times-held n v l small e = times-equal n (held l) v (λ q h. rw e (held-counts n v q small h))

pub length-counts : (n : ℕ) (v : View) (l : List ℕ) → l ≡ counts n v → length l ≡ 7
unfolding counts
length-counts n v l e = rw e (length-filled 7 n v)

-- What bounds the view bounds every entry of the array.
pub counts-bound : (n : ℕ) (v : View) (l : List ℕ) (k : ℕ) → l ≡ counts n v → ((q : ℕ) → v q ≤ k) → (q : ℕ) → get_or l q 0 ≤ k
unfolding counts filled
counts-bound n v l k e h q = rw e (⊎_elim inside (λ past. rw (get_d_past 7 (below n v) q past) (omega arith)) (less-or-not q 7))
  where
    inside : q < 7 → get_or (filled 7 n v) q 0 ≤ k
    inside g =
        rw (get_or-filled 7 n v q g)
        (⊎_elim (λ i. rw (below_in n v q i) (h q)) (λ o. rw (below_out n v q o) (omega arith)) (less-or-not q n))
