-- A lent buffer that is filled from the front.
-- Assumes nothing.
use mathlib.Core.Path.{◌≡◌, sym, ◌∙◌, ap, ap₂}
use mathlib.Core.List.{List, ◌∷◌, ◌++◌}
use Prim.Native.Nat.{ℕ, suc, ◌+◌, ◌<◌}
use native.Mathlib.Numerals.{add-one}
use native.Mathlib.Omega.{arith}
use lib.ListN.{length, take, drop, get_or, set}
use lib.Seq.{length-take-le, take-suc, take_all, drop-cons, drop-set-lt, set_at, append_snoc}
use Rattle.std.proofs.lemmas.List.{take_more_set}
use Rattle.telling.specs.Laid.{laid}

-- A buffer whose first i entries are new.
abbrev pub laid_to : {A : Type 0} → ℕ → (new old : List A) → List A
laid_to i new old = take i new ++ drop i old

-- A turn of a loop that fills it.
pub laid-turn : {A : Type 0} (i : ℕ) (new old now : List A) (x d : A) → i < length new → i < length old
    → now ≡ laid_to i new old → x ≡ get_or new i d → set now i x ≡ laid_to (i + 1) new old
laid-turn i new old now x d a b e ex =
    ap (λ (l : List _). set l i x) (e ∙ ap (λ (l : List _). take i new ++ l) (drop-cons old i d b))
    ∙ set_at (take i new) (get_or old i d) (drop (suc i) old) x i (length-take-le i new (omega arith))
    ∙ sym (append_snoc (take i new) x (drop (suc i) old))
    ∙ (rw (ex, add-one) (ap (λ (l : List _). l ++ drop (suc i) old) (sym (take-suc new i d a))))

pub laid-whole : {A : Type 0} (i : ℕ) (new old now : List A) → length new ≡ i → now ≡ laid_to i new old → now ≡ laid new old
laid-whole i new old now e en =
    en ∙ ap₂ (λ (k l : List _). k ++ l) (take_all i new (omega arith)) (ap (λ (m : ℕ). drop m old) (sym e))

-- The entry that is put into place i is the first of those that are left to lay.
pub laid-one : {A : Type 0} (i : ℕ) (left now : List A) (x : A) → i < length now
    → take (i + 1) (set now i x) ++ laid left (drop (i + 1) (set now i x)) ≡ take i now ++ laid (x ∷ left) (drop i now)
laid-one i left now x h =
    rw (take_more_set now i x h, drop-set-lt (i + 1) now i x (omega arith), drop-cons now i x h, add-one) (append_snoc (take i now) x _)
