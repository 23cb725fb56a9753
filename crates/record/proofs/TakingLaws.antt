-- How taking one thing after the other comes apart: where the whole gives a value, every part gave one.
-- Assumes nothing.
use mathlib.Core.Path.{◌≡◌, refl, sym, ◌∙◌, ap}
use mathlib.Core.Bool.{Bool, true, false}
use mathlib.Core.List.{List, [], ◌∷◌, ◌++◌, append_assoc}
use Prim.Native.Nat.{ℕ, ◌-◌, ◌≤◌}
use native.Mathlib.Omega.{arith}
use lib.ListN.{length, take, drop, length-append, take-append-drop}
use lib.Seq.{drop-append_seam}
use Rattle.farm.specs.declared.refusals.Refusal.{Refusal}
use Rattle.record.specs.Taking.{Taken, value, refused, ◌>>=◌, when}

-- ════ A value comes from values ════

pub value-not-refused : {A : Type 0} (a : A) (rest : List ℕ) (r : Refusal) → value a rest ≡ refused r → ⊥
value-not-refused a rest r e = let z : ◌≡◌ {A = ℕ} 0 1 = cc in omega arith

pub bind-value : {A B : Type 0} (t : Taken A) (next : A × List ℕ → Taken B) (b : B) (end : List ℕ)
    → (t >>= next) ≡ value b end → (a : A) × (rest : List ℕ) × (t ≡ value a rest) × (next (a, rest) ≡ value b end)
unfolding ◌>>=◌
bind-value (value a rest) next b end e = (a, rest, refl, e)
bind-value (refused r) next b end e = absurd (value-not-refused b end r (sym e))

pub when-value : {A : Type 0} (test : Bool) (r : Refusal) (t : Taken A) (a : A) (rest : List ℕ)
    → when test r t ≡ value a rest → (test ≡ true) × (t ≡ value a rest)
unfolding when
when-value true r t a rest e = (refl, e)
when-value false r t a rest e = absurd (value-not-refused a rest r (sym e))

-- ════ Tails: what is left is the end of what there was ════

pub record Tail (rest bytes : List ℕ) : Type 0 where
  pub front : List ℕ
  pub joined : front ++ rest ≡ bytes

pub tail_all : (bytes : List ℕ) → Tail bytes bytes
tail_all bytes = record { front = []; joined = refl }

pub tail-cons : (b : ℕ) {rest bytes : List ℕ} → Tail rest bytes → Tail rest (b ∷ bytes)
tail-cons b t = record { front = b ∷ t.front; joined = ap (λ (l : List ℕ). b ∷ l) t.joined }

pub tail-trans : {a b c : List ℕ} → Tail a b → Tail b c → Tail a c
tail-trans {a} s t = record { front = t.front ++ s.front; joined = append_assoc t.front s.front a ∙ ap (λ (l : List ℕ). t.front ++ l) s.joined ∙ t.joined }

pub tail-short : {rest bytes : List ℕ} → Tail rest bytes → length rest ≤ length bytes
tail-short {rest} {bytes} t = omega (arith, length-append t.front rest, ap length t.joined)

-- Where the rest begins: the length of all less the length of the rest.
pub tail-drop : {rest bytes : List ℕ} → Tail rest bytes → drop (length bytes - length rest) bytes ≡ rest
tail-drop {rest} {bytes} t = ap (λ (l : List ℕ). drop (length l - length rest) l) (sym t.joined) ∙ ap (λ (k : ℕ). drop k (t.front ++ rest)) front_length ∙ drop-append_seam t.front rest
  where
    front_length : length (t.front ++ rest) - length rest ≡ length t.front
    front_length = omega (arith, length-append t.front rest)

pub tail-of-drop : (k : ℕ) (bytes : List ℕ) → Tail (drop k bytes) bytes
tail-of-drop k bytes = record { front = take k bytes; joined = take-append-drop k bytes }
