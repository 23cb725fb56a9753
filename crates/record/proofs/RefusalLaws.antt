-- Where a refusal comes from: the part that was taken first, or what came after it.
-- Assumes nothing.
use mathlib.Core.Path.{◌≡◌, refl, ap}
use mathlib.Core.Logic.{◌⊎◌, inl, inr}
use mathlib.Core.Bool.{Bool, true, false}
use mathlib.Core.List.{List}
use Prim.Native.Nat.{ℕ}
use Rattle.std.specs.Prelude.{Result, Ok, Err}
use Rattle.std.specs.Result.{IsErrAnd}
use Rattle.farm.specs.declared.refusals.Refusal.{Refusal}
use Rattle.record.specs.Taking.{Taken, value, refused, ◌>>=◌, when}

pub bind-refused : {A B : Type 0} (t : Taken A) (next : A × List ℕ → Taken B) (r : Refusal) → (t >>= next) ≡ refused r
    → (t ≡ refused r) ⊎ ((a : A) × (rest : List ℕ) × (t ≡ value a rest) × (next (a, rest) ≡ refused r))
unfolding ◌>>=◌
bind-refused (value a rest) next r e = inr (a, rest, refl, e)
bind-refused (refused s) next r e = inl (ap refused (cc))

pub when-refused : {A : Type 0} (test : Bool) (r : Refusal) (t : Taken A) (s : Refusal) → when test r t ≡ refused s
    → ((test ≡ false) × (r ≡ s)) ⊎ ((test ≡ true) × (t ≡ refused s))
unfolding when
when-refused true r t s e = inr (refl, e)
when-refused false r t s e = inl (refl, (cc))

-- A refusal that the code hands up is the answer.
pub handed_up : {A : Type 0} (answer : Result A Refusal) (r : Refusal) → IsErrAnd answer (λ x. x ≡ r) → answer ≡ Err r
handed_up (Ok a) r h = absurd h
handed_up (Err x) r h = ap Err h
