-- Taking things from the front of the bytes, one after the other. The first refusal ends it and goes up unchanged.
use Rattle.std.specs.Prelude.{List, Bool, true, false, ℕ, ◌<◌, get_or}
use Rattle.farm.specs.declared.refusals.Refusal.{Refusal}

-- A byte string is a list of numbers below 256.
abbrev pub IsBytes : List ℕ → Type 0
IsBytes bytes = (i : ℕ) → get_or bytes i 0 < 256

-- A value with the rest of the bytes, or a refusal.
pub data Taken (A : Type 0) : Type 0 where
  value : A → List ℕ → Taken A
  refused : Refusal → Taken A

-- What comes next goes on with the value and the rest.
infixl 1 ◌>>=◌
unfoldable pub ◌>>=◌ : {A B : Type 0} → Taken A → (A × List ℕ → Taken B) → Taken B
value a rest >>= next = next (a, rest)
refused r >>= next = refused r

-- A value that fails its test is refused. The test comes after the number itself was taken.
unfoldable pub when : {A : Type 0} → Bool → Refusal → Taken A → Taken A
when true r taken = taken
when false r taken = refused r
