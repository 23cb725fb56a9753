-- Fields of a struct as `Loans.antt` wants them, by their number k and where they begin (d): a number, an array of numbers, and one of signed numbers.
-- Assumes nothing.
use mathlib.Core.Path.{refl}
use Prim.Native.Nat.{ℕ}
use mathlib.Core.List.{[], ◌∷◌, map}
use mir.Syntax.{Width}
use mir.Val.{vint, of_z}
use denote.Array.{Array, array_val, Array-Tells, Array-Lawful, Array-Makes}
use base.Fraction.{full_share}
use denote.Copied.{uint_Copied, sint_Copied, Array-Copied}
use denote.Plain.{UInt, uint_Tells, uint_Lawful, uint_Makes}
use denote.Signed.{SInt, sint_Tells, sint_Lawful, sint_Makes}
use Rattle.walks.proofs.Loans.{Part}

abbrev pub number : (w : Width) (k d : ℕ) → Part
number w k d = record {
  F = UInt w;
  k = k;
  d = d;
  spell = vint w;
  tells = uint_Tells w;
  one = refl;
  typed = λ M 𝓤 𝓛 x v is. ((uint_Lawful 𝓛 w).typed x (v ∷ []) is).0;
  makes = λ M 𝓤 𝓛. uint_Makes 𝓛 w;
  lends = λ M 𝓤 𝓛. (uint_Copied 𝓛 w).lends full_share;
}

abbrev pub numbers : (w : Width) (n k d : ℕ) → Part
numbers w n k d = record {
  F = Array (UInt w) n;
  k = k;
  d = d;
  spell = λ xs. array_val (map (vint w) xs);
  tells = Array-Tells (UInt w) (λ y. vint w y ∷ []) (uint_Tells w) n;
  one = refl;
  typed = λ M 𝓤 𝓛 x v is. ((Array-Lawful 𝓛 (UInt w) (uint_Lawful 𝓛 w) n).typed x (v ∷ []) is).0;
  makes = λ M 𝓤 𝓛. Array-Makes 𝓛 (UInt w) (uint_Makes 𝓛 w) n;
  lends = λ M 𝓤 𝓛. (Array-Copied 𝓛 (UInt w) (uint_Copied 𝓛 w) tt n).lends full_share;
}

abbrev pub integers : (w : Width) (n k d : ℕ) → Part
integers w n k d = record {
  F = Array (SInt w) n;
  k = k;
  d = d;
  spell = λ xs. array_val (map (λ z. vint w (of_z w z)) xs);
  tells = Array-Tells (SInt w) (λ z. vint w (of_z w z) ∷ []) (sint_Tells w) n;
  one = refl;
  typed = λ M 𝓤 𝓛 x v is. ((Array-Lawful 𝓛 (SInt w) (sint_Lawful 𝓛 w) n).typed x (v ∷ []) is).0;
  makes = λ M 𝓤 𝓛. Array-Makes 𝓛 (SInt w) (sint_Makes 𝓛 w) n;
  lends = λ M 𝓤 𝓛. (Array-Copied 𝓛 (SInt w) (sint_Copied 𝓛 w) tt n).lends full_share;
}
