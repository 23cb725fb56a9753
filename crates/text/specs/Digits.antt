-- Numbers as text: decimal digits in ASCII, shortest, so that 0 is "0" and no other number begins with one.
use Rattle.std.specs.Prelude.{cond, List, [], ◌∷◌, ◌++◌, ℕ, zero, suc, ◌+◌, ◌-◌, ◌*◌, ◌/◌, ◌%◌, ltb, ℤ, pos, negsuc}

-- A text is its bytes.
abbrev pub Text : Type 0
Text = List ℕ

-- `0` is 48.
abbrev pub digit : ℕ → ℕ
digit d = 48 + d

-- The digits of a number that has at most `more` digits after its first.
unfoldable pub digits_of : (more : ℕ) → ℕ → Text
digits_of zero v = digit v ∷ []
digits_of (suc more) v = cond (ltb v 10) (digit v ∷ []) (digits_of more (v / 10) ++ digit (v % 10) ∷ [])

-- A number has no more digits than its value after its first one.
unfoldable pub decimal : ℕ → Text
decimal v = digits_of v v

-- What a text of digits says, read from the front after the digits before it.
unfoldable pub value_of : (before : ℕ) → Text → ℕ
value_of before [] = before
value_of before (byte ∷ text) = value_of (before * 10 + (byte - 48)) text

-- A minus sign, 45, and no plus. `negsuc v` is −(v + 1).
unfoldable pub signed : ℤ → Text
signed (pos v) = decimal v
signed (negsuc v) = 45 ∷ decimal (suc v)
