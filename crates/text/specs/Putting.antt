-- What it means to put a text at a place of a lent buffer.
use Rattle.std.specs.Prelude.{◌≡◌, List, ◌++◌, ℕ, ◌+◌, ◌≤◌, length, take, drop}
use Rattle.text.specs.Digits.{Text}

-- The buffer with the text at the place: what is before and after stays.
unfoldable pub written : Text → (at : ℕ) → List ℕ → List ℕ
written text at buffer = take at buffer ++ text ++ drop (at + length text) buffer

-- The text is put at the place, and the answer is the place after it.
pub record Puts (text : Text) (at : ℕ) (old new : List ℕ) (answer : ℕ) : Type 0 where
  pub end : answer ≡ at + length text
  pub bytes : new ≡ written text at old

-- The same, in at most so many bytes.
pub record PutsWithin (most : ℕ) (text : Text) (at : ℕ) (old new : List ℕ) (answer : ℕ) : Type 0 where
  pub puts : Puts text at old new answer
  pub within : answer ≤ at + most
