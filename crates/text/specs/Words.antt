-- Words and lines: single blanks between the words, a newline at the end, no blank before it.
use Rattle.std.specs.Prelude.{Bool, true, false, cond, ◌&&◌, List, [], ◌∷◌, ◌++◌, ℕ, eqb, ltb}
use Prim.Native.Char.{code}
use Prim.Native.String.{String, [] as nothing, ◌∷◌ as ◌then◌}
use Rattle.text.specs.Digits.{Text}

-- A quoted text's bytes; every character here is one of ASCII.
unfoldable pub ascii : String → Text
ascii nothing = []
ascii (character then rest) = code character ∷ ascii rest

abbrev pub blank : ℕ
blank = 32

abbrev pub newline : ℕ
newline = 10

-- Words that follow another one: a blank before each.
unfoldable pub following : List Text → Text
following [] = []
following (word ∷ words) = (blank ∷ word) ++ following words

unfoldable pub line : (first : Text) → List Text → Text
line first words = first ++ following words ++ newline ∷ []

-- ════ How a line looks ════

unfoldable pub ends : Text → Bool
ends [] = true
ends (byte ∷ rest) = false

-- Words of bytes above the blank, single blanks between them, and a newline after the last word, which ends the text. The
-- Bool says whether the bytes before these end in a word.
unfoldable pub tidy : (in_word : Bool) → Text → Bool
tidy in_word [] = false
tidy in_word (byte ∷ rest) =
    cond (eqb byte newline) (in_word && ends rest)
    (cond (eqb byte blank) (in_word && tidy false rest)
    (ltb blank byte && tidy true rest))
