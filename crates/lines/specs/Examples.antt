-- The page that document 01 prints, "The lister's page": its ten lines in a single table under a single statement, each from
-- its numbers. Two more rows have the lines that this page lacks.
use Rattle.std.specs.Prelude.{◌≡◌, Bool, true, false, List, [], ◌∷◌, map, ℕ, ℤ, pos, negsuc}
use Prim.Native.String.{String}
use Rattle.text.specs.Digits.{Text}
use Rattle.text.specs.Words.{ascii}
use Rattle.lines.specs.Lines.{header_line, place_line, over_line, refused_line}

-- ════ The shape of the table ════

abbrev clean : Bool
clean = false

abbrev loser : Bool
loser = true

-- Signed numbers as document 01 prints them.
abbrev -2 : ℤ
-2 = negsuc 1

abbrev -1 : ℤ
-1 = negsuc 0

abbrev +0 : ℤ
+0 = pos 0

abbrev +1 : ℤ
+1 = pos 1

-- The numbers of a line, in document 01's order; a core of three seats.
pub data Numbers : Type 0 where
  header : (seats bound rounds edits : ℕ) → Numbers
  place : (time seat : ℕ) → (loses : Bool) → (critical : ℤ) → (steps : ℕ) → (a b c : ℤ) → (count : ℕ) → Numbers
  over : (time seat : ℕ) → (loses : Bool) → Numbers
  refused : (number : ℕ) → Numbers

pub record Row : Type 0 where
  pub numbers : Numbers
  pub text : String

abbrev row : Numbers → String → Row
row numbers text = record { numbers = numbers; text = text }

-- ════ What the definitions make of the numbers ════

unfoldable pub made : Numbers → Text
made (header n t R E) = header_line (record { seats = n; bound = t; rounds = R; edits = E })
made (place time seat loses critical steps a b c count) =
    place_line (record {
      time = record { 0 = time };
      seat = record { 0 = seat };
      loser = loses;
      critical = critical;
      steps = steps;
      seats = 3;
      core = a ∷ b ∷ c ∷ +0 ∷ +0 ∷ +0 ∷ +0 ∷ [];
      count = count;
    })
made (over time seat loses) = over_line (record { 0 = time }) (record { 0 = seat }) loses
made (refused number) = refused_line number

-- ════ The table ════

unfoldable pub table : List Row
table =
    row (header 3 1 2 1) "seats 3 bound 1 rounds 2 edits 1\n"
    ∷ row (place 0 0 clean -2 1 -1 -1 -1 0) "0 0 C -2 1 -1 -1 -1 0\n"
    ∷ row (place 0 1 clean -2 1 -1 -1 -1 0) "0 1 C -2 1 -1 -1 -1 0\n"
    ∷ row (place 0 2 loser -2 1 -1 -1 -1 0) "0 2 L -2 1 -1 -1 -1 0\n"
    ∷ row (place 1 0 clean -1 2 -1 -1 -1 0) "1 0 C -1 2 -1 -1 -1 0\n"
    ∷ row (place 1 1 clean -1 1 -1 -1 -1 0) "1 1 C -1 1 -1 -1 -1 0\n"
    ∷ row (place 1 2 loser -1 1 -1 -1 -1 0) "1 2 L -1 1 -1 -1 -1 0\n"
    ∷ row (place 2 0 clean +1 1 +1 +1 +0 1) "2 0 C 1 1 1 1 0 1\n"
    ∷ row (place 2 1 clean +1 1 +1 +1 +0 1) "2 1 C 1 1 1 1 0 1\n"
    ∷ row (place 2 2 loser +1 1 +1 +1 +0 1) "2 2 L 1 1 1 1 0 1\n"
    ∷ row (over 127 6 clean) "127 6 C over\n"
    ∷ row (refused 6) "refused 6\n"
    ∷ []

-- Every text of the table, byte for byte, is what the definitions make of the numbers beside it.
abbrev pub ExamplesHold : Type 0
ExamplesHold = map (λ r. made r.numbers) table ≡ map (λ r. ascii r.text) table
