-- What is promised of the text, over any numbers, as statements. Their proofs stand under the same names in proofs/Promises.antt.
use Rattle.std.specs.Prelude.{◌≡◌, Bool, true, false, ℕ, ◌<◌, ◌≤◌, length, get_or}
use Rattle.farm.specs.declared.places.Seat.{Seat}
use Rattle.farm.specs.declared.places.Time.{Time}
use Rattle.record.specs.declared.header.Header.{Header}
use Rattle.lines.specs.declared.printing.PlaceLine.{PlaceLine}
use Rattle.text.specs.Digits.{digit, decimal, value_of}
use Rattle.lines.specs.Lines.{header_line, place_line, over_line, refused_line}
use Rattle.text.specs.Words.{tidy}

-- Read back, the digits are the number.
abbrev pub DigitsReadBack : Type 0
DigitsReadBack = (v : ℕ) → value_of 0 (decimal v) ≡ v

-- They are the shortest: no number but 0 begins with `0`.
abbrev pub DigitsShortest : Type 0
DigitsShortest = (v : ℕ) → 0 < v → digit 0 < get_or (decimal v) 0 0

-- A number of 16 bits has at most 5 of them, and one of 32 bits at most 10.
abbrev pub DigitsFew : Type 0
DigitsFew = ((v : ℕ) → v < 65536 → length (decimal v) ≤ 5) × ((v : ℕ) → v < 4294967296 → length (decimal v) ≤ 10)

-- Whatever its numbers are, a line has single blanks, no blank at its end, and one newline, which is its last byte.
abbrev pub LinesTidy : Type 0
LinesTidy =
    ((h : Header) → tidy false (header_line h) ≡ true)
    × ((p : PlaceLine) → tidy false (place_line p) ≡ true)
    × ((time : Time) (seat : Seat) (loser : Bool) → tidy false (over_line time seat loser) ≡ true)
    × ((number : ℕ) → tidy false (refused_line number) ≡ true)
