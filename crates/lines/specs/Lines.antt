-- The lines of the page, each from its numbers.
use Rattle.std.specs.Prelude.{Bool, true, false, [], ◌∷◌, ◌++◌, map, ℕ, take}
use Rattle.farm.specs.declared.places.Seat.{Seat}
use Rattle.farm.specs.declared.places.Time.{Time}
use Rattle.record.specs.declared.header.Header.{Header}
use Rattle.lines.specs.declared.printing.PlaceLine.{PlaceLine}
use Rattle.text.specs.Digits.{Text, decimal, signed}
use Rattle.text.specs.Words.{ascii, following, line}

-- The first line: seats, bound, rounds, edits.
unfoldable pub header_line : Header → Text
header_line h =
    line (ascii "seats") (
    decimal h.seats
    ∷ ascii "bound" ∷ decimal h.bound
    ∷ ascii "rounds" ∷ decimal h.rounds
    ∷ ascii "edits" ∷ decimal h.edits
    ∷ []
    )

-- C for clean or L for loser.
unfoldable pub standing : (loser : Bool) → Text
standing false = ascii "C"
standing true = ascii "L"

-- The line of a place, in the order of the fields of `PlaceLine`. Where n is above 7, the seven core numbers that there are.
unfoldable pub place_line : PlaceLine → Text
place_line p =
    line (decimal p.time.0) (
    decimal p.seat.0 ∷ standing p.loser ∷ signed p.critical ∷ decimal p.steps ∷ []
    ++ map signed (take p.seats p.core)
    ++ decimal p.count ∷ []
    )

-- How a line about a seat at a time begins: the time, and what follows it up to the C or L.
unfoldable pub place_text : Time → Seat → (loser : Bool) → Text
place_text time seat loser = decimal time.0 ++ following (decimal seat.0 ∷ standing loser ∷ [])

-- A place that is refused 9: `over` takes the room of its numbers.
unfoldable pub over_line : Time → Seat → (loser : Bool) → Text
over_line time seat loser = line (decimal time.0) (decimal seat.0 ∷ standing loser ∷ ascii "over" ∷ [])

-- A bad record gives one line.
unfoldable pub refused_line : (number : ℕ) → Text
refused_line number = line (ascii "refused") (decimal number ∷ [])
