-- A host's number as the library can hold it: itself, or the largest that fits.
use Rattle.std.specs.Prelude.{cond, ℕ, ltb}
use Rattle.farm.specs.declared.places.Seat.{Seat}
use Rattle.farm.specs.declared.places.Time.{Time}
use Rattle.host.specs.declared.numbers.SeatNumber.{SeatNumber}
use Rattle.host.specs.declared.numbers.TimeNumber.{TimeNumber}

unfoldable pub at_most : (most number : ℕ) → ℕ
at_most most number = cond (ltb most number) most number

-- The seat and the time that a host names, whatever their numbers.
abbrev pub seat_named : SeatNumber → Seat
seat_named s = record { 0 = s.0 }

abbrev pub time_named : TimeNumber → Time
time_named ℓ = record { 0 = ℓ.0 }
