-- How a call of a host on the live table ends, and what is handed on of an edit.
use Rattle.std.specs.Prelude.{◌≡◌, cond, ℕ, leb, ℤ, pos}
use Rattle.farm.specs.Limits.{limits}
use Rattle.farm.specs.declared.places.Seat.{Seat}
use Rattle.record.specs.Changes.{mapped}
use Rattle.live_table.specs.declared.table.Table.{Table}
use Rattle.live.specs.Answers.{done_of}
use Rattle.live.specs.Calls.{Call, answer_to, table_after}
use Rattle.host.specs.declared.numbers.SeatNumber.{SeatNumber}
use Rattle.host.specs.Numbers.{at_most}
use Rattle.host.specs.Results.{refusal_number}

-- As `live`'s `Ends`, with the answer as its number.
abbrev pub EndsWith : Call → (before : Table) (number : ℕ) (after : Table) → Type 0
EndsWith call before number after = (number ≡ refusal_number (done_of (answer_to call before))) × (after ≡ table_after call before)

-- The seat and the change of an edit as the library's call takes them: a change that is none goes with a seat that no record has.
pub record EditHanded (seat : SeatNumber) (change : ℤ) (handed : Seat) (given : ℤ) : Type 0 where
  pub whose : handed ≡ cond (leb (mapped change) limits.largest_mapped_change) (record { 0 = at_most 255 seat.0 }) (record { 0 = 255 })
  pub what : given ≡ cond (leb (mapped change) limits.largest_mapped_change) change (pos 0)
