-- What the code's functions are about on the way to the lines of a time and of all times.
use Rattle.std.specs.Prelude.{◌≡◌, Bool, List, ℕ, suc, ◌*◌, ◌≤◌, length, Result, Ok, Err}
use Rattle.farm.specs.Limits.{limits}
use Rattle.farm.specs.Sets.{Seats}
use Rattle.farm.specs.declared.places.Seat.{Seat}
use Rattle.farm.specs.declared.places.Time.{Time}
use Rattle.farm.specs.declared.refusals.Refusal.{Refusal}
use Rattle.knowledge.specs.Farm.{losers}
use Rattle.viewing.specs.Counts.{farm_in}
use Rattle.viewing.specs.declared.farms.Farm.{Farm}
use Rattle.telling.specs.declared.edit_places.EditPlaces.{EditPlaces}
use Rattle.telling.specs.Marks.{count_in}
use Rattle.questions.specs.Accepted.{Accepted}
use Rattle.questions.specs.Answers.{agreed_from}
use Rattle.questions.specs.Question.{by_value, settled_in}
use Rattle.questions.specs.declared.answers.Agreed.{Agreed}
use Rattle.text.specs.Digits.{Text}
use Rattle.lines.specs.Lines.{place_line, over_line}
use Rattle.lines.specs.Printing.{line_room}
use Rattle.lines.specs.declared.printing.PlaceLine.{PlaceLine}
use Rattle.time_lines.specs.Places.{Counting}

-- Room for the lines of a time, and of all times.
abbrev pub time_room : ℕ
time_room = limits.most_seats * line_room

abbrev pub times_room : ℕ
times_room = suc limits.most_rounds * time_room

-- The numbers of an accepted record, its losers, and at most as many edits as a record has.
pub record Ready (farm : Farm) (edits : EditPlaces) (lost : Seats) : Type 0 where
  pub accepted : Accepted farm.sizes
  pub few : length edits.editors.now ≤ limits.most_edits
  pub all : lost ≡ losers (farm_in farm)

-- The count of edits over the two lists that hold their places.
unfoldable pub count_from : (seats times : List ℕ) → Counting
count_from seats times core = count_in core seats times

-- The numbers of a line, from what was asked of its place.
abbrev pub line_from : Agreed → (seats : ℕ) → Time → Seat → Bool → PlaceLine
line_from place seats time seat loser =
    record {
      time = time;
      seat = seat;
      loser = loser;
      critical = place.summary.critical;
      steps = place.summary.steps;
      seats = seats;
      core = place.latest;
      count = place.count;
    }

-- The line of what was asked of a place: its numbers, or `over` where it was refused.
unfoldable pub line_in : Result Agreed Refusal → (seats : ℕ) → Time → Seat → Bool → Text
line_in (Ok place) seats time seat loser = place_line (line_from place seats time seat loser)
line_in (Err refusal) seats time seat loser = over_line time seat loser

-- What is asked of a place of the record.
abbrev pub place_of : Farm → EditPlaces → Seat → Time → Result Agreed Refusal
place_of farm edits p ℓ = agreed_from farm.sizes.seats edits.editors.now edits.times.now (settled_in by_value 0 (farm_in farm) p ℓ)
