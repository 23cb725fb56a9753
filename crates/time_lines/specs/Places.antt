-- Document 01, "The lister's page": the line of a place, and the lines of the seats and times of a record.
use Rattle.std.specs.Prelude.{[], ◌++◌, ℕ, zero, suc}
use Rattle.farm.specs.Sets.{bit}
use Rattle.farm.specs.declared.places.Seat.{Seat}
use Rattle.farm.specs.declared.places.Time.{Time}
use Rattle.knowledge.specs.Farm.{Farm, losers, seat, time}
use Rattle.knowledge.specs.Views.{View, latest_times}
use Rattle.knowledge.specs.Settled.{Outcome, over_bound, settled, outcome_of}
use Rattle.text.specs.Digits.{Text}
use Rattle.lines.specs.Lines.{place_line, over_line}

-- How many edits a core holds.
abbrev pub Counting : Type 0
Counting = View → ℕ

-- ════ The line of a place ════

-- What the rules settle there, or `over` where they refuse (9). The letter tells of the whole record, whatever the time of the line.
unfoldable pub line_of : Farm → Counting → Time → Seat → Outcome → Text
line_of farm counting ℓ p over_bound = over_line ℓ p (bit (losers farm) p.0)
line_of farm counting ℓ p (settled s) =
    place_line (record {
      time = ℓ;
      seat = p;
      loser = bit (losers farm) p.0;
      critical = s.critical;
      steps = s.steps;
      seats = farm.seats;
      core = latest_times farm.seats s.core;
      count = counting s.core;
    })

unfoldable pub line_at : Farm → Counting → Time → Seat → Text
line_at farm counting ℓ p = line_of farm counting ℓ p (outcome_of farm p ℓ)

-- ════ A line for each time, within it each seat ════

-- The lines of the seats below p at a time.
unfoldable pub lines_at : Farm → Counting → Time → (p : ℕ) → Text
lines_at farm counting ℓ zero = []
lines_at farm counting ℓ (suc p) = lines_at farm counting ℓ p ++ line_at farm counting ℓ (seat p)

-- The lines of the times below k.
unfoldable pub lines_of : Farm → Counting → (k : ℕ) → Text
lines_of farm counting zero = []
lines_of farm counting (suc k) = lines_of farm counting k ++ lines_at farm counting (time k) farm.seats
