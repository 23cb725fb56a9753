-- What a good record is, in the words of document 01: "Seats, times, numbers" and "The record".
use Rattle.std.specs.Prelude.{◌≡◌, ◌≢◌, true, List, [], ◌∷◌, ℕ, ◌+◌, ◌*◌, ◌≤◌, ◌<◌, length, get_or, Option, Some, None}
use Rattle.farm.specs.Sets.{Seats, bit}
use Rattle.farm.specs.declared.places.Seat.{Seat}
use Rattle.farm.specs.declared.places.Time.{Time}
use Rattle.record.specs.declared.edits.Edit.{Edit}
use Rattle.record.specs.Changes.{mapped}
use Rattle.record.specs.Good.{IsAfter}
use Rattle.record.specs.Record.{Record}

-- n, t, R and E in range.
pub record NumbersFit (n t R E : ℕ) : Type 0 where
  pub fewest : 2 ≤ n
  pub most : n ≤ 7
  pub bound : t < n
  pub rounds : R ≤ 127
  pub edits : E ≤ 512

-- For each sender z and each round, k being the time at which it begins: the set has seats of the record only, and not the sender.
abbrev pub LossesFit : (n R : ℕ) → List Seats → Type 0
LossesFit n R losses =
    (k : Time) (z : Seat) → k.0 < R → z.0 < n → (q : Seat) → bit (get_or losses (k.0 * n + z.0) 0) q.0 ≡ true → (q.0 < n) × (q ≢ z)

-- An edit's seat, time, cell and mapped change in range.
pub record EditFits (n R : ℕ) (e : Edit) : Type 0 where
  pub seat : e.seat.0 < n
  pub time : e.time.0 ≤ R
  pub cell : e.cell ≤ 65535
  pub change : mapped e.change ≤ 65535

-- An edit is after the one before: in strictly rising order of time, then seat, then cell.
abbrev pub Follows : Option Edit → Edit → Type 0
Follows None e = Unit {0}
Follows (Some last) e = IsAfter last e

-- Every edit fits and is after the one before it.
abbrev pub EditsFit : (n R : ℕ) → Option Edit → List Edit → Type 0
EditsFit n R before [] = Unit {0}
EditsFit n R before (e ∷ edits) = EditFits n R e × Follows before e × EditsFit n R (Some e) edits

pub record GoodRecord (r : Record) : Type 0 where
  pub numbers : NumbersFit r.header.seats r.header.bound r.header.rounds r.header.edits
  pub loss_count : length r.losses ≡ r.header.seats * r.header.rounds
  pub losses : LossesFit r.header.seats r.header.rounds r.losses
  pub edit_count : length r.edits ≡ r.header.edits
  pub edits : EditsFit r.header.seats r.header.rounds None r.edits
