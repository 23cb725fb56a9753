-- Condition 3, over the answers of condition 2's rules, which are those that the questions tell.
use Rattle.std.specs.Prelude.{◌≡◌, ◌+◌, ◌≤◌}
use Rattle.farm.specs.declared.places.Seat.{Seat}
use Rattle.farm.specs.declared.places.Time.{Time}
use Rattle.knowledge.specs.Farm.{place, IsSeat, Loser, Clean}
use Rattle.knowledge.specs.Views.{InView}
use Rattle.record.specs.declared.edits.Edit.{Edit}
use Rattle.record.specs.Record.{Record}
use Rattle.questions.specs.Question.{farm_of_record}
use Rattle.conditions.specs.Good.{GoodRecord}
use Rattle.conditions.specs.Rules.{AtMostSeats, InNumbers, Answer, Ruled}
use Rattle.conditions.specs.Answers.{Told}

-- The premise: a good record, and no more losers in it than its bound t.
pub record WithinBound (r : Record) : Type 0 where
  pub is_good : GoodRecord r
  pub few_losers : AtMostSeats r.header.seats r.header.bound (Loser (farm_of_record r))

-- A seat of the record that never loses a send.
pub record Honest (r : Record) (p : Seat) : Type 0 where
  pub is_seat : IsSeat (farm_of_record r) p
  pub is_clean : Clean (farm_of_record r) p

-- What the rules give the seat, and what it is told. So it is not refused.
pub record Gets (r : Record) (p : Seat) (ℓ : Time) (a : Answer) : Type 0 where
  pub ruled : Ruled r p ℓ a
  pub told : Told r p ℓ a

-- Both seats get the same critical time, kept set and core, and so the same edits.
pub record Alike (r : Record) (ℓ : Time) (p q : Seat) : Type 0 where
  pub first : Answer
  pub second : Answer
  pub first_gets : Gets r p ℓ first
  pub second_gets : Gets r q ℓ second
  pub critical : first.critical ≡ second.critical
  pub kept : first.kept ≡ second.kept
  pub core : first.core ≡ second.core
  pub marks : first.marks ≡ second.marks
  pub count : first.count ≡ second.count

-- First part: at each time, all seats that never lose a send.
abbrev pub HonestSeatsAreToldAlike : Type 0
HonestSeatsAreToldAlike =
    (r : Record) → WithinBound r → (p q : Seat) → Honest r p → Honest r q → (ℓ : Time) → ℓ.0 ≤ r.header.rounds → Alike r ℓ p q

-- Second part: what one of them has in view at a time e, all of them have in their cores t + 1 rounds later and from then on.
abbrev pub SeenEditsAreAgreed : Type 0
SeenEditsAreAgreed =
    (r : Record) → WithinBound r → (p q : Seat) → Honest r p → Honest r q
    → (edit : Edit) (e : Time) → InView (farm_of_record r) (place edit.seat edit.time) p e
    → (ℓ : Time) → e.0 + r.header.bound + 1 ≤ ℓ.0 → ℓ.0 ≤ r.header.rounds
    → (a : Answer) × Gets r q ℓ a × InNumbers a.core (place edit.seat edit.time)
