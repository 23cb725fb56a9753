-- Condition 2: what the questions answer about a good record is what the rules say, neither fewer nor more.
use Rattle.std.specs.Prelude.{◌≡◌, ◌↔◌, true, false, List, ◌+◌, ◌≤◌, ◌<◌, ℤ, length}
use Rattle.farm.specs.Sets.{Seats}
use Rattle.farm.specs.declared.places.Seat.{Seat}
use Rattle.farm.specs.declared.places.Time.{Time}
use Rattle.knowledge.specs.Farm.{Loser, Clean}
use Rattle.knowledge.specs.Views.{InView}
use Rattle.knowledge.specs.Known.{Known}
use Rattle.knowledge.specs.Settled.{Settled}
use Rattle.record.specs.Record.{Record, good}
use Rattle.questions.specs.Question.{Lent, found, farm_of_record, view_asked, known_asked, settled_asked, core_asked, marks_asked, count_asked, loser_asked}
use Rattle.conditions.specs.Good.{GoodRecord}
use Rattle.conditions.specs.Rules.{IsSet, AtMostSeats, IsView, Answer, Ruled}
use Rattle.conditions.specs.Refusals.{Room}

-- A place of the record.
abbrev pub IsPlace : Record → Seat → Time → Type 0
IsPlace r p ℓ = (p.0 < r.header.seats) × (ℓ.0 ≤ r.header.rounds)

-- Rules 1 and 2: the view by value and in every buffer that has room, the known set, and who is a loser.
pub record SeenByTheRules (r : Record) (p : Seat) (ℓ : Time) : Type 0 where
  pub view : (lent : Lent) → Room lent r.header.seats → (numbers : List ℤ)
      → (view_asked lent (good r) p ℓ ≡ found numbers) ↔ IsView r.header.seats (λ x. InView (farm_of_record r) x p ℓ) numbers
  pub known : (set : Seats)
      → (known_asked (good r) p ℓ ≡ found set) ↔ IsSet r.header.seats (Known (farm_of_record r) (λ x. InView (farm_of_record r) x p ℓ)) set
  pub loser : (loser_asked (good r) p ≡ found true) ↔ Loser (farm_of_record r) p
  pub clean : (loser_asked (good r) p ≡ found false) ↔ Clean (farm_of_record r) p

abbrev pub EachSeenByTheRules : Type 0
EachSeenByTheRules = (r : Record) → GoodRecord r → (p : Seat) (ℓ : Time) → IsPlace r p ℓ → SeenByTheRules r p ℓ

-- The answer that the questions give between them, core and marks in every buffer that has room.
pub record Told (r : Record) (p : Seat) (ℓ : Time) (a : Answer) : Type 0 where
  pub what : Settled
  pub settled : settled_asked (good r) p ℓ ≡ found what
  pub steps : what.steps ≡ a.steps
  pub critical : what.critical ≡ a.critical
  pub kept : what.kept ≡ a.kept
  pub core : (lent : Lent) → Room lent r.header.seats → core_asked lent (good r) p ℓ ≡ found a.core
  pub marks : (lent : Lent) → Room lent (length r.edits) → marks_asked lent (good r) p ℓ ≡ found a.marks
  pub count : count_asked (good r) p ℓ ≡ found a.count

-- Rules 3 to 6. An answer is told exactly if the rules give it; they give one wherever at most t seats are known; and rule 4's
-- count of steps is then at most t + 1.
pub record AgreedByTheRules (r : Record) (p : Seat) (ℓ : Time) : Type 0 where
  pub told : (a : Answer) → Told r p ℓ a ↔ Ruled r p ℓ a
  pub some : AtMostSeats r.header.seats r.header.bound (Known (farm_of_record r) (λ x. InView (farm_of_record r) x p ℓ))
      → (a : Answer) × Ruled r p ℓ a × (a.steps ≤ r.header.bound + 1)

abbrev pub EachAgreedByTheRules : Type 0
EachAgreedByTheRules = (r : Record) → GoodRecord r → (p : Seat) (ℓ : Time) → IsPlace r p ℓ → AgreedByTheRules r p ℓ
