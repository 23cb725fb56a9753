-- What each question about a record means: what is found, or the one refusal that the order decides. Document 01,
-- "Refusal numbers": the record's refusals, 8, 7, 9.
use Rattle.std.specs.Prelude.{Bool, true, false, cond, ◌&&◌, List, [], ◌∷◌, map, ℕ, ◌+◌, leb, ltb, ℤ, length}
use Rattle.farm.specs.Sets.{Seats, bit}
use Rattle.farm.specs.declared.places.Seat.{Seat}
use Rattle.farm.specs.declared.places.Time.{Time}
use Rattle.farm.specs.declared.refusals.Refusal.{Refusal}
use Rattle.farm.specs.declared.refusals.Refusal.TheVariants.{NoRoom, NoSuchPlace, OverBound}
use Rattle.knowledge.specs.Farm.{Farm, farm_of, place, losers}
use Rattle.knowledge.specs.Views.{View, view_of, latest_times}
use Rattle.knowledge.specs.Known.{known_of}
use Rattle.knowledge.specs.Settled.{Settled, Outcome, over_bound, settled, outcome_of, has_place}
use Rattle.record.specs.declared.edits.Edit.{Edit}
use Rattle.record.specs.Record.{Record, Reading, good, bad}

-- A record as the construction sees it.
abbrev pub farm_of_record : Record → Farm
farm_of_record r = farm_of r.header.seats r.header.bound r.header.rounds r.losses

-- ════ Asking ════

pub data Asked (A : Type 0) : Type 0 where
  found : A → Asked A
  refused : Refusal → Asked A

-- The record's own refusal comes first.
unfoldable pub on_record : {A : Type 0} → Reading → (Record → Asked A) → Asked A
on_record (good r) ask = ask r
on_record (bad refusal) ask = refused refusal

-- A test that fails gives its refusal.
unfoldable pub provided : {A : Type 0} → Bool → Refusal → Asked A → Asked A
provided true refusal answer = answer
provided false refusal answer = refused refusal

-- What is found is looked at further; a refusal stays.
unfoldable pub looking : {A B : Type 0} → (A → B) → Asked A → Asked B
looking f (found a) = found (f a)
looking f (refused refusal) = refused refusal

-- Where an answer goes: it comes back by value, or into a lent buffer of so many entries.
pub data Lent : Type 0 where
  by_value : Lent
  buffer : ℕ → Lent

-- 7: a buffer has room for what it needs. A longer one is good.
unfoldable pub fits : Lent → ℕ → Bool
fits by_value need = true
fits (buffer entries) need = leb need entries

-- 8: the seat is below n and the time at most R.
unfoldable pub is_place : Farm → Seat → Time → Bool
is_place farm p ℓ = ltb p.0 farm.seats && leb ℓ.0 farm.rounds

-- 9: the construction refuses.
unfoldable pub of_outcome : Outcome → Asked Settled
of_outcome over_bound = refused OverBound
of_outcome (settled s) = found s

-- ════ On a farm: 8, 7, 9 ════

unfoldable pub view_in : Lent → Farm → Seat → Time → Asked (List ℤ)
view_in lent farm p ℓ =
    provided (is_place farm p ℓ) NoSuchPlace
    (provided (fits lent farm.seats) NoRoom (found (latest_times farm.seats (view_of farm p ℓ))))

unfoldable pub known_in : Farm → Seat → Time → Asked Seats
known_in farm p ℓ = provided (is_place farm p ℓ) NoSuchPlace (found (known_of farm p ℓ))

-- The settled answer, where `need` entries of a buffer are wanted.
unfoldable pub settled_in : Lent → (need : ℕ) → Farm → Seat → Time → Asked Settled
settled_in lent need farm p ℓ =
    provided (is_place farm p ℓ) NoSuchPlace (provided (fits lent need) NoRoom (of_outcome (outcome_of farm p ℓ)))

unfoldable pub loser_in : Farm → Seat → Asked Bool
loser_in farm p = provided (ltb p.0 farm.seats) NoSuchPlace (found (bit (losers farm) p.0))

-- ════ Edits and the core ════

-- An edit is in the core if its place is.
unfoldable pub in_core : View → Edit → Bool
in_core core e = has_place core (place e.seat e.time)

-- 1 for an edit in the core, 0 for one outside.
unfoldable pub marks_of : View → List Edit → List ℕ
marks_of core edits = map (λ e. cond (in_core core e) 1 0) edits

unfoldable pub count_of : View → List Edit → ℕ
count_of core [] = 0
count_of core (e ∷ edits) = cond (in_core core e) 1 0 + count_of core edits

-- ════ On a record ════

abbrev pub view_asked : Lent → Reading → Seat → Time → Asked (List ℤ)
view_asked lent reading p ℓ = on_record reading (λ r. view_in lent (farm_of_record r) p ℓ)

abbrev pub known_asked : Reading → Seat → Time → Asked Seats
known_asked reading p ℓ = on_record reading (λ r. known_in (farm_of_record r) p ℓ)

abbrev pub settled_asked : Reading → Seat → Time → Asked Settled
settled_asked reading p ℓ = on_record reading (λ r. settled_in by_value 0 (farm_of_record r) p ℓ)

abbrev pub core_asked : Lent → Reading → Seat → Time → Asked (List ℤ)
core_asked lent reading p ℓ =
    on_record reading (λ r.
    looking (λ s. latest_times r.header.seats s.core) (settled_in lent r.header.seats (farm_of_record r) p ℓ))

abbrev pub marks_asked : Lent → Reading → Seat → Time → Asked (List ℕ)
marks_asked lent reading p ℓ =
    on_record reading (λ r.
    looking (λ s. marks_of s.core r.edits) (settled_in lent (length r.edits) (farm_of_record r) p ℓ))

abbrev pub count_asked : Reading → Seat → Time → Asked ℕ
count_asked reading p ℓ =
    on_record reading (λ r. looking (λ s. count_of s.core r.edits) (settled_in by_value 0 (farm_of_record r) p ℓ))

abbrev pub loser_asked : Reading → Seat → Asked Bool
loser_asked reading p = on_record reading (λ r. loser_in (farm_of_record r) p)
