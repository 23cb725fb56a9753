-- What a carrier hands on: whether the record is good, with its header, and the losses and the edits' seats and times at the front of
-- lists that may be longer; and the questions on a good record's header and such lists.
use Rattle.std.specs.Prelude.{List, ℕ, ◌*◌, ◌≤◌, ℤ, length, take, ◌≡◌, Bool, true, Result, Ok, Err}
use Rattle.farm.specs.Limits.{limits}
use Rattle.farm.specs.Sets.{Seats}
use Rattle.farm.specs.declared.places.Seat.{Seat}
use Rattle.farm.specs.declared.places.Time.{Time}
use Rattle.farm.specs.declared.refusals.Refusal.{Refusal}
use Rattle.viewing.specs.Counts.{farm_for}
use Rattle.record.specs.declared.header.Header.{Header}
use Rattle.record.specs.Record.{Record, Reading, good}
use Rattle.record.specs.Answers.{checked_of}
use Rattle.record.specs.Good.{good_record}
use Rattle.record.specs.Tables.{seats_of, times_of}
use Rattle.questions.specs.declared.answers.Agreed.{Agreed}
use Rattle.questions.specs.Accepted.{Accepted, core_in, marks_on}
use Rattle.questions.specs.Answers.{agreed_from}
use Rattle.questions.specs.Question.{Asked, refused, Lent, by_value, view_in, known_in, loser_in, settled_in}
use Rattle.carriers.specs.Loading.{sizes_of}

-- The lists hold a good record's losses and edits at their front.
pub record Holds (w : Record) (table who when : List ℕ) : Type 0 where
  pub sound : good_record limits w ≡ true
  pub losses : take (w.header.seats * w.header.rounds) table ≡ w.losses
  pub seats : take w.header.edits who ≡ seats_of w.edits
  pub times : take w.header.edits when ≡ times_of w.edits

pub record Carried (reading : Reading) (checked : Result Header Refusal) (table who when : List ℕ) : Type 0 where
  pub told : checked ≡ checked_of reading
  pub holds : (w : Record) → reading ≡ good w → Holds w table who when

-- What the header of a good record meets, and that the lists hold its edits.
pub record Fitting (h : Header) (who when : List ℕ) : Type 0 where
  pub sizes : Accepted (sizes_of h)
  pub few : h.edits ≤ limits.most_edits
  pub seats : h.edits ≤ length who
  pub times : h.edits ≤ length when

abbrev pub Loaded : Result Header Refusal → (seats times : List ℕ) → Type 0
Loaded checked seats times = (h : Header) → checked ≡ Ok h → Fitting h seats times

unfoldable pub on_checked : {A : Type 0} → Result Header Refusal → (Header → Asked A) → Asked A
on_checked (Ok h) ask = ask h
on_checked (Err x) ask = refused x

abbrev pub Sized : Result Header Refusal → Type 0
Sized checked = (h : Header) → checked ≡ Ok h → Accepted (sizes_of h)

abbrev pub view_for : Lent → Result Header Refusal → List Seats → Seat → Time → Asked (List ℤ)
view_for lent checked losses p ℓ = on_checked checked (λ h. view_in lent (farm_for (sizes_of h) losses) p ℓ)

abbrev pub known_for : Result Header Refusal → List Seats → Seat → Time → Asked Seats
known_for checked losses p ℓ = on_checked checked (λ h. known_in (farm_for (sizes_of h) losses) p ℓ)

abbrev pub core_for : Lent → Result Header Refusal → List Seats → Seat → Time → Asked (List ℤ)
core_for lent checked losses p ℓ = on_checked checked (λ h. core_in lent (farm_for (sizes_of h) losses) p ℓ)

abbrev pub loser_for : Result Header Refusal → List Seats → Seat → Asked Bool
loser_for checked losses p = on_checked checked (λ h. loser_in (farm_for (sizes_of h) losses) p)

unfoldable pub agreed_for : Result Header Refusal → (losses : List Seats) (seats times : List ℕ) → Seat → Time → Result Agreed Refusal
agreed_for (Ok h) losses seats times p ℓ =
    agreed_from h.seats (take h.edits seats) (take h.edits times) (settled_in by_value 0 (farm_for (sizes_of h) losses) p ℓ)
agreed_for (Err x) losses seats times p ℓ = Err x

abbrev pub marks_for : Lent → Result Header Refusal → (losses : List Seats) (seats times : List ℕ) → Seat → Time → Asked (List ℕ)
marks_for lent checked losses seats times p ℓ =
    on_checked checked (λ h. marks_on lent (farm_for (sizes_of h) losses) (take h.edits seats) (take h.edits times) p ℓ)
