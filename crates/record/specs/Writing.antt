-- What writing from lists means. Document 01's order: 3 for n, t, R and E, then 10 for the lengths, then 4 for all loss sets,
-- then edit by edit 3 and 5, and 7 last. E is the length of the list of seats.
use Rattle.std.specs.Prelude.{Bool, true, false, cond, ◌&&◌, List, [], ◌∷◌, ℕ, ◌*◌, eqb, leb, ℤ, length, Option, None, Some}
use Rattle.farm.specs.Limits.{Limits}
use Rattle.farm.specs.Sets.{Seats}
use Rattle.farm.specs.declared.refusals.Refusal.{Refusal}
use Rattle.farm.specs.declared.refusals.Refusal.TheVariants.{OutOfRange, BadLossSet, BadOrder, NoRoom, BadLengths}
use Rattle.record.specs.declared.header.Header.{Header}
use Rattle.record.specs.declared.edits.Edit.{Edit}
use Rattle.record.specs.Losses.{first_seat}
use Rattle.record.specs.Edits.{follows}
use Rattle.record.specs.Record.{Record, Reading, good, bad, bytes_of}
use Rattle.record.specs.Good.{good_header, good_sets, good_edit}
use Rattle.record.specs.Tables.{Tables, over, edits_from}

-- The lists as they are given, one for each field.
abbrev pub lists_of : (losses : List Seats) (seats times cells : List ℕ) → List ℤ → Tables
lists_of losses seats times cells changes = record { losses = losses; seats = seats; times = times; cells = cells; changes = changes }

-- ════ Whether the lists are a good record ════

pub data Verdict : Type 0 where
  accepted : Verdict
  faulty : Refusal → Verdict

-- A test that fails decides; else the rest does.
unfoldable pub unless : Bool → Refusal → Verdict → Verdict
unless true r later = later
unless false r later = faulty r

unfoldable pub judged_edits : Limits → (n rounds : ℕ) → Option Edit → List Edit → Verdict
judged_edits L n R before [] = accepted
judged_edits L n R before (e ∷ edits) =
    unless (good_edit L n R e) OutOfRange (unless (follows before e) BadOrder (judged_edits L n R (Some e) edits))

abbrev pub header_from : (n t R : ℕ) → Tables → Header
header_from n t R lists = record { seats = n; bound = t; rounds = R; edits = length lists.seats }

abbrev pub edits_in : Tables → List Edit
edits_in lists = edits_from lists.seats lists.times lists.cells lists.changes

-- Lengths that fit each other, and n and R.
unfoldable pub fitting : (n rounds : ℕ) → Tables → Bool
fitting n R lists =
    eqb (length lists.losses) (n * R)
    && eqb (length lists.times) (length lists.seats)
    && eqb (length lists.cells) (length lists.seats)
    && eqb (length lists.changes) (length lists.seats)

unfoldable pub judged_lists : Limits → (n t R : ℕ) → Tables → Verdict
judged_lists L n t R lists =
    unless (good_header L (header_from n t R lists)) OutOfRange
    (unless (fitting n R lists) BadLengths (unless (good_sets n first_seat lists.losses) BadLossSet (judged_edits L n R None (edits_in lists))))

unfoldable pub record_from : (n t R : ℕ) → Tables → Record
record_from n t R lists = record { header = header_from n t R lists; losses = lists.losses; edits = edits_in lists }

unfoldable pub judged : Record → Verdict → Reading
judged r accepted = good r
judged r (faulty f) = bad f

-- The good record that the lists are, or the one refusal that the order decides; room is not asked about here.
unfoldable pub checked_lists : Limits → (n t R : ℕ) → Tables → Reading
checked_lists L n t R lists = judged (record_from n t R lists) (judged_lists L n t R lists)

-- ════ Writing into a buffer ════

-- How many bytes the record has, or the refusal.
pub data Written : Type 0 where
  count : ℕ → Written
  unwritten : Refusal → Written

-- The length that is asked for: no buffer, so no refusal 7.
unfoldable pub needed : Limits → Reading → Written
needed L (good r) = count (length (bytes_of L r))
needed L (bad f) = unwritten f

unfoldable pub needed_by : Limits → (n t R : ℕ) → Tables → Written
needed_by L n t R lists = needed L (checked_lists L n t R lists)

-- Refusal 7 comes last, when the space is less than the record.
unfoldable pub answered : Limits → Reading → (room : ℕ) → Written
answered L (good r) room = cond (leb (length (bytes_of L r)) room) (count (length (bytes_of L r))) (unwritten NoRoom)
answered L (bad f) room = unwritten f

unfoldable pub written_to : Limits → (n t R : ℕ) → Tables → (room : ℕ) → Written
written_to L n t R lists room = answered L (checked_lists L n t R lists) room

-- The record's bytes first, and the old ones past them stay. A refusal changes nothing.
unfoldable pub buffer_with : Limits → Reading → List ℕ → List ℕ
buffer_with L (good r) old = cond (leb (length (bytes_of L r)) (length old)) (over 0 (bytes_of L r) old) old
buffer_with L (bad f) old = old

unfoldable pub buffer_after : Limits → (n t R : ℕ) → Tables → List ℕ → List ℕ
buffer_after L n t R lists old = buffer_with L (checked_lists L n t R lists) old
