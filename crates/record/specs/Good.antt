-- What a good record is as data, with no bytes in it: every number in its range, the lists as long as the header says, and the
-- edits rising. Loss sets and edits are each tested from the front of one flat list, as a loop over it does.
use Rattle.std.specs.Prelude.{◌≡◌, ◌⊎◌, Bool, true, cond, ◌&&◌, List, [], ◌∷◌, ℕ, suc, ◌-◌, ◌*◌, ◌<◌, eqb, leb, length, Option, None, Some}
use Rattle.farm.specs.Limits.{Limits}
use Rattle.farm.specs.Sets.{Seats}
use Rattle.farm.specs.declared.places.Seat.{Seat}
use Rattle.record.specs.declared.header.Header.{Header}
use Rattle.record.specs.declared.edits.Edit.{Edit}
use Rattle.record.specs.Changes.{mapped}
use Rattle.record.specs.Losses.{first_seat, seat_after, good_set}
use Rattle.record.specs.Edits.{follows}
use Rattle.record.specs.Record.{Record}

-- Whether a number lies between two others, both included.
abbrev pub within : (low high v : ℕ) → Bool
within low high v = leb low v && leb v high

-- ════ The header ════

unfoldable pub good_header : Limits → Header → Bool
good_header L h =
    within L.fewest_seats L.most_seats h.seats
    && within 0 (h.seats - 1) h.bound
    && within 0 L.most_rounds h.rounds
    && within 0 L.most_edits h.edits

-- ════ The losses: for each round, for each sender ════

-- After the last sender of a round comes the first one of the next.
unfoldable pub sender_after : (n : ℕ) → Seat → Seat
sender_after n sender = cond (eqb (suc sender.0) n) first_seat (seat_after sender)

-- The sets of a flat list, the first of them sent by the sender.
unfoldable pub good_sets : (n : ℕ) (sender : Seat) → List Seats → Bool
good_sets n sender [] = true
good_sets n sender (set ∷ sets) = good_set n sender set && good_sets n (sender_after n sender) sets

unfoldable pub good_rounds : (n rounds : ℕ) → List Seats → Bool
good_rounds n R losses = eqb (length losses) (n * R) && good_sets n first_seat losses

-- ════ The edits ════

-- Document 01's order in its own words: by time, then seat, then cell. `rises` tests it.
abbrev pub IsAfter : (before edit : Edit) → Type 0
IsAfter a b =
    (a.time.0 < b.time.0)
    ⊎ ((a.time.0 ≡ b.time.0) × ((a.seat.0 < b.seat.0) ⊎ ((a.seat.0 ≡ b.seat.0) × (a.cell < b.cell))))

unfoldable pub good_edit : Limits → (n rounds : ℕ) → Edit → Bool
good_edit L n R e =
    within 0 (n - 1) e.seat.0
    && within 0 R e.time.0
    && within 0 L.largest_cell e.cell
    && within 0 L.largest_mapped_change (mapped e.change)

unfoldable pub good_edits : Limits → (n rounds : ℕ) → Option Edit → List Edit → Bool
good_edits L n R before [] = true
good_edits L n R before (e ∷ edits) = good_edit L n R e && follows before e && good_edits L n R (Some e) edits

-- ════ The record ════

-- The header's count of edits is the length of their list.
unfoldable pub good_record : Limits → Record → Bool
good_record L r =
    good_header L r.header
    && good_rounds r.header.seats r.header.rounds r.losses
    && eqb (length r.edits) r.header.edits
    && good_edits L r.header.seats r.header.rounds None r.edits
