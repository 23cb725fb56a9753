-- Why a byte string is refused, as document 01 orders it: from the front, the first number at fault decides; its form (1, 2) is
-- looked at before its value (3, 4); an edit's order (5) once its four numbers are there; and what is left over (6) at the end. No
-- reading is done here: a byte string is cut after what is good, and the number that comes next is looked at.
use Rattle.std.specs.Prelude.{◌≡◌, Bool, true, false, ◌&&◌, List, [], ◌∷◌, ◌++◌, ℕ, ◌-◌, ◌*◌, ◌^◌, ◌<◌, leb, ltb, length, Option, None, Some}
use Rattle.farm.specs.Limits.{Limits}
use Rattle.farm.specs.Sets.{Seats}
use Rattle.farm.specs.declared.places.Seat.{Seat}
use Rattle.farm.specs.declared.places.Time.{Time}
use Rattle.farm.specs.declared.refusals.Refusal.{Refusal}
use Rattle.farm.specs.declared.refusals.Refusal.TheVariants.{EndsEarly, BadForm, OutOfRange, BadLossSet, BadOrder, BytesLeft}
use Rattle.record.specs.declared.header.Header.{Header}
use Rattle.record.specs.declared.edits.Edit.{Edit}
use Rattle.record.specs.Numbers.{number_bytes}
use Rattle.record.specs.Header.{header_bytes}
use Rattle.record.specs.Losses.{first_seat, sender_of, good_set, loss_bytes}
use Rattle.record.specs.Edits.{follows, edit_bytes}
use Rattle.record.specs.Record.{Record, bytes_of}
use Rattle.record.specs.Good.{within, good_header, good_sets, good_rounds, good_edit, good_edits, good_record}

-- ════ What is wrong with one number ════

-- Every byte has its top bit set.
unfoldable pub continued : List ℕ → Bool
continued [] = true
continued (b ∷ bytes) = leb 128 b && continued bytes

pub data NumberFault (L : Limits) (bytes : List ℕ) : Refusal → Type 0 where
  -- 1: the bytes end, and every one of them says that another follows.
  ends_early : continued bytes ≡ true → length bytes < L.longest_number → NumberFault L bytes EndsEarly
  -- 2: the last byte that is allowed, the third, says that another follows.
  too_long : (front rest : List ℕ) → front ++ rest ≡ bytes → continued front ≡ true → length front ≡ L.longest_number → NumberFault L bytes BadForm
  -- 2: a last byte 0 after another byte.
  not_shortest : (front rest : List ℕ) → front ++ 0 ∷ rest ≡ bytes → continued front ≡ true → 0 < length front → length front < L.longest_number
      → NumberFault L bytes BadForm

-- ════ How far a record was read ════

-- Which number comes next, with everything that was read before it. In the edits that is a record whose last ones are missing.
pub data Spot : Type 0 where
  at_seats : Spot
  at_bound : (n : ℕ) → Spot
  at_rounds : (n t : ℕ) → Spot
  at_edits : (n t R : ℕ) → Spot
  at_loss_set : Header → List Seats → Spot
  at_seat : Record → Spot
  at_time : Record → Seat → Spot
  at_cell : Record → Seat → Time → Spot
  at_change : Record → Seat → Time → (cell : ℕ) → Spot

-- The bytes of what was read.
unfoldable pub up_to : Limits → Spot → List ℕ
up_to L at_seats = []
up_to L (at_bound n) = number_bytes L n
up_to L (at_rounds n t) = number_bytes L n ++ number_bytes L t
up_to L (at_edits n t R) = number_bytes L n ++ number_bytes L t ++ number_bytes L R
up_to L (at_loss_set h sets) = header_bytes L h ++ loss_bytes L sets
up_to L (at_seat p) = bytes_of L p
up_to L (at_time p seat) = bytes_of L p ++ number_bytes L seat.0
up_to L (at_cell p seat time) = bytes_of L p ++ number_bytes L seat.0 ++ number_bytes L time.0
up_to L (at_change p seat time cell) = bytes_of L p ++ number_bytes L seat.0 ++ number_bytes L time.0 ++ number_bytes L cell

-- ════ What the next number has to be ════

unfoldable pub fits : Limits → Spot → ℕ → Bool
fits L at_seats v = within L.fewest_seats L.most_seats v
fits L (at_bound n) v = within 0 (n - 1) v
fits L (at_rounds n t) v = within 0 L.most_rounds v
fits L (at_edits n t R) v = within 0 L.most_edits v
fits L (at_loss_set h sets) v = good_set h.seats (sender_of h.seats (length sets)) v
fits L (at_seat p) v = within 0 (p.header.seats - 1) v
fits L (at_time p seat) v = within 0 p.header.rounds v
fits L (at_cell p seat time) v = within 0 L.largest_cell v
fits L (at_change p seat time cell) v = within 0 L.largest_mapped_change v

-- The refusal of a number that does not fit: 4 for a loss set, else 3.
unfoldable pub refusal_at : Spot → Refusal
refusal_at at_seats = OutOfRange
refusal_at (at_bound n) = OutOfRange
refusal_at (at_rounds n t) = OutOfRange
refusal_at (at_edits n t R) = OutOfRange
refusal_at (at_loss_set h sets) = BadLossSet
refusal_at (at_seat p) = OutOfRange
refusal_at (at_time p seat) = OutOfRange
refusal_at (at_cell p seat time) = OutOfRange
refusal_at (at_change p seat time cell) = OutOfRange

-- Header and losses are good and complete, the edits are good, and another one is to come.
unfoldable pub good_so_far : Limits → Record → Bool
good_so_far L p =
    good_header L p.header
    && good_rounds p.header.seats p.header.rounds p.losses
    && ltb (length p.edits) p.header.edits
    && good_edits L p.header.seats p.header.rounds None p.edits

-- Everything that was read is good, and the number is to come.
unfoldable pub good_up_to : Limits → Spot → Bool
good_up_to L at_seats = true
good_up_to L (at_bound n) = fits L at_seats n
good_up_to L (at_rounds n t) = fits L at_seats n && fits L (at_bound n) t
good_up_to L (at_edits n t R) = fits L at_seats n && fits L (at_bound n) t && fits L (at_rounds n t) R
good_up_to L (at_loss_set h sets) = good_header L h && ltb (length sets) (h.seats * h.rounds) && good_sets h.seats first_seat sets
good_up_to L (at_seat p) = good_so_far L p
good_up_to L (at_time p seat) = good_so_far L p && fits L (at_seat p) seat.0
good_up_to L (at_cell p seat time) = good_so_far L p && fits L (at_seat p) seat.0 && fits L (at_time p seat) time.0
good_up_to L (at_change p seat time cell) =
    good_so_far L p && fits L (at_seat p) seat.0 && fits L (at_time p seat) time.0 && fits L (at_cell p seat time) cell

-- The edit that the next one has to come after.
unfoldable pub last_of : Option Edit → List Edit → Option Edit
last_of before [] = before
last_of before (e ∷ edits) = last_of (Some e) edits

-- ════ The four reasons ════

pub data Fault (L : Limits) (bytes : List ℕ) : Refusal → Type 0 where
  -- 1 or 2: after what is good, the next number is not complete, or not in its shortest form.
  bad_number : (spot : Spot) (rest : List ℕ) (r : Refusal) → good_up_to L spot ≡ true → up_to L spot ++ rest ≡ bytes
      → NumberFault L rest r → Fault L bytes r
  -- 3 or 4: the next number is complete and in its shortest form, and does not fit.
  bad_value : (spot : Spot) (v : ℕ) (rest : List ℕ) → good_up_to L spot ≡ true → up_to L spot ++ (number_bytes L v ++ rest) ≡ bytes
      → v < 128 ^ L.longest_number → fits L spot v ≡ false → Fault L bytes (refusal_at spot)
  -- 5: the next edit is complete and its four numbers fit, and it is not after the one before.
  bad_order : (p : Record) (e : Edit) (rest : List ℕ) → good_so_far L p ≡ true → bytes_of L p ++ edit_bytes L e ++ rest ≡ bytes
      → good_edit L p.header.seats p.header.rounds e ≡ true → follows (last_of None p.edits) e ≡ false → Fault L bytes BadOrder
  -- 6: after a whole good record there is another byte.
  bytes_left : (r : Record) (b : ℕ) (rest : List ℕ) → good_record L r ≡ true → bytes_of L r ++ (b ∷ rest) ≡ bytes → Fault L bytes BytesLeft
