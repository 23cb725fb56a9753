-- Document 01, "Proved examples": P1 to P12 in a single table under a single statement.
use Rattle.std.specs.Prelude.{◌≡◌, cond, List, [], ◌∷◌, ◌++◌, map, ℕ, zero, suc, ℤ, pos, negsuc}
use Rattle.farm.specs.Sets.{Seats, bit}
use Rattle.farm.specs.Refusals.{number_of}
use Rattle.farm.specs.declared.places.Seat.{Seat}
use Rattle.farm.specs.declared.places.Time.{Time}
use Rattle.farm.specs.declared.refusals.Refusal.TheVariants.{OverBound}
use Rattle.knowledge.specs.Farm.{Farm, farm_of, seat, time}
use Rattle.knowledge.specs.Views.{view_of, latest_times}
use Rattle.knowledge.specs.Known.{known_of}
use Rattle.knowledge.specs.Settled.{Settled, Outcome, over_bound, settled, outcome_of}
use Rattle.record.specs.Record.{Record, Reading, good, bad}
use Rattle.record.specs.Document.{number_bytes, reading_of, bytes_of}

-- ════ The shape of the table ════

-- One thing that a row says was found. A set is the list of its seats.
pub data Found : Type 0 where
  view core : List ℤ → Found
  known kept : List ℕ → Found
  critical : ℤ → Found
  steps : ℕ → Found
  refused : ℕ → Found

pub data Row : Type 0 where
  asked : Farm → Seat → Time → List Found → Row
  reads : (bytes : List ℕ) → Reading → Row
  written : (bytes : List ℕ) → (again : List ℕ) → Row
  number : (n : ℕ) → (bytes : List ℕ) → Row

-- ════ What the definitions answer ════

unfoldable pub seats_in : (n : ℕ) → Seats → List ℕ
seats_in zero set = []
seats_in (suc n) set = seats_in n set ++ cond (bit set n) (n ∷ []) []

unfoldable pub settled_found : Farm → Outcome → (Settled → Found) → Found
settled_found farm over_bound item = refused (number_of OverBound)
settled_found farm (settled s) item = item s

-- The same item, as the definitions have it.
unfoldable pub answer : Farm → Seat → Time → Found → Found
answer farm p ℓ (view said) = view (latest_times farm.seats (view_of farm p ℓ))
answer farm p ℓ (known said) = known (seats_in farm.seats (known_of farm p ℓ))
answer farm p ℓ (core said) = settled_found farm (outcome_of farm p ℓ) (λ s. core (latest_times farm.seats s.core))
answer farm p ℓ (kept said) = settled_found farm (outcome_of farm p ℓ) (λ s. kept (seats_in farm.seats s.kept))
answer farm p ℓ (critical said) = settled_found farm (outcome_of farm p ℓ) (λ s. critical s.critical)
answer farm p ℓ (steps said) = settled_found farm (outcome_of farm p ℓ) (λ s. steps s.steps)
answer farm p ℓ (refused said) = settled_found farm (outcome_of farm p ℓ) (λ s. critical s.critical)

unfoldable pub bytes_again : Reading → List ℕ
bytes_again (good r) = bytes_of r
bytes_again (bad r) = []

-- The row, with each thing found replaced by what the definitions answer.
unfoldable pub answered : Row → Row
answered (asked farm p ℓ found) = asked farm p ℓ (map (answer farm p ℓ) found)
answered (reads bytes r) = reads bytes (reading_of bytes)
answered (written bytes again) = written bytes (bytes_again (reading_of bytes))
answered (number n bytes) = number n (number_bytes n)

-- ════ The table ════

-- Signed numbers as document 01 prints them.
abbrev -3 : ℤ
-3 = negsuc 2

abbrev -2 : ℤ
-2 = negsuc 1

abbrev -1 : ℤ
-1 = negsuc 0

abbrev +0 : ℤ
+0 = pos 0

abbrev +1 : ℤ
+1 = pos 1

abbrev +2 : ℤ
+2 = pos 2

abbrev +3 : ℤ
+3 = pos 3

-- The losses stand as in a record: for each round, for each sender, the set of those that were not reached.

-- n 3, t 1, R 3, no loss.
abbrev nothing_lost : Farm
nothing_lost = farm_of 3 1 3 (0 ∷ 0 ∷ 0 ∷ 0 ∷ 0 ∷ 0 ∷ 0 ∷ 0 ∷ 0 ∷ [])

-- n 3, t 1, R 2; round 1 lost 2 to 0.
abbrev one_loss : Farm
one_loss = farm_of 3 1 2 (0 ∷ 0 ∷ 1 ∷ 0 ∷ 0 ∷ 0 ∷ [])

-- n 3, t 2, R 3; round 1 lost 2 to 1, round 3 lost 1 to 0.
abbrev late_loss : Farm
late_loss = farm_of 3 2 3 (0 ∷ 0 ∷ 2 ∷ 0 ∷ 0 ∷ 0 ∷ 0 ∷ 1 ∷ 0 ∷ [])

-- n 3, t 1, R 1; round 1 lost 1 to 0 and 2 to 0.
abbrev two_losses : Farm
two_losses = farm_of 3 1 1 (0 ∷ 1 ∷ 1 ∷ [])

-- n 2, t 0, R 1, no loss.
abbrev two_seats : Farm
two_seats = farm_of 2 0 1 (0 ∷ 0 ∷ [])

-- The printed record: the losses of P4, one edit by seat 2 at time 0, cell 5, change −3.
abbrev printed_bytes : List ℕ
printed_bytes =
    0x03 ∷ 0x01 ∷ 0x02 ∷ 0x01 ∷ 0x00 ∷ 0x00 ∷ 0x01 ∷ 0x00 ∷ 0x00 ∷ 0x00 ∷ 0x02 ∷ 0x00 ∷ 0x05 ∷ 0x05 ∷ []

abbrev printed_record : Record
printed_record = record {
  header = record { seats = 3; bound = 1; rounds = 2; edits = 1 };
  losses = 0 ∷ 0 ∷ 1 ∷ 0 ∷ 0 ∷ 0 ∷ [];
  edits = record { seat = seat 2; time = time 0; cell = 5; change = -3 } ∷ [];
}

abbrev pub table : List Row
table =
    -- P1
    asked nothing_lost (seat 0) (time 0)
    (view (+0 ∷ -1 ∷ -1 ∷ []) ∷ critical -2 ∷ core (-1 ∷ -1 ∷ -1 ∷ []) ∷ steps 1 ∷ [])
    -- P2
    ∷ asked nothing_lost (seat 0) (time 2)
    (view (+2 ∷ +1 ∷ +1 ∷ []) ∷ critical +0 ∷ core (+0 ∷ +0 ∷ +0 ∷ []) ∷ steps 1 ∷ [])
    -- P3
    ∷ asked nothing_lost (seat 0) (time 3) (critical +1 ∷ core (+1 ∷ +1 ∷ +1 ∷ []) ∷ steps 1 ∷ [])
    -- P4
    ∷ asked one_loss (seat 0) (time 1)
    (view (+1 ∷ +0 ∷ -1 ∷ []) ∷ known (2 ∷ []) ∷ critical -1 ∷ kept [] ∷ core (-1 ∷ -1 ∷ -1 ∷ []) ∷ steps 2 ∷ [])
    -- P5
    ∷ asked one_loss (seat 1) (time 1) (view (+0 ∷ +1 ∷ +0 ∷ []) ∷ known [] ∷ critical -1 ∷ steps 1 ∷ [])
    -- P6
    ∷ asked one_loss (seat 0) (time 2)
    (view (+2 ∷ +1 ∷ +1 ∷ []) ∷ kept (2 ∷ []) ∷ critical +1 ∷ core (+1 ∷ +1 ∷ +0 ∷ []) ∷ steps 1 ∷ [])
    -- P7
    ∷ asked late_loss (seat 0) (time 3)
    (view (+3 ∷ +1 ∷ +2 ∷ []) ∷ known (1 ∷ 2 ∷ []) ∷ kept (2 ∷ []) ∷ critical +1 ∷ core (+1 ∷ +1 ∷ +0 ∷ []) ∷ steps 2 ∷ [])
    -- P8
    ∷ asked late_loss (seat 1) (time 3)
    (view (+2 ∷ +3 ∷ +2 ∷ []) ∷ known (2 ∷ []) ∷ critical +1 ∷ core (+1 ∷ +1 ∷ +0 ∷ []) ∷ steps 1 ∷ [])
    -- P9
    ∷ asked two_losses (seat 0) (time 1) (refused 9 ∷ [])
    ∷ asked two_losses (seat 1) (time 1) (critical -1 ∷ [])
    -- P10
    ∷ asked two_seats (seat 0) (time 0) (critical -1 ∷ core (-1 ∷ -1 ∷ []) ∷ [])
    ∷ asked two_seats (seat 0) (time 1) (critical +0 ∷ core (+0 ∷ +0 ∷ []) ∷ [])
    -- P11
    ∷ reads printed_bytes (good printed_record)
    ∷ written printed_bytes printed_bytes
    -- P12
    ∷ number 127 (0x7F ∷ [])
    ∷ number 128 (0x80 ∷ 0x01 ∷ [])
    ∷ number 16384 (0x80 ∷ 0x80 ∷ 0x01 ∷ [])
    ∷ number 65535 (0xFF ∷ 0xFF ∷ 0x03 ∷ [])
    ∷ []

-- Everything that the table says was found is what the definitions answer.
abbrev pub ExamplesHold : Type 0
ExamplesHold = map answered table ≡ table
