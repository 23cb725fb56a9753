-- A record in tables that a host lends: the loss sets, and a list for each field of the edits.
use Rattle.std.specs.Prelude.{◌≡◌, Bool, cond, ◌&&◌, List, [], ◌∷◌, ◌++◌, ℕ, ◌+◌, ◌*◌, leb, ℤ, length, take, drop}
use Rattle.farm.specs.Limits.{Limits}
use Rattle.farm.specs.Sets.{Seats}
use Rattle.farm.specs.declared.refusals.Refusal.TheVariants.{NoRoom}
use Rattle.record.specs.declared.edits.Edit.{Edit}
use Rattle.record.specs.Record.{Record, Reading, good, bad, reading_of}

pub record Tables : Type 0 where
  pub losses : List Seats
  pub seats : List ℕ
  pub times : List ℕ
  pub cells : List ℕ
  pub changes : List ℤ

abbrev pub tables : (losses seats times cells : List ℕ) (changes : List ℤ) → Tables
tables losses seats times cells changes =
    record { losses = losses; seats = seats; times = times; cells = cells; changes = changes }

-- ════ Edits as lists of their fields ════

unfoldable pub seats_of : List Edit → List ℕ
seats_of [] = []
seats_of (e ∷ edits) = e.seat.0 ∷ seats_of edits

unfoldable pub times_of : List Edit → List ℕ
times_of [] = []
times_of (e ∷ edits) = e.time.0 ∷ times_of edits

unfoldable pub cells_of : List Edit → List ℕ
cells_of [] = []
cells_of (e ∷ edits) = e.cell ∷ cells_of edits

unfoldable pub changes_of : List Edit → List ℤ
changes_of [] = []
changes_of (e ∷ edits) = e.change ∷ changes_of edits

abbrev pub edit_of : (seat time cell : ℕ) → ℤ → Edit
edit_of seat time cell change = record { seat = record { 0 = seat }; time = record { 0 = time }; cell = cell; change = change }

-- The edits in four parallel lists, up to the end of the shortest.
unfoldable pub edits_from : (seats times cells : List ℕ) → List ℤ → List Edit
edits_from [] times cells changes = []
edits_from (s ∷ seats) [] cells changes = []
edits_from (s ∷ seats) (t ∷ times) [] changes = []
edits_from (s ∷ seats) (t ∷ times) (c ∷ cells) [] = []
edits_from (s ∷ seats) (t ∷ times) (c ∷ cells) (d ∷ changes) = edit_of s t c d ∷ edits_from seats times cells changes

-- ════ Reading into tables ════

-- A list with other entries from a place on. The entries before and after them stay.
unfoldable pub over : {A : Type 0} (at : ℕ) (new old : List A) → List A
over at new old = take at old ++ (new ++ drop (at + length new) old)

-- Room for any record, whatever this one holds.
unfoldable pub roomy : Limits → Tables → Bool
roomy L t =
    leb (L.most_seats * L.most_rounds) (length t.losses)
    && (leb L.most_edits (length t.seats)
    && (leb L.most_edits (length t.times) && (leb L.most_edits (length t.cells) && leb L.most_edits (length t.changes))))

-- Refusal 7 first, then the record's own.
unfoldable pub read_into : Limits → Tables → List ℕ → Reading
read_into L t bytes = cond (roomy L t) (reading_of L bytes) (bad NoRoom)

-- The tables afterwards: a good record's entries first and the later ones as they were; after a refusal all as they were.
unfoldable pub tables_after : Reading → Tables → Tables
tables_after (good r) t =
    record {
      losses = over 0 r.losses t.losses;
      seats = over 0 (seats_of r.edits) t.seats;
      times = over 0 (times_of r.edits) t.times;
      cells = over 0 (cells_of r.edits) t.cells;
      changes = over 0 (changes_of r.edits) t.changes;
    }
tables_after (bad r) t = t

-- Tables that a reading left: list by list what `tables_after` says.
pub record TablesRead (reading : Reading) (before after : Tables) : Type 0 where
  pub losses : after.losses ≡ (tables_after reading before).losses
  pub seats : after.seats ≡ (tables_after reading before).seats
  pub times : after.times ≡ (tables_after reading before).times
  pub cells : after.cells ≡ (tables_after reading before).cells
  pub changes : after.changes ≡ (tables_after reading before).changes

-- A reading that gives a record.
pub record Accepted (reading : Reading) : Type 0 where
  pub what : Record
  pub is : reading ≡ good what
