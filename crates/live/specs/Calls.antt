-- The live calls: what each adds to the record, what it is refused for, and what it leaves in the table.
use Rattle.std.specs.Prelude.{Bool, List, [], ◌∷◌, ◌++◌, ℕ, ◌+◌, ◌*◌, eqb, ltb, ℤ, length, None}
use Rattle.farm.specs.Limits.{limits}
use Rattle.farm.specs.Sets.{Seats}
use Rattle.farm.specs.declared.places.Seat.{Seat}
use Rattle.farm.specs.declared.refusals.Refusal.{Refusal}
use Rattle.farm.specs.declared.refusals.Refusal.TheVariants.{OutOfRange, BadLossSet, BadOrder, BadLengths, RoundsFull, EditsFull, BadTable}
use Rattle.record.specs.declared.header.Header.{Header}
use Rattle.record.specs.declared.edits.Edit.{Edit}
use Rattle.record.specs.Edits.{follows}
use Rattle.record.specs.Faults.{last_of}
use Rattle.record.specs.Losses.{first_seat}
use Rattle.record.specs.Good.{good_header, good_sets, good_edit, good_record}
use Rattle.record.specs.Record.{Record}
use Rattle.record.specs.Tables.{over}
use Rattle.record.specs.Writing.{Verdict, accepted, faulty, unless}
use Rattle.live_table.specs.declared.table.Table.{Table}
use Rattle.live_table.specs.Used.{used_record, table_of}

-- A call that can change the table. An edit has no time of its own: it is placed at the present one.
pub data Call : Type 0 where
  opening : (seats bound : ℕ) → Call
  round : List Seats → Call
  edit : Seat → (cell : ℕ) → ℤ → Call

-- ════ On the record ════

-- A record just opened: no rounds, no edits.
abbrev pub empty_header : (seats bound : ℕ) → Header
empty_header n t = record { seats = n; bound = t; rounds = 0; edits = 0 }

abbrev pub opened_record : (seats bound : ℕ) → Record
opened_record n t = record { header = empty_header n t; losses = []; edits = [] }

abbrev pub with_round : List Seats → Record → Record
with_round sets r = record {
  header = record {
    seats = r.header.seats;
    bound = r.header.bound;
    rounds = r.header.rounds + 1;
    edits = r.header.edits;
  };
  losses = r.losses ++ sets;
  edits = r.edits;
}

-- The edit at the present time, the number of rounds done.
abbrev pub present_edit : Seat → ℕ → ℤ → Record → Edit
present_edit seat cell change r = record { seat = seat; time = record { 0 = r.header.rounds }; cell = cell; change = change }

abbrev pub with_edit : Edit → Record → Record
with_edit e r = record {
  header = record {
    seats = r.header.seats;
    bound = r.header.bound;
    rounds = r.header.rounds;
    edits = r.header.edits + 1;
  };
  losses = r.losses;
  edits = r.edits ++ (e ∷ []);
}

-- ════ Refusals, in document 01's order ════

-- A test of a call, and the refusal that it gives where it fails. Each name has that refusal's number. The record is the one in the
-- used part, whatever it is.
abbrev pub Test : Type 0
Test = Bool × Refusal

abbrev pub any19 : Record → Test
any19 r = (good_record limits r, BadTable)

abbrev pub opening3 : (seats bound : ℕ) → Test
opening3 n t = (good_header limits (empty_header n t), OutOfRange)

abbrev pub round11 : Record → Test
round11 r = (ltb r.header.rounds limits.most_rounds, RoundsFull)

abbrev pub round10 : List Seats → Record → Test
round10 sets r = (eqb (length sets) r.header.seats, BadLengths)

abbrev pub round4 : List Seats → Record → Test
round4 sets r = (good_sets r.header.seats first_seat sets, BadLossSet)

abbrev pub edit3 : Edit → Record → Test
edit3 e r = (good_edit limits r.header.seats r.header.rounds e, OutOfRange)

abbrev pub edit12 : Record → Test
edit12 r = (ltb r.header.edits limits.most_edits, EditsFull)

abbrev pub edit5 : Edit → Record → Test
edit5 e r = (follows (last_of None r.edits) e, BadOrder)

-- The tests of each call, in the order in which they decide. An opening takes a table in any state; every other call tests 19 first.
unfoldable pub tests_of : Call → Record → List Test
tests_of (opening n t) r = opening3 n t ∷ []
tests_of (round sets) r = any19 r ∷ round11 r ∷ round10 sets r ∷ round4 sets r ∷ []
tests_of (edit seat cell change) r =
    any19 r ∷ edit3 (present_edit seat cell change r) r ∷ edit12 r ∷ edit5 (present_edit seat cell change r) r ∷ []

-- The first test that fails decides.
unfoldable pub first_failing : List Test → Verdict
first_failing [] = accepted
first_failing ((passes, refusal) ∷ tests) = unless passes refusal (first_failing tests)

-- ════ On the table ════

-- An accepted opening sets the four numbers and touches nothing else.
abbrev pub opened_table : (seats bound : ℕ) → Table → Table
opened_table n t table = table_of table.losses table.editors table.times table.cells table.changes n t 0 0

-- An accepted round goes behind the loss sets of the rounds done.
abbrev pub table_with_round : List Seats → Table → Table
table_with_round sets table = record {
  seats = table.seats;
  bound = table.bound;
  rounds = table.rounds + 1;
  edits = table.edits;
  losses = over (table.seats * table.rounds) sets table.losses;
  editors = table.editors;
  times = table.times;
  cells = table.cells;
  changes = table.changes;
}

-- An accepted edit goes behind the edits held.
abbrev pub table_with_edit : Seat → ℕ → ℤ → Table → Table
table_with_edit seat cell change table = record {
  seats = table.seats;
  bound = table.bound;
  rounds = table.rounds;
  edits = table.edits + 1;
  losses = table.losses;
  editors = over table.edits (seat.0 ∷ []) table.editors;
  times = over table.edits (table.rounds ∷ []) table.times;
  cells = over table.edits (cell ∷ []) table.cells;
  changes = over table.edits (change ∷ []) table.changes;
}

abbrev pub added : Call → Table → Table
added (opening n t) table = opened_table n t table
added (round sets) table = table_with_round sets table
added (edit seat cell change) table = table_with_edit seat cell change table

-- A refused call leaves every byte of the table.
unfoldable pub kept_or : Verdict → (kept new : Table) → Table
kept_or accepted kept new = new
kept_or (faulty refusal) kept new = kept

unfoldable pub answer_to : Call → Table → Verdict
answer_to call table = first_failing (tests_of call (used_record table))

unfoldable pub table_after : Call → Table → Table
table_after call table = kept_or (answer_to call table) table (added call table)
