-- Condition 1: every refusal is given by its number, exactly where its words hold, and in document 01's order.
use Rattle.std.specs.Prelude.{◌≡◌, ◌↔◌, ◌≢◌, List, [], ◌∷◌, ℕ, ◌*◌, ◌≤◌, ◌<◌, length, Result, Option, Some, None}
use Rattle.farm.specs.Limits.{limits}
use Rattle.farm.specs.declared.places.Seat.{Seat}
use Rattle.farm.specs.declared.places.Time.{Time}
use Rattle.farm.specs.declared.refusals.Refusal.{Refusal}
use Rattle.farm.specs.declared.refusals.Refusal.TheVariants.{EndsEarly, BadForm, OutOfRange, BadLossSet, BadOrder, BytesLeft}
use Rattle.farm.specs.Refusals.{number_of}
use Rattle.knowledge.specs.Views.{InView}
use Rattle.knowledge.specs.Known.{Known}
use Rattle.record.specs.declared.header.Header.{Header}
use Rattle.record.specs.declared.edits.Edit.{Edit}
use Rattle.record.specs.Answers.{written_in}
use Rattle.record.specs.Document.{reading_of, bytes_of}
use Rattle.record.specs.Faults.{Fault, last_of}
use Rattle.record.specs.Record.{Record, Reading, good, bad}
use Rattle.record.specs.Tables.{Tables}
use Rattle.record.specs.Taking.{IsBytes}
use Rattle.record.specs.Writing.{edits_in, record_from, checked_lists, needed_by, written_to, buffer_after, answered, buffer_with}
use Rattle.reading.specs.Outcome.{ReadOutcome}
use Rattle.questions.specs.Question.{Lent, by_value, buffer, farm_of_record, view_asked, known_asked, settled_asked, core_asked, marks_asked, count_asked, loser_asked}
use Rattle.live_table.specs.declared.table.Table.{Table}
use Rattle.live_table.specs.Used.{used_record, table_reading}
use Rattle.live.specs.Answers.{Done, Ends}
use Rattle.live.specs.Calls.{Call, opening, round, edit, present_edit}
use Rattle.conditions.specs.Order.{Test, ◌unless◌, GiveThen, Give, asked_number, read_number, answer_number}
use Rattle.conditions.specs.Good.{NumbersFit, LossesFit, EditFits, Follows, GoodRecord}
use Rattle.conditions.specs.Rules.{AtMostSeats}

-- ════ A record as bytes: 1 to 6 ════

-- From the front, the first number at fault decides. `Fault` says for each refusal what stands before that number, and what is wrong
-- with it.
pub data BytesGive (bytes : List ℕ) : ℕ → Type 0 where
  none : (r : Record) → GoodRecord r → bytes_of r ≡ bytes → BytesGive bytes 0
  one : Fault limits bytes EndsEarly → BytesGive bytes 1
  two : Fault limits bytes BadForm → BytesGive bytes 2
  three : Fault limits bytes OutOfRange → BytesGive bytes 3
  four : Fault limits bytes BadLossSet → BytesGive bytes 4
  five : Fault limits bytes BadOrder → BytesGive bytes 5
  six : Fault limits bytes BytesLeft → BytesGive bytes 6

abbrev pub BytesRefusedByNumber : Type 0
BytesRefusedByNumber = (bytes : List ℕ) → IsBytes bytes → (k : ℕ) → BytesGive bytes k ↔ (read_number (reading_of bytes) ≡ k)

-- ════ A record as lists: 3, 10, 4, then edit by edit 3 and 5 ════

pub record LengthsFit (n R : ℕ) (lists : Tables) : Type 0 where
  pub losses : length lists.losses ≡ n * R
  pub times : length lists.times ≡ length lists.seats
  pub cells : length lists.cells ≡ length lists.seats
  pub changes : length lists.changes ≡ length lists.seats

abbrev pub edit_tests : (n R : ℕ) → Option Edit → List Edit → List Test
edit_tests n R before [] = []
edit_tests n R before (e ∷ edits) = 3 unless EditFits n R e ∷ 5 unless Follows before e ∷ edit_tests n R (Some e) edits

abbrev pub list_tests : (n t R : ℕ) → Tables → List Test
list_tests n t R lists =
    3 unless NumbersFit n t R (length lists.seats)
    ∷ 10 unless LengthsFit n R lists
    ∷ 4 unless LossesFit n R lists.losses
    ∷ edit_tests n R None (edits_in lists)

abbrev pub ListsRefusedInOrder : Type 0
ListsRefusedInOrder = (n t R : ℕ) (lists : Tables) → Give (list_tests n t R lists) (read_number (checked_lists limits n t R lists))

-- ════ Reading into tables: 7, then the record's own ════

pub record TablesLong (tables : Tables) : Type 0 where
  pub losses : 889 ≤ length tables.losses
  pub seats : 512 ≤ length tables.seats
  pub times : 512 ≤ length tables.times
  pub cells : 512 ≤ length tables.cells
  pub changes : 512 ≤ length tables.changes

abbrev pub ReadingRefusedInOrder : Type 0
ReadingRefusedInOrder =
    (bytes : List ℕ) (before : Tables) (answer : Result Header Refusal) (after : Tables) → IsBytes bytes → ReadOutcome bytes before answer after
    → GiveThen (7 unless TablesLong before ∷ []) (BytesGive bytes) (answer_number answer) × (answer_number answer ≢ 0 → after ≡ before)

-- ════ Writing: the refusals of lists, 7 last ════

abbrev pub room7 : Record → (room : ℕ) → Test
room7 r room = 7 unless (length (bytes_of r) ≤ room)

abbrev pub WritingRefusedInOrder : Type 0
WritingRefusedInOrder =
    (n t R : ℕ) (lists : Tables) (old : List ℕ) (answer : Result ℕ Refusal) (new : List ℕ)
    → answer ≡ written_in (written_to limits n t R lists (length old)) → new ≡ buffer_after limits n t R lists old
    → GiveThen (list_tests n t R lists) (Give (room7 (record_from n t R lists) (length old) ∷ [])) (answer_number answer)
    × (answer_number answer ≢ 0 → new ≡ old)

-- The length alone needs no room.
abbrev pub LengthRefusedInOrder : Type 0
LengthRefusedInOrder = (n t R : ℕ) (lists : Tables) → Give (list_tests n t R lists) (answer_number (written_in (needed_by limits n t R lists)))

-- ════ The live table: 19, and what is added to it ════

abbrev pub any19 : Table → Test
any19 table = 19 unless GoodRecord (used_record table)

abbrev pub TablesRefusedByNumber : Type 0
TablesRefusedByNumber = (table : Table) → Give (any19 table ∷ []) (read_number (table_reading table))

-- The record so far, written out: 19, 7.
abbrev pub WritingOutRefusedInOrder : Type 0
WritingOutRefusedInOrder =
    (table : Table) (old : List ℕ) (answer : Result ℕ Refusal) (new : List ℕ)
    → answer ≡ written_in (answered limits (table_reading table) (length old)) → new ≡ buffer_with limits (table_reading table) old
    → Give (any19 table ∷ room7 (used_record table) (length old) ∷ []) (answer_number answer) × (answer_number answer ≢ 0 → new ≡ old)

-- An opening takes a table in any state: 3. A round: 19, 11, 10, 4. An edit, placed at the present time: 19, 3, 12, 5.
abbrev pub call_tests : Call → Table → List Test
call_tests (opening n t) table = 3 unless NumbersFit n t 0 0 ∷ []
call_tests (round sets) table =
    any19 table
    ∷ 11 unless (table.rounds < 127)
    ∷ 10 unless (length sets ≡ table.seats)
    ∷ 4 unless LossesFit table.seats 1 sets
    ∷ []
call_tests (edit p cell change) table =
    any19 table
    ∷ 3 unless EditFits table.seats table.rounds (present_edit p cell change (used_record table))
    ∷ 12 unless (table.edits < 512)
    ∷ 5 unless Follows (last_of None (used_record table).edits) (present_edit p cell change (used_record table))
    ∷ []

abbrev pub CallsRefusedInOrder : Type 0
CallsRefusedInOrder =
    (call : Call) (before : Table) (answer : Done) (after : Table) → Ends call before answer after
    → Give (call_tests call before) (answer_number answer) × (answer_number answer ≢ 0 → after ≡ before)

-- ════ What is accepted is a good record: of the bytes, of the lists, in the used part of the table ════

pub record AcceptedIsGood (r : Record) : Type 0 where
  pub bytes : (bytes : List ℕ) → reading_of bytes ≡ good r → GoodRecord r
  pub lists : (n t R : ℕ) (lists : Tables) → checked_lists limits n t R lists ≡ good r → GoodRecord r × (r ≡ record_from n t R lists)
  pub table : (table : Table) → table_reading table ≡ good r → GoodRecord r × (r ≡ used_record table)

abbrev pub EachAcceptedIsGood : Type 0
EachAcceptedIsGood = (r : Record) → AcceptedIsGood r

-- ════ Questions: the record's refusals, 8, 7, 9; views and known sets never 9 ════

-- What carries the record is refused first.
abbrev pub AfterReading : Reading → (Record → List Test) → ℕ → Type 0
AfterReading (good r) tests k = Give (tests r) k
AfterReading (bad f) tests k = k ≡ number_of f

-- A buffer has room for what goes into it. By value there is no 7.
abbrev pub Room : Lent → ℕ → Type 0
Room by_value need = Unit {0}
Room (buffer entries) need = need ≤ entries

abbrev pub place8 : Seat → Time → Record → Test
place8 p ℓ r = 8 unless ((p.0 < r.header.seats) × (ℓ.0 ≤ r.header.rounds))

abbrev pub lent7 : Lent → ℕ → Test
lent7 lent need = 7 unless Room lent need

abbrev pub known9 : Seat → Time → Record → Test
known9 p ℓ r = 9 unless AtMostSeats r.header.seats r.header.bound (Known (farm_of_record r) (λ x. InView (farm_of_record r) x p ℓ))

pub record QuestionsInOrder (reading : Reading) (p : Seat) (ℓ : Time) (lent : Lent) : Type 0 where
  pub view : AfterReading reading (λ r. place8 p ℓ r ∷ lent7 lent r.header.seats ∷ []) (asked_number (view_asked lent reading p ℓ))
  pub known : AfterReading reading (λ r. place8 p ℓ r ∷ []) (asked_number (known_asked reading p ℓ))
  pub settled : AfterReading reading (λ r. place8 p ℓ r ∷ known9 p ℓ r ∷ []) (asked_number (settled_asked reading p ℓ))
  pub core : AfterReading reading (λ r. place8 p ℓ r ∷ lent7 lent r.header.seats ∷ known9 p ℓ r ∷ []) (asked_number (core_asked lent reading p ℓ))
  pub marks : AfterReading reading (λ r. place8 p ℓ r ∷ lent7 lent (length r.edits) ∷ known9 p ℓ r ∷ []) (asked_number (marks_asked lent reading p ℓ))
  pub count : AfterReading reading (λ r. place8 p ℓ r ∷ known9 p ℓ r ∷ []) (asked_number (count_asked reading p ℓ))
  pub loser : AfterReading reading (λ r. 8 unless (p.0 < r.header.seats) ∷ []) (asked_number (loser_asked reading p))

abbrev pub QuestionsRefusedInOrder : Type 0
QuestionsRefusedInOrder = (reading : Reading) (p : Seat) (ℓ : Time) (lent : Lent) → QuestionsInOrder reading p ℓ lent
