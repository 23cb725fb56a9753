-- What is proved of records, as statements with names. Each has its proof under the same name in proofs/Promises.antt.
use Rattle.std.specs.Prelude.{◌≡◌, ◌↔◌, ◌≢◌, true, false, List, ℕ, ◌+◌, ◌*◌, ◌≤◌, ◌<◌, ℤ, length, get_or, take, drop}
use Rattle.farm.specs.Limits.{Limits, limits}
use Rattle.farm.specs.Sets.{Seats, bit}
use Rattle.farm.specs.declared.places.Seat.{Seat}
use Rattle.farm.specs.declared.places.Time.{Time}
use Rattle.farm.specs.declared.refusals.Refusal.{Refusal}
use Rattle.record.specs.declared.edits.Edit.{Edit}
use Rattle.record.specs.Taking.{IsBytes, refused}
use Rattle.record.specs.Numbers.{take_number}
use Rattle.record.specs.Changes.{mapped, unmapped}
use Rattle.record.specs.Losses.{good_set}
use Rattle.record.specs.Edits.{rises}
use Rattle.record.specs.Record.{Record, good, bad, reading_of, bytes_of}
use Rattle.record.specs.Good.{IsAfter, good_rounds, good_record}
use Rattle.record.specs.Widths.{Wide}
use Rattle.record.specs.Tables.{Tables, roomy, read_into, tables_after}
use Rattle.record.specs.Columns.{tables_of, laid, used}
use Rattle.record.specs.Faults.{Fault, NumberFault}
use Rattle.record.specs.ListFaults.{ListFault}
use Rattle.record.specs.Longest.{longest}
use Rattle.record.specs.Writing.{header_from, checked_lists, count, unwritten, written_to, buffer_after}

-- ════ Numbers ════

-- Every change has its number and every number its change, each the other's.
abbrev pub ChangeHasItsNumber : Type 0
ChangeHasItsNumber = ((d : ℤ) → unmapped (mapped d) ≡ d) × ((m : ℕ) → mapped (unmapped m) ≡ m)

-- Every number that document 01 allows in a record fits three bytes.
abbrev pub DocumentNumbersFit : Type 0
DocumentNumbersFit = Wide limits

-- ════ What a good record is ════

-- Edits are in the order of time, then seat, then cell, and an edit is never after itself: the order is strict.
abbrev pub EditsRiseStrictly : Type 0
EditsRiseStrictly = ((a b : Edit) → (rises a b ≡ true) ↔ IsAfter a b) × ((e : Edit) → rises e e ≡ false)

-- A loss set is good exactly when every seat in it is below n and is not the sender.
abbrev pub LossSetIsGood : Type 0
LossSetIsGood =
    (n : ℕ) (sender : Seat) (set : Seats)
    → (good_set n sender set ≡ true) ↔ ((q : Seat) → bit set q.0 ≡ true → (q.0 < n) × (q ≢ sender))

-- The losses are good exactly when there are n sets for each round, and the set at place k * n + z, of the round that begins at time k, is
-- good for sender z.
abbrev pub LossesStandRoundByRound : Type 0
LossesStandRoundByRound =
    (n R : ℕ) (losses : List Seats)
    → (good_rounds n R losses ≡ true)
    ↔ ((length losses ≡ n * R) × ((k : Time) (z : Seat) → k.0 < R → z.0 < n → good_set n z (get_or losses (k.0 * n + z.0) 0) ≡ true))

-- ════ Condition 2: records read back as they were written ════

-- Lists that are accepted for writing give bytes that read as the record with exactly those numbers and lists.
abbrev pub WrittenListsReadBack : Type 0
WrittenListsReadBack =
    (L : Limits) → Wide L → (n t R : ℕ) (lists : Tables) (r : Record) → checked_lists L n t R lists ≡ good r
    → (reading_of L (bytes_of L r) ≡ good r) × (r.header ≡ header_from n t R lists) × (tables_of r ≡ lists)

-- So the lists come back in lent tables: their entries first, and the old ones past them.
abbrev pub WrittenListsFillTables : Type 0
WrittenListsFillTables =
    (L : Limits) → Wide L → (n t R : ℕ) (lists : Tables) (r : Record) (old : Tables) → checked_lists L n t R lists ≡ good r
    → roomy L old ≡ true → tables_after (read_into L old (bytes_of L r)) old ≡ laid lists old

-- The same of a lent buffer: the bytes that were counted as written read as what was accepted.
abbrev pub WrittenBufferReadsBack : Type 0
WrittenBufferReadsBack =
    (L : Limits) → Wide L → (n t R : ℕ) (lists : Tables) (old : List ℕ) (k : ℕ) → written_to L n t R lists (length old) ≡ count k
    → reading_of L (take k (buffer_after L n t R lists old)) ≡ checked_lists L n t R lists

-- Writing puts the record in front and leaves the bytes past it as they were.
abbrev pub WrittenBufferKeepsTheRest : Type 0
WrittenBufferKeepsTheRest =
    (L : Limits) (n t R : ℕ) (lists : Tables) (old : List ℕ) (k : ℕ) → written_to L n t R lists (length old) ≡ count k
    → (length (buffer_after L n t R lists old) ≡ length old) × (drop k (buffer_after L n t R lists old) ≡ drop k old)

-- A refusal leaves the buffer as it was.
abbrev pub RefusedWritingLeavesTheBuffer : Type 0
RefusedWritingLeavesTheBuffer =
    (L : Limits) (n t R : ℕ) (lists : Tables) (old : List ℕ) (f : Refusal) → written_to L n t R lists (length old) ≡ unwritten f
    → buffer_after L n t R lists old ≡ old

-- ════ Condition 2: each accepted record is written again in the same bytes ════

-- Whatever reads as a record, the record's own lists are accepted for writing, and its bytes are those that were read.
abbrev pub ReadRecordIsWrittenAgain : Type 0
ReadRecordIsWrittenAgain =
    (L : Limits) (bytes : List ℕ) (r : Record) → IsBytes bytes → reading_of L bytes ≡ good r
    → (checked_lists L r.header.seats r.header.bound r.header.rounds (tables_of r) ≡ good r) × (bytes_of L r ≡ bytes)

-- So the used part of the tables after a reading is written again in the same bytes.
abbrev pub ReadTablesAreWrittenAgain : Type 0
ReadTablesAreWrittenAgain =
    (L : Limits) (bytes : List ℕ) (old : Tables) (r : Record) → IsBytes bytes → read_into L old bytes ≡ good r
    → (checked_lists L r.header.seats r.header.bound r.header.rounds (used r.header (tables_after (read_into L old bytes) old))
    ≡ good r)
    × (bytes_of L r ≡ bytes)

-- Two different byte strings never read as the same record.
abbrev pub RecordHasOneByteString : Type 0
RecordHasOneByteString =
    (L : Limits) (a b : List ℕ) (r : Record) → IsBytes a → IsBytes b → reading_of L a ≡ good r → reading_of L b ≡ good r → a ≡ b

-- Both at once: bytes read as a record exactly when the record is good and they are its bytes.
abbrev pub ReadsExactlyGoodRecords : Type 0
ReadsExactlyGoodRecords =
    (L : Limits) → Wide L → (bytes : List ℕ) → IsBytes bytes → (r : Record)
    → (reading_of L bytes ≡ good r) ↔ ((good_record L r ≡ true) × (bytes_of L r ≡ bytes))

-- ════ Lengths ════

-- At document 01's limits a good record has at most 4,990 bytes, and this one has exactly that many.
abbrev pub LongestRecord : Type 0
LongestRecord =
    ((r : Record) → good_record limits r ≡ true → length (bytes_of limits r) ≤ 4990)
    × (good_record limits longest ≡ true)
    × (length (bytes_of limits longest) ≡ 4990)

-- ════ Condition 1: the refusal is the one that document 01's order decides ════

-- A byte string is refused with a number exactly for the fault that has the number. So the first faulty number in byte order decides,
-- 1 or 2 come before 3 or 4, 5 comes when an edit's four numbers fit, and 6 when all else is good.
abbrev pub RefusedExactlyForItsFault : Type 0
RefusedExactlyForItsFault =
    (L : Limits) → Wide L → (bytes : List ℕ) → IsBytes bytes → (r : Refusal) → (reading_of L bytes ≡ bad r) ↔ Fault L bytes r

-- What is wrong with one number, where it is 1 and where it is 2.
abbrev pub NumberRefusedExactlyForItsFault : Type 0
NumberRefusedExactlyForItsFault =
    (L : Limits) → Wide L → (bytes : List ℕ) (r : Refusal) → (take_number L bytes ≡ refused r) ↔ NumberFault L bytes r

-- Lists are refused for writing with a number exactly for the fault that has the number.
abbrev pub ListsRefusedExactlyForTheirFault : Type 0
ListsRefusedExactlyForTheirFault =
    (L : Limits) (n t R : ℕ) (lists : Tables) (f : Refusal) → (checked_lists L n t R lists ≡ bad f) ↔ ListFault L n t R lists f
