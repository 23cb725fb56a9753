-- The promises of specs/Promises.antt, each proved under its own name.
-- Assumes nothing.
use mathlib.Core.Path.{sym, ◌∙◌, ap}
use lib.Dec.{lit<, lit≤}
use Rattle.record.specs.Record.{Reading, reading_of}
use Rattle.record.specs.Tables.{Tables, read_into, tables_after}
use Rattle.record.specs.Columns.{laid, used}
use Rattle.record.specs.Writing.{checked_lists, written_to, buffer_after}
use Rattle.record.specs.Promises.{ChangeHasItsNumber, DocumentNumbersFit, EditsRiseStrictly, LossSetIsGood, LossesStandRoundByRound, WrittenBufferKeepsTheRest, RefusedWritingLeavesTheBuffer, WrittenListsReadBack, WrittenListsFillTables, WrittenBufferReadsBack, ReadRecordIsWrittenAgain, ReadTablesAreWrittenAgain, RecordHasOneByteString, ReadsExactlyGoodRecords, LongestRecord, RefusedExactlyForItsFault, NumberRefusedExactlyForItsFault, ListsRefusedExactlyForTheirFault}
use Rattle.record.proofs.ChangeLaws.{unmapped-mapped, mapped-unmapped}
use Rattle.record.proofs.RoundLaws.{rounds-elim, rounds-intro}
use Rattle.record.proofs.ReadBack.{reading-back}
use Rattle.record.proofs.WrittenAgain.{reading-again}
use Rattle.record.proofs.LengthLaws.{record-length, longest-good, longest-length}
use Rattle.record.proofs.FaultLaws.{fault-refused}
use Rattle.record.proofs.NumberFaultLaws.{refused-number-fault, number-fault-refused}
use Rattle.record.proofs.ListFaultLaws.{lists-faulty, fault-of-lists}
use Rattle.record.proofs.FaultFound.{refused-fault}
use Rattle.record.proofs.WritingLaws.{lists-accepted, good-lists-accepted, counted, take_counted, rest-kept, refused-leaves}
use Rattle.record.proofs.ColumnLaws.{laid-after, read-into-good, used-after}
use Rattle.record.proofs.OrderLaws.{rises-elim, rises-intro, rises-not-itself, set-elim, set-intro}

-- ════ Numbers ════

pub change-has-its-number : ChangeHasItsNumber
change-has-its-number = (unmapped-mapped, mapped-unmapped)

pub document-numbers-fit : DocumentNumbersFit
document-numbers-fit =
    record { some_byte = lit≤ tt; seats = lit≤ tt; rounds = lit< tt; edits = lit< tt; cells = lit< tt; changes = lit< tt }

-- ════ What a good record is ════

pub edits-rise-strictly : EditsRiseStrictly
edits-rise-strictly = (λ a b. (rises-elim a b, rises-intro a b), rises-not-itself)

pub loss-set-is-good : LossSetIsGood
loss-set-is-good n sender set = (set-elim n sender set, set-intro n sender set)

pub losses-stand-round-by-round : LossesStandRoundByRound
losses-stand-round-by-round n R losses = (rounds-elim n R losses, rounds-intro n R losses)

-- ════ Write, then read ════

pub written-lists-read-back : WrittenListsReadBack
written-lists-read-back L wide n t R lists r e =
    let a = lists-accepted L n t R lists r e in
    (reading-back L wide r a.sound, a.header, a.tables)

pub written-lists-fill-tables : WrittenListsFillTables
unfolding read_into
written-lists-fill-tables L wide n t R lists r old e room =
    let a = lists-accepted L n t R lists r e in
    rw (room, reading-back L wide r a.sound) (laid-after r old ∙ ap (λ (new : Tables). laid new old) a.tables)

pub written-buffer-reads-back : WrittenBufferReadsBack
unfolding written_to buffer_after
written-buffer-reads-back L wide n t R lists old k e =
    let c = counted L (checked_lists L n t R lists) old k e in
    let a = lists-accepted L n t R lists c.written c.sound in
    ap (reading_of L) (take_counted L (checked_lists L n t R lists) old k c) ∙ reading-back L wide c.written a.sound ∙ sym c.sound

pub written-buffer-keeps-the-rest : WrittenBufferKeepsTheRest
unfolding written_to buffer_after
written-buffer-keeps-the-rest L n t R lists old k e = rest-kept L (checked_lists L n t R lists) old k e

pub refused-writing-leaves-the-buffer : RefusedWritingLeavesTheBuffer
unfolding written_to buffer_after
refused-writing-leaves-the-buffer L n t R lists old f e = refused-leaves L (checked_lists L n t R lists) old f e

-- ════ Read, then write ════

pub read-record-is-written-again : ReadRecordIsWrittenAgain
read-record-is-written-again L bytes r h e =
    let a = reading-again L bytes r h e in
    (good-lists-accepted L r a.1, a.0)

pub read-tables-are-written-again : ReadTablesAreWrittenAgain
read-tables-are-written-again L bytes old r h e =
    let a = reading-again L bytes r h (read-into-good L old bytes r e) in (
      ap (λ (x : Reading). checked_lists L r.header.seats r.header.bound r.header.rounds (used r.header (tables_after x old))) e
          ∙ ap (checked_lists L r.header.seats r.header.bound r.header.rounds) (used-after L r old a.1)
          ∙ good-lists-accepted L r a.1,
      a.0,
    )

pub record-has-one-byte-string : RecordHasOneByteString
record-has-one-byte-string L a b r ha hb ea eb = sym (reading-again L a r ha ea).0 ∙ (reading-again L b r hb eb).0

pub reads-exactly-good-records : ReadsExactlyGoodRecords
reads-exactly-good-records L wide bytes h r = (
  λ e. let a = reading-again L bytes r h e in (a.1, a.0),
  λ g. ap (reading_of L) (sym g.1) ∙ reading-back L wide r g.0,
)

-- ════ Lengths ════

pub longest-record : LongestRecord
longest-record = (record-length, longest-good, longest-length)

-- ════ The order of refusals ════

pub refused-exactly-for-its-fault : RefusedExactlyForItsFault
refused-exactly-for-its-fault L wide bytes h r = (refused-fault L wide bytes r h, fault-refused L wide bytes)

pub number-refused-exactly-for-its-fault : NumberRefusedExactlyForItsFault
number-refused-exactly-for-its-fault L wide bytes r = (refused-number-fault L wide bytes r, number-fault-refused L wide bytes)

pub lists-refused-exactly-for-their-fault : ListsRefusedExactlyForTheirFault
lists-refused-exactly-for-their-fault L n t R lists f = (lists-faulty L n t R lists f, fault-of-lists L n t R lists)
