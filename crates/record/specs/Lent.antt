-- What lent lists hold: their tables, whether these are a good record, and the record that they are then.
use Rattle.farm.specs.Limits.{limits}
use Rattle.record.specs.declared.lists.Lists.{Lists}
use Rattle.record.specs.Record.{Record}
use Rattle.record.specs.Tables.{Tables}
use Rattle.record.specs.Writing.{Verdict, lists_of, judged_lists, record_from}

abbrev pub tables_in : Lists → Tables
tables_in l = lists_of l.losses.now l.editors.now l.times.now l.cells.now l.changes.now

abbrev pub verdict_on : Lists → Verdict
verdict_on l = judged_lists limits l.seats l.bound l.rounds (tables_in l)

abbrev pub record_in : Lists → Record
record_in l = record_from l.seats l.bound l.rounds (tables_in l)
