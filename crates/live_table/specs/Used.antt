-- The used part of a table, and refusal 19.
use Rattle.std.specs.Prelude.{cond, List, ℕ, ◌*◌, ℤ, take}
use Rattle.farm.specs.Limits.{limits}
use Rattle.farm.specs.Sets.{Seats}
use Rattle.farm.specs.declared.refusals.Refusal.TheVariants.{BadTable}
use Rattle.record.specs.Good.{good_record}
use Rattle.record.specs.Record.{Record, Reading, good, bad}
use Rattle.record.specs.Tables.{edits_from}
use Rattle.live_table.specs.declared.table.Table.{Table}

-- A table from its parts.
abbrev pub table_of : (losses : List Seats) (editors times cells : List ℕ) (changes : List ℤ) (seats bound rounds edits : ℕ) → Table
table_of losses editors times cells changes n t R E = record {
  seats = n;
  bound = t;
  rounds = R;
  edits = E;
  losses = losses;
  editors = editors;
  times = times;
  cells = cells;
  changes = changes;
}

-- The record in the used part: the loss sets of the rounds done, and the edits held.
unfoldable pub used_record : Table → Record
used_record t = record {
  header = record { seats = t.seats; bound = t.bound; rounds = t.rounds; edits = t.edits };
  losses = take (t.seats * t.rounds) t.losses;
  edits = edits_from (take t.edits t.editors) (take t.edits t.times) (take t.edits t.cells) (take t.edits t.changes);
}

-- What a table reads as: the good record in its used part, or refusal 19.
unfoldable pub table_reading : Table → Reading
table_reading t = cond (good_record limits (used_record t)) (good (used_record t)) (bad BadTable)
