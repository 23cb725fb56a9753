-- A record as tables: its own, as long as they are used; laid over others; and the used part of tables that are longer.
use Rattle.std.specs.Prelude.{◌*◌, take}
use Rattle.record.specs.declared.header.Header.{Header}
use Rattle.record.specs.Record.{Record}
use Rattle.record.specs.Tables.{Tables, seats_of, times_of, cells_of, changes_of, over}

-- The tables that a record is.
unfoldable pub tables_of : Record → Tables
tables_of r = record {
  losses = r.losses;
  seats = seats_of r.edits;
  times = times_of r.edits;
  cells = cells_of r.edits;
  changes = changes_of r.edits;
}

-- New entries first in every table, and the old ones past them.
unfoldable pub laid : (new old : Tables) → Tables
laid new old = record {
  losses = over 0 new.losses old.losses;
  seats = over 0 new.seats old.seats;
  times = over 0 new.times old.times;
  cells = over 0 new.cells old.cells;
  changes = over 0 new.changes old.changes;
}

-- The entries that a record with this header uses.
unfoldable pub used : Header → Tables → Tables
used h t = record {
  losses = take (h.seats * h.rounds) t.losses;
  seats = take h.edits t.seats;
  times = take h.edits t.times;
  cells = take h.edits t.cells;
  changes = take h.edits t.changes;
}
