-- A table with one entry more in each list of its edits.
use Rattle.std.specs.Prelude.{[], ◌∷◌}
use Rattle.record.specs.declared.edits.Edit.{Edit}
use Rattle.record.specs.Tables.{over}
use Rattle.live_table.specs.declared.table.Table.{Table}

-- The table with an edit behind those held, not yet counted.
abbrev pub with_entry : Edit → Table → Table
with_entry edit table = record {
  seats = table.seats;
  bound = table.bound;
  rounds = table.rounds;
  edits = table.edits;
  losses = table.losses;
  editors = over table.edits (edit.seat.0 ∷ []) table.editors;
  times = over table.edits (edit.time.0 ∷ []) table.times;
  cells = over table.edits (edit.cell ∷ []) table.cells;
  changes = over table.edits (edit.change ∷ []) table.changes;
}
