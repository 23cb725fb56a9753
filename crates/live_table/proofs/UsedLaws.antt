-- What a table reads as, by what the test of its used part found.
-- Assumes nothing.
use mathlib.Core.Path.{◌≡◌}
use mathlib.Core.Bool.{true, false}
use Rattle.farm.specs.Limits.{limits}
use Rattle.farm.specs.declared.refusals.Refusal.TheVariants.{BadTable}
use Rattle.record.specs.Good.{good_record}
use Rattle.record.specs.Record.{good, bad}
use Rattle.live_table.specs.declared.table.Table.{Table}
use Rattle.live_table.specs.Used.{used_record, table_reading}

pub reading-good : (table : Table) → good_record limits (used_record table) ≡ true → table_reading table ≡ good (used_record table)
unfolding table_reading
reading-good table h = rw h

pub reads-bad : (table : Table) → good_record limits (used_record table) ≡ false → table_reading table ≡ bad BadTable
unfolding table_reading
reads-bad table h = rw h
