-- A table that reads as a record reads as a good one.
-- Assumes nothing.
use mathlib.Core.Path.{◌∙◌, ap}
use Rattle.farm.specs.Limits.{limits}
use Rattle.record.specs.Good.{good_record}
use Rattle.live_table.specs.declared.table.Table.{Table}
use Rattle.live_table.specs.Used.{table_reading}
use Rattle.live.proofs.Promises.{passes}
use Rattle.host.proofs.WideLaws.{Sound}

pub table-sound : (table : Table) → Sound (table_reading table)
table-sound table r e = ap (good_record limits) (passes table r e).1 ∙ (passes table r e).0
