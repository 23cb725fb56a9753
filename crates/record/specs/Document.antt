-- Reading and writing at document 01's limits.
use Rattle.std.specs.Prelude.{List, ℕ}
use Rattle.farm.specs.Limits.{limits}
use Rattle.record.specs.Numbers as Numbers
use Rattle.record.specs.Record as Record
use Rattle.record.specs.Record.{Reading}

abbrev pub number_bytes : ℕ → List ℕ
number_bytes v = Numbers.number_bytes limits v

abbrev pub reading_of : List ℕ → Reading
reading_of bytes = Record.reading_of limits bytes

abbrev pub bytes_of : Record.Record → List ℕ
bytes_of r = Record.bytes_of limits r
