-- The header: n, t, R, E, each tested against its range as it is read.
use Rattle.std.specs.Prelude.{List, ◌++◌, ℕ, ◌-◌}
use Rattle.farm.specs.Limits.{Limits}
use Rattle.record.specs.declared.header.Header.{Header}
use Rattle.record.specs.Taking.{Taken, value, ◌>>=◌}
use Rattle.record.specs.Numbers.{number_bytes, take_within}

unfoldable pub take_header : Limits → List ℕ → Taken Header
take_header L bytes = do
  (n, after-n) ← take_within L L.fewest_seats L.most_seats bytes
  (t, after-t) ← take_within L 0 (n - 1) after-n
  (R, after-R) ← take_within L 0 L.most_rounds after-t
  (E, after-E) ← take_within L 0 L.most_edits after-R
  value (record { seats = n; bound = t; rounds = R; edits = E }) after-E

unfoldable pub header_bytes : Limits → Header → List ℕ
header_bytes L h =
    number_bytes L h.seats ++ number_bytes L h.bound ++ number_bytes L h.rounds ++ number_bytes L h.edits
