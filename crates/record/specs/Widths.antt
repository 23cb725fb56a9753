-- What the limits have to be for a record to be written at all: every number that may stand in a record fits the longest form.
use Rattle.std.specs.Prelude.{◌^◌, ◌≤◌, ◌<◌}
use Rattle.farm.specs.Limits.{Limits}

pub record Wide (L : Limits) : Type 0 where
  pub some_byte : 1 ≤ L.longest_number
  -- A loss set is below 2 ^ n, and so is n itself.
  pub seats : 2 ^ L.most_seats ≤ 128 ^ L.longest_number
  pub rounds : L.most_rounds < 128 ^ L.longest_number
  pub edits : L.most_edits < 128 ^ L.longest_number
  pub cells : L.largest_cell < 128 ^ L.longest_number
  pub changes : L.largest_mapped_change < 128 ^ L.longest_number
