-- A record as long as a good one can be at document 01's limits: seven seats, 127 rounds and 512 edits, with every cell and every
-- change so large that it takes three bytes.
use Rattle.std.specs.Prelude.{List, [], ◌∷◌, ℕ, zero, suc, pos, replicate}
use Rattle.record.specs.declared.edits.Edit.{Edit}
use Rattle.record.specs.Record.{Record}
use Rattle.record.specs.Tables.{edit_of}

-- Edits by seat 0 at time 0 in rising cells; a change of 8,192 is written as 16,384, the least number of three bytes.
unfoldable pub long_edits : (cell left : ℕ) → List Edit
long_edits cell zero = []
long_edits cell (suc left) = edit_of 0 0 cell (pos 8192) ∷ long_edits (suc cell) left

unfoldable pub longest : Record
longest = record {
  header = record { seats = 7; bound = 6; rounds = 127; edits = 512 };
  losses = replicate 889 0;
  edits = long_edits 16384 512;
}
