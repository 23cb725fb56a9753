-- What the record so far leaves for a host.
use Rattle.std.specs.Prelude.{◌≡◌, List, ℕ, length}
use Rattle.farm.specs.Limits.{limits}
use Rattle.record.specs.Answers.{written_in}
use Rattle.record.specs.Record.{Reading}
use Rattle.record.specs.Writing.{answered, buffer_with}
use Rattle.host.specs.declared.results.LengthTold.{LengthTold}
use Rattle.host.specs.Results.{length_told}

-- The result, and the buffer. A refusal leaves what was there.
pub record RecordTold (reading : Reading) (buffer : List ℕ) (told : LengthTold) (after : List ℕ) : Type 0 where
  pub answered : told ≡ length_told (written_in (answered limits reading (length buffer)))
  pub left : after ≡ buffer_with limits reading buffer
