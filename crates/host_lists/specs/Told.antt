-- What writing leaves for a host: the result, and the buffer. A refusal leaves what was there.
use Rattle.std.specs.Prelude.{◌≡◌, List, ℕ, length}
use Rattle.farm.specs.Limits.{limits}
use Rattle.record.specs.Answers.{written_in}
use Rattle.record.specs.Tables.{Tables}
use Rattle.record.specs.Writing.{written_to, buffer_after}
use Rattle.host.specs.declared.results.LengthTold.{LengthTold}
use Rattle.host.specs.Results.{length_told}

pub record WriteTold (seats bound rounds : ℕ) (lists : Tables) (buffer : List ℕ) (told : LengthTold) (after : List ℕ) : Type 0 where
  pub answered : told ≡ length_told (written_in (written_to limits seats bound rounds lists (length buffer)))
  pub left : after ≡ buffer_after limits seats bound rounds lists buffer
