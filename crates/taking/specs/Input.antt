-- Document 01, "The lister's page": how many bytes are taken from standard input, and what follows each read.
use Rattle.std.specs.Prelude.{cond, ℕ, zero, suc, ◌+◌, ◌≤◌, ltb, length, Result, Ok, Err}
use Rattle.std.specs.declared.io.Error.{Error}
use Rattle.std.specs.declared.ops.ControlFlow.{ControlFlow}
use Rattle.std.specs.declared.ops.ControlFlow.TheVariants.{Continue, Break}
use Rattle.record.specs.Document.{bytes_of}
use Rattle.record.specs.Longest.{longest}

-- Room for the longest good record, and for one byte more: enough to see that a record is too long.
abbrev pub input_room : ℕ
input_room = suc (length (bytes_of longest))

-- No more bytes came, or are taken, than there is room for.
abbrev pub Within : (room : ℕ) → Result ℕ Error → Type 0
Within room (Ok count) = count ≤ room
Within room (Err failure) = Unit {0}

-- What follows an answer of `read`, with so many bytes taken before it: a failure ends the taking, and so do the count 0, which is
-- the end of the input, and a full buffer; otherwise it goes on.
unfoldable pub next_of : (taken : ℕ) → Result ℕ Error → Result (ControlFlow ℕ ℕ) Error
next_of taken (Err failure) = Err failure
next_of taken (Ok zero) = Ok (Break taken)
next_of taken (Ok (suc k)) = Ok (cond (ltb (taken + suc k) input_room) (Continue (taken + suc k)) (Break (taken + suc k)))
