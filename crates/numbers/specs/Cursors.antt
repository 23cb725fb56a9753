-- What the code answers where the other definitions speak of the rest of the bytes: a cursor, the place where the rest begins.
-- A taking at a place of the bytes is the taking from the bytes after that place, at document 01's limits.
use Rattle.std.specs.Prelude.{List, ℕ, ◌-◌, length, drop, Result, Ok, Err}
use Rattle.farm.specs.Limits.{limits}
use Rattle.farm.specs.declared.refusals.Refusal.{Refusal}
use Rattle.numbers.specs.declared.read.Cursor.{Cursor}
use Rattle.record.specs.Taking.{Taken, value, refused}
use Rattle.record.specs.Numbers.{take_number, take_within}

-- Where the rest of the bytes begins.
abbrev pub cursor_at : (bytes rest : List ℕ) → Cursor
cursor_at bytes rest = record { at = length bytes - length rest }

-- What was taken, and where what follows it begins; or the refusal.
unfoldable pub read_in : {A : Type 0} → List ℕ → Taken A → Result (A × Cursor) Refusal
read_in bytes (value a rest) = Ok (a, cursor_at bytes rest)
read_in bytes (refused r) = Err r

-- A part that was only looked through: where what follows it begins; or the refusal.
unfoldable pub passed_in : {A : Type 0} → List ℕ → Taken A → Result Cursor Refusal
passed_in bytes (value a rest) = Ok (cursor_at bytes rest)
passed_in bytes (refused r) = Err r

unfoldable pub number_at : List ℕ → ℕ → Result (ℕ × Cursor) Refusal
number_at bytes at = read_in bytes (take_number limits (drop at bytes))

unfoldable pub within_at : (low high : ℕ) → List ℕ → ℕ → Result (ℕ × Cursor) Refusal
within_at low high bytes at = read_in bytes (take_within limits low high (drop at bytes))
