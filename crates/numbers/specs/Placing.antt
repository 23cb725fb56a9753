-- Bytes put into a lent buffer at a place.
use Rattle.std.specs.Prelude.{◌≡◌, List, ℕ, ◌+◌, length}
use Rattle.record.specs.Tables.{over}

-- What a function that puts bytes at a place has done: where the next ones go, and what the buffer holds.
pub record Put (at : ℕ) (new old : List ℕ) (next : ℕ) (buffer : List ℕ) : Type 0 where
  pub ends : next ≡ at + length new
  pub holds : buffer ≡ over at new old
