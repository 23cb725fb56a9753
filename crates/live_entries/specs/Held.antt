-- The lists of edits, with room for as many entries as are held.
use Rattle.std.specs.Prelude.{List, ℕ, ◌≤◌, ℤ, length}

-- Four lists that have so many entries at least.
pub record Held (held : ℕ) (who when where' : List ℕ) (heights : List ℤ) : Type 0 where
  pub editors : held ≤ length who
  pub times : held ≤ length when
  pub cells : held ≤ length where'
  pub changes : held ≤ length heights
