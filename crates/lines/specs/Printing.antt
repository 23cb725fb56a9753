-- What it means to print a line at a place of a lent buffer, or to refuse.
use Rattle.std.specs.Prelude.{◌≡◌, true, cond, List, ℕ, ◌+◌, ◌≤◌, leb, length, Result, Ok, Err}
use Rattle.farm.specs.declared.refusals.Refusal.{Refusal}
use Rattle.farm.specs.declared.refusals.Refusal.TheVariants.{NoRoom}
use Rattle.text.specs.Digits.{Text}
use Rattle.text.specs.Putting.{written}

-- Room for any line. A line is refused where fewer bytes than this are left, however short it is.
abbrev pub line_room : ℕ
line_room = 96

-- The line is printed at the place, and the answer is the length of the page up to its end; or it is refused, and no
-- byte changes. No line that is printed is longer than its room.
pub record Prints (text : Text) (at : ℕ) (old new : List ℕ) (answer : Result ℕ Refusal) : Type 0 where
  pub answered : answer ≡ cond (leb (at + line_room) (length old)) (Ok (at + length text)) (Err NoRoom)
  pub bytes : new ≡ cond (leb (at + line_room) (length old)) (written text at old) old
  pub short : leb (at + line_room) (length old) ≡ true → length text ≤ line_room
