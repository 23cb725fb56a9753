-- What it means to write a page into a lent buffer, and what reading leaves for it.
use Rattle.std.specs.Prelude.{◌≡◌, true, cond, List, ◌++◌, ℕ, suc, ◌+◌, ◌≤◌, leb, length, take, Result, Ok, Err}
use Rattle.farm.specs.Limits.{limits}
use Rattle.farm.specs.declared.refusals.Refusal.{Refusal}
use Rattle.farm.specs.declared.refusals.Refusal.TheVariants.{NoRoom}
use Rattle.viewing.specs.Counts.{farm_for}
use Rattle.record.specs.declared.header.Header.{Header}
use Rattle.questions.specs.Accepted.{Accepted}
use Rattle.carriers.specs.Loading.{loss_count, sizes_of}
use Rattle.text.specs.Digits.{Text}
use Rattle.text.specs.Putting.{written}
use Rattle.lines.specs.Lines.{header_line}
use Rattle.lines.specs.Printing.{line_room}
use Rattle.time_lines.specs.Places.{lines_of}
use Rattle.time_lines.specs.Printing.{count_from, times_room}

-- Room for any page.
abbrev pub page_room : ℕ
page_room = line_room + times_room

-- The page is written in front of the buffer, and the answer is its length; or there is no room for every page, and no byte
-- changes. No page is longer than its room.
pub record PrintsPage (page : Text) (old new : List ℕ) (answer : Result ℕ Refusal) : Type 0 where
  pub answered : answer ≡ cond (leb page_room (length old)) (Ok (length page)) (Err NoRoom)
  pub bytes : new ≡ cond (leb page_room (length old)) (written page 0 old) old
  pub short : leb page_room (length old) ≡ true → length page ≤ page_room

-- ════ What reading left ════

-- The tables hold a good record's loss sets and edits at their front.
pub record Holds (h : Header) (losses seats times : List ℕ) : Type 0 where
  pub accepted : Accepted (sizes_of h)
  pub sets : loss_count h ≤ length losses
  pub editors : h.edits ≤ length seats
  pub moments : h.edits ≤ length times
  pub few : h.edits ≤ limits.most_edits

-- Its page.
abbrev pub page_held : Header → (losses seats times : List ℕ) → Text
page_held h losses seats times =
    header_line h
    ++ lines_of (farm_for (sizes_of h) (take (loss_count h) losses)) (count_from (take h.edits seats) (take h.edits times)) (suc h.rounds)
