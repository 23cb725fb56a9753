-- What reading and the page leave for a host: the result, and the lists or the buffer. A refusal leaves what was there.
use Rattle.std.specs.Prelude.{◌≡◌, cond, List, ℕ, leb, length, Result, Ok, Err}
use Rattle.farm.specs.Limits.{limits}
use Rattle.farm.specs.declared.refusals.Refusal.{Refusal}
use Rattle.farm.specs.declared.refusals.Refusal.TheVariants.{NoRoom}
use Rattle.record.specs.Answers.{checked_of}
use Rattle.record.specs.Tables.{Tables, TablesRead, read_into}
use Rattle.text.specs.Digits.{Text}
use Rattle.text.specs.Putting.{written}
use Rattle.page.specs.Printing.{page_room}
use Rattle.host.specs.declared.results.HeaderTold.{HeaderTold}
use Rattle.host.specs.declared.results.LengthTold.{LengthTold}
use Rattle.host.specs.Results.{header_told, length_told}

pub record ReadTold (bytes : List ℕ) (before : Tables) (told : HeaderTold) (after : Tables) : Type 0 where
  pub answered : told ≡ header_told (checked_of (read_into limits before bytes))
  pub left : TablesRead (read_into limits before bytes) before after

-- What printing a page answers, in a buffer of so many bytes.
abbrev pub page_printed : (page : Text) (room : ℕ) → Result ℕ Refusal
page_printed page room = cond (leb page_room room) (Ok (length page)) (Err NoRoom)

pub record PageTold (page : Text) (buffer : List ℕ) (told : LengthTold) (after : List ℕ) : Type 0 where
  pub answered : told ≡ length_told (page_printed page (length buffer))
  pub left : after ≡ cond (leb page_room (length buffer)) (written page 0 buffer) buffer
