-- The page of a record that was read into tables, and what is left in the buffer. Assumes nothing.
use mathlib.Core.Path.{◌≡◌, refl, sym, ◌∙◌, ap, fun_ext}
use mathlib.Core.Bool.{Bool, true, false}
use mathlib.Core.List.{List, ◌++◌}
use Prim.Native.Nat.{ℕ, suc, ◌*◌, ◌<◌, ◌≤◌}
use native.Mathlib.Nat.{zero-add}
use native.Mathlib.Omega.{arith}
use lib.Dec.{leb}
use lib.ListN.{length, take}
use borrow.Author.Tests.{le-leb, lt-leb, leb-true}
use Rattle.farm.specs.Refusals.{number_of}
use Rattle.farm.specs.declared.refusals.Refusal.{Refusal}
use Rattle.farm.specs.declared.refusals.Refusal.TheVariants.{NoRoom}
use Rattle.std.specs.Prelude.{Result, Ok, Err}
use Rattle.viewing.specs.Counts.{farm_for}
use Rattle.record.specs.declared.header.Header.{Header}
use Rattle.record.specs.Document.{reading_of}
use Rattle.record.specs.Record.{Record, good, bad}
use Rattle.record.specs.Tables.{Tables, seats_of, times_of}
use Rattle.reading.specs.Outcome.{ReadOutcome}
use Rattle.record.specs.Taking.{IsBytes}
use Rattle.filling.proofs.GoodReading.{Room}
use Rattle.questions.specs.Accepted.{Accepted}
use Rattle.questions.specs.Question.{count_of, farm_of_record}
use Rattle.carriers.specs.Loading.{sizes_of}
use Rattle.questions.proofs.MarkLaws.{count-of-edits}
use Rattle.carriers.proofs.RecordLaws.{bytes-bad, bytes_good, places-left, read_count, read-edits, read-farm, read-seats, read-sizes, read-times}
use Rattle.text.specs.Digits.{Text}
use Rattle.lines.specs.Lines.{header_line, refused_line}
use Rattle.text.specs.Putting.{PutsWithin}
use Rattle.lines.specs.Printing.{Prints}
use Rattle.time_lines.specs.Places.{Counting, lines_of}
use Rattle.page.specs.Page.{page_of, record_page}
use Rattle.time_lines.specs.Printing.{count_from}
use Rattle.page.specs.Printing.{Holds, PrintsPage, page_held, page_room}

-- ════ A record that was read into tables ════

record Filled (bytes : List ℕ) (h : Header) (losses seats times : List ℕ) : Type 0 where
  pub what : Record
  pub is : reading_of bytes ≡ good what
  pub header : what.header ≡ h
  pub accepted : Accepted (sizes_of h)
  pub sets : h.seats * h.rounds ≤ 889
  pub edits : h.edits ≤ 512
  pub farm : farm_for (sizes_of h) (take (h.seats * h.rounds) losses) ≡ farm_of_record what
  pub editors : take h.edits seats ≡ seats_of what.edits
  pub moments : take h.edits times ≡ times_of what.edits

module _ (bytes : List ℕ) (before after : Tables) (r : Result Header Refusal) (roomy : Room before) (o : ReadOutcome bytes before r after) where
  read-filled : (h : Header) → IsBytes bytes → r ≡ Ok h → Filled bytes h after.losses after.seats after.times
  read-filled h small e =
      let left = places-left bytes before after r roomy o in
      let w = bytes_good bytes r h small left.0 e in
      let seats = read-seats bytes h w after.seats before.seats left.2 in
      let times = read-times bytes h w after.times before.times left.3 in
      record {
        what = w.what;
        is = w.is;
        header = w.header;
        accepted = read-sizes bytes h w (sizes_of h) refl;
        sets = read_count bytes h w;
        edits = read-edits bytes h w;
        farm = read-farm bytes h w after.losses before.losses (h.seats * h.rounds) (sizes_of h) left.1 refl refl;
        editors = seats;
        moments = times;
      }

-- ════ Its page ════

-- Edits are counted over the two lists of their places.
counted : (w : Record) → count_from (seats_of w.edits) (times_of w.edits) ≡ (λ core. count_of core w.edits)
unfolding count_from
counted w = fun_ext (λ core. sym (count-of-edits core w.edits))

good-page : (bytes : List ℕ) (h : Header) (losses seats times : List ℕ) (f : Filled bytes h losses seats times)
    → header_line h
    ++ lines_of (farm_for (sizes_of h) (take (h.seats * h.rounds) losses)) (count_from (take h.edits seats) (take h.edits times)) (suc h.rounds)
    ≡ page_of (reading_of bytes)
unfolding page_of record_page
good-page bytes h losses seats times f =
    rw (f.is, f.farm, f.editors, f.moments, ← f.header)
    (ap (λ (counting : Counting). header_line f.what.header ++ lines_of (farm_of_record f.what) counting (suc f.what.header.rounds))
    (counted f.what))

bad-page : (bytes : List ℕ) (x : Refusal) (number : ℕ) → reading_of bytes ≡ bad x → number ≡ number_of x
    → refused_line number ≡ page_of (reading_of bytes)
unfolding page_of
bad-page bytes x number e en = rw (e, en)

-- ════ What reading left ════

module _ (bytes : List ℕ) (before after : Tables) (r : Result Header Refusal) (roomy : Room before) (o : ReadOutcome bytes before r after) where
  -- The tables hold a good record, and its page is the page of what they hold.
  pub read-good : (h : Header) → IsBytes bytes → r ≡ Ok h
      → 889 ≤ length after.losses → 512 ≤ length after.seats → 512 ≤ length after.times
      → Holds h after.losses after.seats after.times
      × (page_held h after.losses after.seats after.times ≡ page_of (reading_of bytes))
  read-good h small e losses seats times =
      let f = read-filled bytes before after r roomy o h small e in
      let sets = f.sets in
      let edits = f.edits in (
        record { accepted = f.accepted; sets = omega arith; editors = omega arith; moments = omega arith; few = edits },
        good-page bytes h after.losses after.seats after.times f,
      )

  pub read-bad : (x : Refusal) (number : ℕ) → r ≡ Err x → number ≡ number_of x → refused_line number ≡ page_of (reading_of bytes)
  read-bad x number e en = bad-page bytes x number (bytes-bad bytes r x (places-left bytes before after r roomy o).0 e) en

-- ════ What is left in the buffer ════

pub page-nowhere : (page : Text) (buffer : List ℕ) → length buffer < page_room → PrintsPage page buffer buffer (Err NoRoom)
page-nowhere page buffer tight =
    let none = lt-leb page_room (length buffer) tight in
    record { answered = rw none; bytes = rw none; short = λ fits. let z : ◌≡◌ {A = ℕ} 0 1 = cc in omega arith }

pub page-put : {text page : Text} {end : ℕ} {old new : List ℕ} → page_room ≤ length old → text ≡ page
    → PutsWithin page_room text 0 old new end → PrintsPage page old new (Ok end)
page-put {text} {end = end} {old} room same p =
    let ends : end ≡ length text = omega (arith, p.puts.end) in
    let fits = le-leb page_room (length old) room in
    rw (← same)
    (record { answered = rw fits (ap Ok ends); bytes = rw fits p.puts.bytes; short = λ t. omega (arith, ends, p.within) })

pub page-printed : {text page : Text} {old new : List ℕ} {answer : Result ℕ Refusal} → page_room ≤ length old → text ≡ page
    → Prints text 0 old new answer → PrintsPage page old new answer
page-printed {text} {old = old} room same p =
    let fits = le-leb page_room (length old) room in
    let line = le-leb 96 (length old) (omega arith) in
    let short = p.short line in
    rw (← same)
    (record { answered = rw fits ((rw line at p.answered) ∙ ap Ok (zero-add (length text))); bytes = rw fits (rw line at p.bytes); short = λ t. omega arith })

-- What was written lies within the buffer: what a program that hands it on asks for.
pub page-within : (page : Text) (old new : List ℕ) (answer : Result ℕ Refusal) (end : ℕ) → PrintsPage page old new answer → answer ≡ Ok end
    → end ≤ length old
page-within page old new answer end p e = by (leb page_room (length old)) refl
  where
    by : (b : Bool) → leb page_room (length old) ≡ b → end ≤ length old
    by true fits =
        let is : answer ≡ Ok (length page) = rw fits at p.answered in
        let ends : end ≡ length page = cc in
        let short = p.short fits in
        let room = leb-true page_room (length old) fits in
        omega arith
    by false none =
        let is : answer ≡ Err NoRoom = rw none at p.answered in
        absurd cc
