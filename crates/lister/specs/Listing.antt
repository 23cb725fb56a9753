-- Which bytes are judged: those at the front of the buffer, up to the count of what was taken, and no others.
use Rattle.std.specs.Prelude.{◌≡◌, List, ℕ, ◌≤◌, take, Result, Ok, Err}
use Rattle.std.specs.declared.io.Error.{Error}
use Rattle.record.specs.Document.{reading_of}
use Rattle.page.specs.Page.{page_of}
use Rattle.page.specs.Printing.{PrintsPage}
use Rattle.taking.specs.Input.{input_room}
use Rattle.lister.specs.declared.listing.Listed.{Listed}

-- Where nothing can be read, the page stays.
abbrev pub Lists : (bytes old new : List ℕ) → Result Listed Error → Type 0
Lists bytes old new (Ok listed) = (listed.taken ≤ input_room) × PrintsPage (page_of (reading_of (take listed.taken bytes))) old new listed.page
Lists bytes old new (Err failure) = new ≡ old
