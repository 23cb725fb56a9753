-- What reading leaves for a question: the loss sets, and the seats and times of the edits, each at the front of a lent list.
-- A refusal leaves the list.
use Rattle.std.specs.Prelude.{List, ℕ, ◌*◌, ℤ}
use Rattle.farm.specs.Limits.{limits}
use Rattle.farm.specs.Sets.{Seats}
use Rattle.viewing.specs.declared.sizes.Sizes.{Sizes}
use Rattle.record.specs.declared.header.Header.{Header}
use Rattle.record.specs.declared.lists.Lists.{Lists}
use Rattle.record.specs.Record.{Reading, good, bad}
use Rattle.record.specs.Tables.{seats_of, times_of, over}
use Rattle.record.specs.Writing.{checked_lists, lists_of}

unfoldable pub losses_left : Reading → List Seats → List Seats
losses_left (good r) old = over 0 r.losses old
losses_left (bad refusal) old = old

unfoldable pub seats_left : Reading → List ℕ → List ℕ
seats_left (good r) old = over 0 (seats_of r.edits) old
seats_left (bad refusal) old = old

unfoldable pub times_left : Reading → List ℕ → List ℕ
times_left (good r) old = over 0 (times_of r.edits) old
times_left (bad refusal) old = old

-- n, t and R of a header, and how many loss sets its record has.
abbrev pub sizes_of : Header → Sizes
sizes_of h = record { seats = h.seats; bound = h.bound; rounds = h.rounds }

abbrev pub loss_count : Header → ℕ
loss_count h = h.seats * h.rounds

-- What lists read as: the good record that they are, or the refusal that the order decides.
abbrev pub lists_read : (n t R : ℕ) → List Seats → (seats times cells : List ℕ) → List ℤ → Reading
lists_read n t R losses seats times cells changes = checked_lists limits n t R (lists_of losses seats times cells changes)

abbrev pub reading_in : Lists → Reading
reading_in l = lists_read l.seats l.bound l.rounds l.losses.now l.editors.now l.times.now l.cells.now l.changes.now
