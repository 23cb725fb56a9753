-- `page::whole::write_page` meets its contract: nothing without room, the one line of a bad record, or the page of the
-- record that was read. Assumes nothing.
use mathlib.Core.Path.{◌≡◌}
use native.Mathlib.Omega.{arith}
use borrow.Author.Rules.{rules}
use Rattle.record.specs.Document.{reading_of}
use Rattle.page.specs.Page.{page_of}
use Rattle.page.specs.Printing.{Holds, page_held}
use Rattle.page.proofs.PageLaws.{read-good, read-bad, page-nowhere, page-put, page-printed}
use Rattle.page.proofs.whole.write_page.Goals as goal
use Rattle.page.proofs.whole.write_page.Goals.{In-Ok}

pub returns-then-out-lt-PAGE_ROOM : goal.returns-then-out-lt-PAGE_ROOM
returns-then-out-lt-PAGE_ROOM c = page-nowhere _ c.args.out.now (omega arith)

-- The tables hold a good record, and its page is the page of what they hold.

good : (c : In-Ok) → Holds c.in-Ok.header c.read-checked.new.losses c.read-checked.new.seats c.read-checked.new.times
    × (page_held c.in-Ok.header c.read-checked.new.losses c.read-checked.new.seats c.read-checked.new.times ≡ page_of (reading_of c.args.bytes.now))
good c =
    let losses = c.read-checked.auto.losses in
    let seats = c.read-checked.auto.seats in
    let times = c.read-checked.auto.times in
    read-good c.args.bytes.now _ _ c.read-checked.result
    (record { losses = search rules; seats = search rules; times = search rules; cells = search rules; changes = search rules })
    c.read-checked.ensures c.in-Ok.header
    (λ i. omega (arith, c.type_inv.bytes i))
    c.in-Ok.is (omega arith) (omega arith) (omega arith)

pub put_page-requires : goal.put_page-requires
put_page-requires c = ((good (goal.at.put_page-requires c).In-Ok).0, omega arith)

pub returns-in-Ok : goal.returns-in-Ok
returns-in-Ok c = page-put (omega arith) (good (goal.at.returns-in-Ok c).In-Ok).1 c.put_page.ensures

pub returns-in-Err : goal.returns-in-Err
returns-in-Err c =
    page-printed (omega arith)
    (read-bad c.args.bytes.now _ _ c.read-checked.result
    (record { losses = search rules; seats = search rules; times = search rules; cells = search rules; changes = search rules })
    c.read-checked.ensures _ _ c.in-Err.is c.number.ensures)
    c.refused_line.ensures
