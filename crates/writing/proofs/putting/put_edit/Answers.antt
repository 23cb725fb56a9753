-- `writing::putting::put_edit` meets its contract: its four numbers stand one after the other.
-- Assumes nothing.
use native.Mathlib.Omega.{arith}
use mir.ValLaws.{to_z-of_z}
use mir.Syntax.{w16}
use borrow.Author.Rules.{rules}
use Rattle.record.specs.Edits.{edit_bytes}
use Rattle.record.specs.Changes.{mapped}
use Rattle.writing.proofs.PuttingLaws.{first-fits, second-fits, third-fits, fourth-fits, all-four}
use Rattle.writing.proofs.putting.put_edit.Goals as goal

pub put_number-after_seat-requires : goal.put_number-after_seat-requires
unfolding edit_bytes
put_number-after_seat-requires c =
    let e = c.args.edit in
    (omega arith, first-fits c.args.at e.seat.0 e.time.0 e.cell (mapped e.change) c.args.out.now c.requires.1)

pub put_number-after_time-requires : goal.put_number-after_time-requires
unfolding edit_bytes
put_number-after_time-requires c =
    let e = c.args.edit in
    (omega arith, second-fits c.args.at e.seat.0 e.time.0 e.cell (mapped e.change) c.args.out.now c.requires.1 c.put_number-after_seat.ensures)

pub put_number-after_cell-requires : goal.put_number-after_cell-requires
unfolding edit_bytes
put_number-after_cell-requires c =
    let e = c.args.edit in
    (omega arith, third-fits c.args.at e.seat.0 e.time.0 e.cell (mapped e.change) c.args.out.now c.requires.1 c.put_number-after_seat.ensures c.put_number-after_time.ensures)

pub put_number-requires : goal.put_number-requires
unfolding edit_bytes
put_number-requires c =
    let e = c.args.edit in
    let same = rw (to_z-of_z w16 e.change (search rules)) at c.map_change.ensures in
    (omega arith, rw same (fourth-fits c.args.at e.seat.0 e.time.0 e.cell (mapped e.change) c.args.out.now c.requires.1 c.put_number-after_seat.ensures c.put_number-after_time.ensures c.put_number-after_cell.ensures))

pub returns : goal.returns
unfolding edit_bytes
returns c =
    let e = c.args.edit in
    let same = rw (to_z-of_z w16 e.change (search rules)) at c.map_change.ensures in
    all-four c.args.at e.seat.0 e.time.0 e.cell (mapped e.change) c.args.out.now c.requires.1 c.put_number-after_seat.ensures c.put_number-after_time.ensures c.put_number-after_cell.ensures _ _ (rw same at c.put_number.ensures)
