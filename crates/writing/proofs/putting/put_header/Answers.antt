-- `writing::putting::put_header` meets its contract: its four numbers stand one after the other.
-- Assumes nothing.
use native.Mathlib.Omega.{arith}
use lib.ListN.{length}
use Rattle.record.specs.Header.{header_bytes}
use Rattle.writing.proofs.PuttingLaws.{first-fits, second-fits, third-fits, fourth-fits, all-four}
use Rattle.writing.proofs.putting.put_header.Goals as goal

pub put_number-after_seats-requires : goal.put_number-after_seats-requires
unfolding header_bytes
put_number-after_seats-requires c =
    let l = c.args.lists in
    (omega arith, first-fits 0 l.seats l.bound l.rounds (length l.editors.now) c.args.out.now (omega arith))

pub put_number-after_bound-requires : goal.put_number-after_bound-requires
unfolding header_bytes
put_number-after_bound-requires c =
    let l = c.args.lists in
    (omega arith, second-fits 0 l.seats l.bound l.rounds (length l.editors.now) c.args.out.now (omega arith) c.put_number-after_seats.ensures)

pub put_number-after_rounds-requires : goal.put_number-after_rounds-requires
unfolding header_bytes
put_number-after_rounds-requires c =
    let l = c.args.lists in
    (omega arith, third-fits 0 l.seats l.bound l.rounds (length l.editors.now) c.args.out.now (omega arith) c.put_number-after_seats.ensures c.put_number-after_bound.ensures)

pub put_number-requires : goal.put_number-requires
unfolding header_bytes
put_number-requires c =
    let l = c.args.lists in
    (omega arith, fourth-fits 0 l.seats l.bound l.rounds (length l.editors.now) c.args.out.now (omega arith) c.put_number-after_seats.ensures c.put_number-after_bound.ensures c.put_number-after_rounds.ensures)

pub returns : goal.returns
unfolding header_bytes
returns c =
    let l = c.args.lists in
    all-four 0 l.seats l.bound l.rounds (length l.editors.now) c.args.out.now (omega arith) c.put_number-after_seats.ensures c.put_number-after_bound.ensures c.put_number-after_rounds.ensures _ _ c.put_number.ensures
