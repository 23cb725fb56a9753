-- `lines::printing::header_line` meets its contract: where the test finds no room nothing is touched, and past it four names with their numbers are put, and the newline.
-- Assumes nothing.
use mathlib.Core.Path.{sym, ◌∙◌}
use native.Mathlib.Omega.{arith}
use borrow.Author.Tests.{leb-true}
use Rattle.text.specs.Words.{ascii, newline}
use Rattle.lines.proofs.LineLaws.{header-text}
use Rattle.lines.proofs.PrintLaws.{prints}
use Rattle.text.proofs.PutLaws.{puts-byte, then-told, within-then}
use Rattle.lines.proofs.printing.header_line.Goals as goal

pub returns : goal.returns
unfolding ascii
returns c =
    let room = sym c.has_room.ensures ∙ c.if-not-has_room.false in
    let inside = leb-true _ _ room in
    let two = within-then (omega arith) c.put_named-seats.ensures c.put_named-bound.ensures in
    let three = within-then (omega arith) two c.put_named-rounds.ensures in
    let four = within-then (omega arith) three c.put_named-edits.ensures in
    let byte = puts-byte c.put_named-edits.new.out c.put_named-edits.result newline (omega arith) in
    rw header-text (prints room (omega arith) (then-told (omega arith) four byte))
