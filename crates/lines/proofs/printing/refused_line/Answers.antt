-- `lines::printing::refused_line` meets its contract: where the test finds no room nothing is touched, and past it the word with its number is put, and the newline.
-- Assumes nothing.
use mathlib.Core.Path.{sym, ◌∙◌}
use native.Mathlib.Omega.{arith}
use borrow.Author.Tests.{leb-true}
use Rattle.text.specs.Words.{ascii, newline}
use Rattle.lines.proofs.LineLaws.{refused-text}
use Rattle.lines.proofs.PrintLaws.{prints}
use Rattle.text.proofs.PutLaws.{puts-byte, then-told}
use Rattle.lines.proofs.printing.refused_line.Goals as goal

pub returns : goal.returns
unfolding ascii
returns c =
    let room = sym c.has_room.ensures ∙ c.if-not-has_room.false in
    let inside = leb-true _ _ room in
    let byte = puts-byte c.put_named-refused.new.out c.put_named-refused.result newline (omega arith) in
    rw refused-text (prints room (omega arith) (then-told (omega arith) c.put_named-refused.ensures byte))
