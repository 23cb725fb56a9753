-- `lines::printing::over_line` meets its contract: where the test finds no room nothing is touched, and past it the beginning is put, and the rest of the line as one word.
-- Assumes nothing.
use mathlib.Core.Path.{sym, ◌∙◌}
use native.Mathlib.Omega.{arith}
use borrow.Author.Tests.{leb-true}
use Rattle.lines.specs.Lines.{over_line}
use Rattle.text.specs.Words.{ascii}
use Rattle.lines.proofs.LineLaws.{over-text}
use Rattle.lines.proofs.PrintLaws.{prints, prints-nothing}
use Rattle.text.proofs.PutLaws.{then-told}
use Rattle.lines.proofs.printing.over_line.Goals as goal

pub returns-then-not-has_room : goal.returns-then-not-has_room
returns-then-not-has_room c =
    prints-nothing (over_line c.args.time c.args.seat c.args.loser) c.args.at c.args.out.now (sym c.has_room.ensures ∙ c.if-not-has_room.true)

pub returns : goal.returns
unfolding ascii
returns c =
    let room = sym c.has_room.ensures ∙ c.if-not-has_room.false in
    let inside = leb-true _ _ room in
    rw over-text (prints room (omega arith) (then-told (omega arith) c.put_place-place.ensures c.put_word.ensures))
