-- `lines::printing::place_line` meets its contract: where the test finds no room nothing is touched, and past it six texts are put, each where the one before ends.
-- Assumes nothing.
use mathlib.Core.Path.{sym, ◌∙◌}
use native.Mathlib.Omega.{arith}
use borrow.Author.Tests.{leb-true}
use mir.Syntax.{w16}
use mir.Val.{SFits}
use mir.ValLaws.{to_z-of_z}
use Rattle.lines.specs.Lines.{place_line}
use Rattle.text.specs.Words.{newline}
use Rattle.lines.proofs.LineLaws.{place-text}
use Rattle.lines.proofs.PrintLaws.{prints, prints-nothing}
use Rattle.text.proofs.PutLaws.{puts-byte, then-told, within-then}
use Rattle.lines.proofs.printing.place_line.Goals as goal

pub returns-then-not-has_room : goal.returns-then-not-has_room
returns-then-not-has_room c =
    prints-nothing (place_line c.args.line) c.args.at c.args.out.now (sym c.has_room.ensures ∙ c.if-not-has_room.true)

pub returns : goal.returns
returns c =
    let room = sym c.has_room.ensures ∙ c.if-not-has_room.false in
    let inside = leb-true _ _ room in
    let fits : SFits w16 c.args.line.critical = record { sfits = omega arith } in
    let field = rw (to_z-of_z w16 _ fits) at c.put_signed_field-critical.ensures in
    let two = within-then (omega arith) c.put_place-place.ensures field in
    let three = within-then (omega arith) two c.put_field-steps.ensures in
    let four = within-then (omega arith) three c.put_core-numbers.ensures in
    let five = within-then (omega arith) four c.put_field-count.ensures in
    let byte = puts-byte c.put_field-count.new.out c.put_field-count.result newline (omega arith) in
    rw place-text (prints room (omega arith) (then-told (omega arith) five byte))
