-- `lines::printing::put_place` meets its contract: two numbers and two bytes, each where the one before ends.
-- Assumes nothing.
use native.Mathlib.Omega.{arith}
use Rattle.text.specs.Words.{blank}
use Rattle.lines.proofs.LineLaws.{place-begins}
use Rattle.text.proofs.PutLaws.{puts-two, then-told, within-then}
use Rattle.lines.proofs.printing.put_place.Goals as goal

pub returns : goal.returns
returns c =
    let two = within-then (omega arith) c.put_number-after_time.ensures c.put_field-after_seat.ensures in
    let bytes = puts-two c.put_field-after_seat.new.out c.put_field-after_seat.result blank c.letter.result (omega arith) in
    rw (place-begins, ← c.letter.ensures) (then-told (omega arith) two bytes)
