-- `writing::lists::write_accepted` meets its contract: refused for room the buffer is untouched, and the record's bytes are put where there is room for all of them.
-- Assumes nothing.
use mathlib.Core.Path.{refl, sym, ◌∙◌, ap}
use native.Mathlib.Nat.{zero-add}
use Rattle.std.specs.Prelude.{Ok}
use Rattle.record.specs.Answers.{written_in}
use Rattle.record.specs.Writing.{answered, buffer_with}
use Rattle.writing.proofs.lists.write_accepted.Goals as goal

pub returns-then-not-has_room : goal.returns-then-not-has_room
unfolding written_in answered buffer_with
returns-then-not-has_room c = rw (sym c.has_room.ensures ∙ c.if-not-has_room.true) (refl, refl)

pub returns : goal.returns
unfolding written_in answered buffer_with
returns c =
    rw (sym c.has_room.ensures ∙ c.if-not-has_room.false) (ap Ok (c.put_record.ensures.ends ∙ zero-add _), c.put_record.ensures.holds)
