-- `reading::tables::read` meets its contract: too little room is found first, and the fill only starts once the record is found good.
-- Assumes nothing.
use Rattle.reading.proofs.ReadLaws.{no_room, refused-reading, accepted-reading, good-reading}
use Rattle.record.specs.Tables.{roomy}
use Rattle.record.proofs.RefusalLaws.{handed_up}
use mathlib.Core.Path.{sym, ◌∙◌}
use Rattle.reading.proofs.tables.read.Goals as goal

pub returns-then-not-has_room : goal.returns-then-not-has_room
unfolding roomy
returns-then-not-has_room c = no_room _ _ (sym c.has_room.ensures ∙ c.if-not-has_room.true)

-- The tables at the call have room once the test is passed.
pub returns-in_err-check : goal.returns-in_err-check
unfolding roomy
returns-in_err-check c =
    rw (handed_up _ _ c.from_residual.ensures.1) (refused-reading _ _ _ (sym c.has_room.ensures ∙ c.if-not-has_room.false) c.in_err-check.ensures)

pub fill-requires : goal.fill-requires
unfolding roomy
fill-requires c = (accepted-reading _ _ c.in_ok-check.ensures, sym c.has_room.ensures ∙ c.if-not-has_room.false)

pub returns : goal.returns
unfolding roomy
returns c = good-reading _ _ _ _ (sym c.has_room.ensures ∙ c.if-not-has_room.false) c.fill.ensures.0 c.fill.ensures.1
