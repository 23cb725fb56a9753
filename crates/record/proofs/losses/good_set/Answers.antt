-- The shift is the division that finds a bit at n or above, and `holds` finds the own bit.
use Rattle.std.proofs.Common.{ap, ◌∙◌}
use mathlib.Core.Bool.{not}
use Rattle.record.proofs.LossLaws.{small-set, high-bit-bad, own-bit-decides}
use Rattle.record.proofs.losses.good_set.Goals as goal

pub returns-then-set-seats-ne0 : goal.returns-then-set-seats-ne0
returns-then-set-seats-ne0 c = high-bit-bad c.args.seats c.args.sender c.args.set c.if-set-seats-ne0.true

pub returns : goal.returns
returns c =
    ap not c.holds.ensures
    ∙ own-bit-decides c.args.seats c.args.sender c.args.set (small-set _ _ c.if-set-seats-ne0.false)
