-- The size of a change below zero is one more than how far the change lies below −1.
use Rattle.record.proofs.ChangeLaws.{below-mapped, above-mapped}
use Rattle.record.proofs.changes.map_change.Goals as goal

pub returns-then-change-lt0 : goal.returns-then-change-lt0
returns-then-change-lt0 c = below-mapped c.args.change c.ranges.change _ c.unsigned_abs-size.ensures.value c.if-change-lt0.true

pub returns : goal.returns
returns c = above-mapped c.args.change c.ranges.change _ c.unsigned_abs-size.ensures.value c.if-change-lt0.false
