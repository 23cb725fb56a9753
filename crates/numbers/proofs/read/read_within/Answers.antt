-- `numbers::read::read_within` meets its contract: a refusal of the number goes up unchanged, and a value outside the range is refused.
-- Assumes nothing.
use Rattle.numbers.proofs.CursorLaws.{read-refused, read-value, number-was, number-was-refused}
use Rattle.record.proofs.NumberLaws.{within-refused, within-below, within-above, within-good}
use Rattle.numbers.specs.Cursors.{within_at}
use Rattle.farm.specs.Limits.{limits}
use Rattle.record.proofs.RefusalLaws.{handed_up}
use Rattle.std.proofs.Common.{sym, ◌∙◌}
use Rattle.numbers.proofs.read.read_within.Goals as goal
use Rattle.numbers.proofs.read.read_within.Goals.{then-value-low-via-then-value-low, then-value-low-via-else-value-low+then-high-value}

pub returns-in_err-value : goal.returns-in_err-value
unfolding within_at
returns-in_err-value c =
    let a = c.args in
    handed_up _ _ c.from_residual.ensures.1
    ∙ read-refused a.bytes.now _ _
    (within-refused limits a.low a.high _ _ (number-was-refused a.bytes.now a.from.at _ (sym c.read_number.ensures ∙ c.in_err-value.was)))

pub returns-then-value-low : goal.returns-then-value-low
unfolding within_at
returns-then-value-low c =
    let a = c.args in
    let was = number-was a.bytes.now a.from.at _ _ (sym c.read_number.ensures ∙ c.in_ok-value.was) in
    read-refused a.bytes.now _ _
    (elim c.then-value-low.branch [
      | then-value-low-via-then-value-low w ↦ within-below limits a.low a.high _ _ _ was.took w.if-value-low.true
      | then-value-low-via-else-value-low+then-high-value w ↦ within-above limits a.low a.high _ _ _ was.took w.if-high-value.true
    ])

pub returns : goal.returns
unfolding within_at
returns c =
    let a = c.args in
    let was = number-was a.bytes.now a.from.at _ _ (sym c.read_number.ensures ∙ c.in_ok-value.was) in
    read-value a.bytes.now _ _ _ (within-good limits a.low a.high _ _ _ was.took c.if-value-low.false c.if-high-value.false) was.inside
