-- `parts::loss_reader::read_set` meets its contract: a refusal of the number goes up unchanged, and then the set is tested.
-- Assumes nothing.
use Rattle.numbers.proofs.CursorLaws.{read-refused, read-value, number-was, number-was-refused}
use Rattle.record.proofs.LossLaws.{set-refused, set_tested}
use Rattle.record.specs.Taking.{when}
use Rattle.farm.specs.Limits.{limits}
use Rattle.std.proofs.Common.{true, false, sym, ◌∙◌}
use Rattle.parts.proofs.loss_reader.read_set.Goals as goal

pub returns-in_default : goal.returns-in_default
returns-in_default c =
    let a = c.args in
    c.in_default.is
    ∙ read-refused a.bytes.now _ _
    (set-refused limits a.seats a.sender _ _ (number-was-refused a.bytes.now a.from.at _ (sym c.read_number-number.ensures ∙ c.in_default.is)))

pub returns-then-not-good_set : goal.returns-then-not-good_set
unfolding when
returns-then-not-good_set c =
    let a = c.args in
    let was = number-was a.bytes.now a.from.at _ _ (sym c.read_number-number.ensures ∙ c.in-Ok.is) in
    read-refused a.bytes.now _ _
    (set_tested limits a.seats a.sender _ _ _ false was.took (sym c.good_set.ensures ∙ c.if-not-good_set.true))

pub returns : goal.returns
unfolding when
returns c =
    let a = c.args in
    let was = number-was a.bytes.now a.from.at _ _ (sym c.read_number-number.ensures ∙ c.in-Ok.is) in
    read-value a.bytes.now _ _ _
    (set_tested limits a.seats a.sender _ _ _ true was.took (sym c.good_set.ensures ∙ c.if-not-good_set.false)) was.inside
