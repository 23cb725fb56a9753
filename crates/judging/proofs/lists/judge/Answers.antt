-- `judging::lists::judge` meets its contract: the edits are judged once each of their lists is known to have one entry for each.
-- Assumes nothing.
use mathlib.Core.Path.{sym, ◌∙◌}
use native.Mathlib.Omega.{arith}
use Rattle.farm.specs.Limits.{limits}
use Rattle.record.specs.Lent.{tables_in}
use Rattle.record.proofs.GoodLaws.{header-facts}
use Rattle.record.proofs.WritingLaws.{fitting-elim}
use Rattle.judging.proofs.lists.judge.Goals as goal

pub judge_edits-requires : goal.judge_edits-requires
judge_edits-requires c =
    let l = c.args.lists in
    let header = header-facts limits _ (sym c.good_header.ensures ∙ c.if-not-good_header.false) in
    let fit = fitting-elim l.seats l.rounds (tables_in l) (sym c.lengths_fit.ensures ∙ c.if-not-lengths_fit.false) in
    (omega arith, fit.times, fit.cells, fit.changes)
