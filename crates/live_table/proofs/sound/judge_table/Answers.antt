-- `live_table::sound::judge_table` meets its contract: sizes past the arrays are no good record's, and else the lists are judged.
-- Assumes nothing.
use native.Mathlib.Omega.{arith}
use borrow.Author.Rules.{rules}
use Rattle.live_table.proofs.SoundLaws.{Arrays, too-large, judged-table}
use Rattle.live_table.proofs.sound.judge_table.Goals as goal

pub returns-then-table-gt-MOST_SEATS : goal.returns-then-table-gt-MOST_SEATS
returns-then-table-gt-MOST_SEATS c = too-large _ (λ a b d. grind arith)

pub returns : goal.returns
returns c =
    let t = c.args.table.now in
    let arrays : Arrays t = search rules in
    let judged = judged-table t arrays (omega arith) in
    grind (arith, c.is_ok.ensures.value, c.judge.ensures, judged)
