-- `judging::lists::good_losses` meets its contract. The loop's invariant: all the sets are good if what is left of them is, from the sender that comes next.
-- Assumes nothing.
use mathlib.Core.Path.{sym, ◌∙◌}
use Prim.Native.Nat.{◌≤◌}
use native.Mathlib.Omega.{arith}
use lib.ListN.{length}
use Rattle.judging.proofs.JudgingLaws.{set-stops, set_on, sets_end, sender-below}
use Rattle.judging.proofs.lists.good_losses.Goals as goal

pub returns-then-not-good_set : goal.returns-then-not-good_set
returns-then-not-good_set c = sym (set-stops _ _ _ _ c.loop-set-test.true (sym c.good_set.ensures ∙ c.if-not-good_set.true)) ∙ c.loop-set.invariant.1

pub loop-set-preserved : goal.loop-set-preserved
loop-set-preserved c = (
  rw c.sender_after-sender.ensures (sender-below _ _ c.loop-set.invariant.0),
  rw c.sender_after-sender.ensures (set_on _ _ _ _ c.loop-set-test.true (sym c.good_set.ensures ∙ c.if-not-good_set.false) ∙ c.loop-set.invariant.1),
)

pub returns : goal.returns
returns c =
    let over : length c.args.losses.now ≤ c.loop-set.set-index = omega arith in
    sym (sets_end _ _ _ _ over) ∙ c.loop-set.invariant.1
