-- `live_entries::lists::put_sets` meets its contract: each set is pasted behind those before it. Assumes nothing.
use mathlib.Core.Path.{◌≡◌, refl, ◌∙◌}
use mathlib.Core.List.{append_assoc}
use native.Mathlib.Numerals.{add-one}
use native.Mathlib.Omega.{arith}
use lib.ListN.{length, length-set}
use lib.Seq.{paste-zero, paste-suc, take-length}
use Rattle.record.specs.Tables.{over}
use Rattle.live_entries.proofs.lists.put_sets.Goals as goal

pub loop-sender-init : goal.loop-sender-init
loop-sender-init c = (refl, paste-zero c.args.losses.now c.args.at c.args.sets.now)

pub loop-sender-preserved : goal.loop-sender-preserved
loop-sender-preserved c =
    let a = c.args in (
      simp length-set c.loop-sender.invariant.0,
      rw (c.loop-sender.invariant.1, add-one) (paste-suc a.losses.now a.at a.sets.now c.loop-sender.sender 0 (omega arith) (omega arith)),
    )

pub returns : goal.returns
unfolding over
returns c =
    let all : c.loop-sender.sender ≡ length c.args.sets.now = omega arith in
    c.loop-sender.invariant.1 ∙ rw (all, take-length, append_assoc) refl
