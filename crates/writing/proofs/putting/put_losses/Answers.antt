-- `writing::putting::put_losses` meets its contract. The loop's invariant: what is left, put at the present place, makes the buffer that all of them make.
-- Assumes nothing.
use Prim.Native.Nat.{◌≤◌}
use native.Mathlib.Omega.{arith}
use lib.ListN.{length}
use Rattle.writing.proofs.PuttingLaws.{losses-next, losses-done}
use Rattle.numbers.proofs.PlacingLaws.{owed-done, owed-room, owed-next}
use Rattle.writing.proofs.putting.put_losses.Goals as goal

pub put_number-at-requires : goal.put_number-at-requires
put_number-at-requires c =
    let l = c.loop-set in
    (omega (arith, c.type_inv.losses l.set-index), owed-room _ _ _ _ _ _ l.invariant _ _ (losses-next l.set-index c.args.losses.now c.loop-set-test.true) c.requires)

pub loop-set-preserved : goal.loop-set-preserved
loop-set-preserved c =
    let l = c.loop-set in
    owed-next _ _ _ _ _ _ l.invariant _ _ (losses-next l.set-index c.args.losses.now c.loop-set-test.true) c.requires _ _ c.put_number-at.ensures

pub returns : goal.returns
returns c =
    let over : length c.args.losses.now ≤ c.loop-set.set-index = omega arith in
    owed-done _ _ _ _ _ _ c.loop-set.invariant (losses-done c.loop-set.set-index c.args.losses.now over)
