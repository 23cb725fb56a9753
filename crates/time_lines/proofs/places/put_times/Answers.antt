-- `time_lines::places::put_times` meets its contract: the lines of each time are put behind those of the times before it, the last
-- time's too. Assumes nothing.
use Rattle.std.proofs.Common.{arith}
use Rattle.text.proofs.PutLaws.{puts-nothing}
use Rattle.time_lines.specs.Places.{lines_of}
use Rattle.time_lines.proofs.LineLaws.{one-time-more}
use Rattle.time_lines.proofs.places.put_times.Goals as goal

pub loop-time-init : goal.loop-time-init
unfolding lines_of
loop-time-init c = record { puts = puts-nothing c.args.out.now c.args.at; within = omega arith }

pub loop-time-preserved : goal.loop-time-preserved
loop-time-preserved c =
    one-time-more _ _ c.loop-time.time _ _ (omega arith) (omega arith) (omega arith) c.loop-time.invariant c.put_seats-end.ensures

pub returns-2 : goal.returns-2
returns-2 c =
    let most = c.requires.0.accepted.rounds in
    one-time-more _ _ c.loop-time.time _ _ (omega arith) (omega arith) (omega arith) c.loop-time.invariant c.put_seats-end.ensures
