-- `telling::times::put_times` meets its contract. The loop's invariant: the buffer's first q entries are the latest times of
-- the seats below q, and the others are the old ones.
-- Assumes nothing.
use Rattle.telling.proofs.LaidLaws.{laid-turn, laid-whole}
use Rattle.telling.proofs.TimeLaws.{length-times, get_or-times, time-kept}
use Rattle.knowledge.specs.Views.{latest_times}
use Rattle.viewing.specs.Counts.{held}
use lib.IntN.{pos}
use lib.ListN.{length, get_or}
use native.Mathlib.Omega.{arith}
use mathlib.Core.Path.{◌≡◌, sym, ◌∙◌}
use Rattle.telling.proofs.times.put_times.Goals as goal

pub loop-q-preserved : goal.loop-q-preserved
unfolding held
loop-q-preserved c =
    let a = c.args in
    let l = c.loop-q in
    let small = c.requires.2 l.q in
    let full : length (latest_times a.seats (held a.counts.now)) ≡ a.seats = length-times a.seats (held a.counts.now) in
    laid-turn l.q (latest_times a.seats (held a.counts.now)) a.out.now l.out _ (pos 0) (omega arith) (omega arith) l.invariant
    (time-kept (get_or a.counts.now l.q 0) c.latest_time.result (omega arith) c.latest_time.ensures
    ∙ sym (get_or-times a.seats (held a.counts.now) l.q (pos 0) (omega arith)))

pub returns : goal.returns
returns c =
    let a = c.args in
    let l = c.loop-q in
    let full : length (latest_times a.seats (held a.counts.now)) ≡ a.seats = length-times a.seats (held a.counts.now) in
    laid-whole l.q (latest_times a.seats (held a.counts.now)) a.out.now l.out (omega arith) l.invariant
