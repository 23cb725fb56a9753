-- `telling::times::put_times` meets its contract. The loop's invariant: the buffer's first q entries are the latest times of
-- the seats below q, and the others are the old ones.
-- Assumes nothing.
use Rattle.telling.proofs.LaidLaws.{laid_to}
use Rattle.knowledge.specs.Views.{latest_times}
use Rattle.viewing.specs.Counts.{held}
use mathlib.Core.Path.{◌≡◌}
use Rattle.telling.proofs.times.put_times.Given as goal

abbrev pub invariant-loop-q : goal.invariant-loop-q
invariant-loop-q l = l.out ≡ laid_to l.q (latest_times l.seats (held l.counts)) l.initial.out
