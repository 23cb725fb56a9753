-- What was taken lies within the buffer.
use Rattle.std.proofs.Common.{◌≡◌, ◌≤◌, ◌-◌, length}
use Rattle.taking.specs.Input.{input_room}
use Rattle.lister.proofs.input.take_input.Given as goal

abbrev pub invariant-loop-now : goal.invariant-loop-now
invariant-loop-now l = (l.taken ≤ input_room) × (length l.buffer ≡ input_room)

abbrev pub decreases-loop-now : goal.decreases-loop-now
decreases-loop-now l = input_room - l.taken
