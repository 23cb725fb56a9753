-- `text::fields::put_core` meets its contract. The invariant of its loop: the numbers of the seats passed are put, each with
-- its blank in at most seven bytes. Assumes nothing.
use Rattle.std.proofs.Common.{◌*◌, take, map}
use Rattle.text.specs.Digits.{signed}
use Rattle.text.specs.Putting.{PutsWithin}
use Rattle.text.specs.Words.{following}
use Rattle.text.proofs.fields.put_core.Given as goal

abbrev pub invariant-loop-number : goal.invariant-loop-number
invariant-loop-number l =
    PutsWithin (7 * l.number-index) (following (map signed (take l.number-index l.number-items))) l.at l.initial.out l.out l.place
