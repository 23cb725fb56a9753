-- `text::words::put_word` meets its contract. The invariant of its loop: the first `byte` bytes of the word are pasted in.
-- Assumes nothing.
use mathlib.Core.Path.{◌≡◌}
use lib.ListN.{length}
use lib.Seq.{paste}
use Rattle.text.proofs.words.put_word.Given as goal

abbrev pub invariant-loop-byte : goal.invariant-loop-byte
invariant-loop-byte l = (length l.out ≡ length l.initial.out) × (l.out ≡ paste l.initial.out l.at l.word l.byte)
