-- `lines::printing::letter` meets its contract: by the two cases.
-- Assumes nothing.
use mathlib.Core.Path.{refl}
use Rattle.lines.specs.Lines.{standing}
use Rattle.text.specs.Words.{ascii}
use Rattle.lines.proofs.printing.letter.Goals as goal

pub returns-then-loser : goal.returns-then-loser
unfolding standing ascii
returns-then-loser c = rw c.if-loser.true refl

pub returns-else-loser : goal.returns-else-loser
unfolding standing ascii
returns-else-loser c = rw c.if-loser.false refl
