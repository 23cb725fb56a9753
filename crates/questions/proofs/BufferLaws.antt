-- What a question leaves in a lent buffer.
-- Assumes nothing.
use mathlib.Core.Path.{◌≡◌, refl}
use mathlib.Core.List.{List}
use lib.ListN.{length}
use Rattle.farm.specs.declared.refusals.Refusal.{Refusal}
use Rattle.std.specs.Prelude.{Ok, Err}
use Rattle.questions.specs.Question.{Asked, found, refused, Lent, buffer}
use Rattle.questions.specs.Answers.{Fills}
use Rattle.telling.specs.Laid.{laid}

pub refused-fills : {A : Type 0} (ask : Lent → Asked (List A)) (old : List A) (refusal : Refusal) → ask (buffer (length old)) ≡ refused refusal
    → Fills ask old (Err refusal) old
refused-fills ask old refusal e = record { answered = rw e refl; left = rw e refl }

pub found-fills : {A : Type 0} (ask : Lent → Asked (List A)) (old now new : List A) → ask (buffer (length old)) ≡ found new → now ≡ laid new old
    → Fills ask old (Ok tt) now
found-fills ask old now new e en = record { answered = rw e refl; left = rw e en }
