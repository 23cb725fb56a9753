-- All of a place at once: what the code answers, from its parts. Assumes nothing.
use mathlib.Core.Path.{◌≡◌}
use mathlib.Core.List.{List}
use Rattle.std.specs.Prelude.{Ok, Err}
use Prim.Native.Nat.{ℕ}
use Rattle.farm.specs.declared.refusals.Refusal.{Refusal}
use Rattle.knowledge.specs.Settled.{Settled}
use Rattle.construction.specs.declared.settled.Settled as Settle
use Rattle.questions.specs.Accepted.{Found, agreed_with}
use Rattle.questions.specs.Answers.{agreed_from}
use Rattle.questions.specs.Question.{Asked, refused}

module _ (n : ℕ) (seats times : List ℕ) (asked : Asked Settled) where
  pub agreed-refused : (x : Refusal) → asked ≡ refused x → Err x ≡ agreed_from n seats times asked
  unfolding agreed_from
  agreed-refused x e = rw e

  pub agreed-found : (s : Settle.Settled) (f : Found n asked s) → Ok (agreed_with n s seats times) ≡ agreed_from n seats times asked
  unfolding agreed_from
  agreed-found s f = rw (f.is, f.core, f.coded)
