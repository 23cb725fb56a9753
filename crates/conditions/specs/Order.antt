-- Refusals by their numbers, in an order. Document 01: where several hold, the order decides.
use Rattle.std.specs.Prelude.{◌≡◌, ◌⊎◌, List, [], ◌∷◌, ℕ, Result, Ok, Err}
use Rattle.farm.specs.declared.refusals.Refusal.{Refusal}
use Rattle.farm.specs.Refusals.{number_of}
use Rattle.record.specs.Record.{Reading, good, bad}
use Rattle.questions.specs.Question.{Asked, found, refused}

-- ════ Tests ════

-- A number, and what has to hold for it not to be given.
pub record Test : Type 1 where
  pub number : ℕ
  pub holds : Type 0

infix 68 ◌unless◌
abbrev pub ◌unless◌ : ℕ → Type 0 → Test
k unless words = record { number = k; holds = words }

-- The number k is that of the first test whose words do not hold. Where all hold, what comes after the tests decides.
unfoldable pub GiveThen : List Test → (ℕ → Type 0) → ℕ → Type 0
GiveThen [] later k = later k
GiveThen (test ∷ tests) later k = (test.holds × GiveThen tests later k) ⊎ ((¬ test.holds) × (k ≡ test.number))

-- Where nothing comes after them, the call is accepted, for which 0 stands.
abbrev pub Give : List Test → ℕ → Type 0
Give tests k = GiveThen tests (λ j. j ≡ 0) k

-- So a number is given exactly if its turn comes: no other one can be.
abbrev pub OrderGivesOneNumber : Type 1
OrderGivesOneNumber = (tests : List Test) (j k : ℕ) → Give tests j → Give tests k → j ≡ k

-- ════ The number in an answer: 0, or that of the refusal ════

unfoldable pub asked_number : {A : Type 0} → Asked A → ℕ
asked_number (found a) = 0
asked_number (refused f) = number_of f

unfoldable pub read_number : Reading → ℕ
read_number (good r) = 0
read_number (bad f) = number_of f

-- Of the code's answers, whatever they hold.
unfoldable pub answer_number : {A : Type 0} → Result A Refusal → ℕ
answer_number (Ok a) = 0
answer_number (Err f) = number_of f
