-- A test of the code and the words of its number: where one says the same as the other, the number is given in its turn.
-- Assumes nothing.
use mathlib.Core.Path.{◌≡◌, refl, sym, ◌∙◌}
use mathlib.Core.Logic.{◌↔◌, inl, inr}
use mathlib.Core.Bool.{Bool, true, false, true≢false}
use mathlib.Core.List.{List, [], ◌∷◌}
use Prim.Native.Nat.{ℕ, ◌<◌}
use lib.Dec.{ltb}
use borrow.Author.Tests.{lt-ltb, ltb-true}
use Rattle.farm.specs.Refusals.{number_of}
use Rattle.farm.specs.declared.refusals.Refusal.{Refusal}
use Rattle.record.specs.Writing.{Verdict, faulty, unless}
use Rattle.questions.specs.Question.{Asked, provided}
use Rattle.conditions.specs.Order.{Test, ◌unless◌, GiveThen, OrderGivesOneNumber, asked_number}

pub order-gives-one-number : OrderGivesOneNumber
unfolding GiveThen
order-gives-one-number [] j k x y = x ∙ sym y
order-gives-one-number (test ∷ tests) j k (inl (holds, x)) (inl (same, y)) = order-gives-one-number tests j k x y
order-gives-one-number (test ∷ tests) j k (inl (holds, x)) (inr (fails, y)) = absurd (fails holds)
order-gives-one-number (test ∷ tests) j k (inr (fails, x)) (inl (holds, y)) = absurd (fails holds)
order-gives-one-number (test ∷ tests) j k (inr (fails, x)) (inr (too, y)) = x ∙ sym y

pub less : (a b : ℕ) → (ltb a b ≡ true) ↔ (a < b)
less a b = (ltb-true a b, lt-ltb a b)

-- Of a question.
pub asked-test : {A : Type 0} (words : Type 0) (tests : List Test) (later : ℕ → Type 0) (b : Bool) (f : Refusal) (x : Asked A)
    → (b ≡ true) ↔ words → (words → GiveThen tests later (asked_number x))
    → GiveThen (◌unless◌ (number_of f) words ∷ tests) later (asked_number (provided b f x))
unfolding GiveThen asked_number provided
asked-test words tests later true f x same rest = inl (same.0 refl, rest (same.0 refl))
asked-test words tests later false f x same rest = inr (λ w. true≢false (sym (same.1 w)), refl)

-- Of lists and calls, whatever gives a verdict its number.
module _ (num : Verdict → ℕ) (numbered : (f : Refusal) → num (faulty f) ≡ number_of f) where
  pub verdict-test : (words : Type 0) (tests : List Test) (later : ℕ → Type 0) (b : Bool) (f : Refusal) (v : Verdict)
      → (b ≡ true) ↔ words → (words → GiveThen tests later (num v))
      → GiveThen (◌unless◌ (number_of f) words ∷ tests) later (num ((unless) b f v))
  unfolding GiveThen unless
  verdict-test words tests later true f v same rest = inl (same.0 refl, rest (same.0 refl))
  verdict-test words tests later false f v same rest = inr (λ w. true≢false (sym (same.1 w)), numbered f)
