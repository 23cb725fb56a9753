-- The laws of decimal digits over any number. Everyone else cites these and never opens the definitions.
-- Assumes nothing.
use mathlib.Core.Path.{◌≡◌, refl, sym, ◌∙◌, ap}
use mathlib.Core.Logic.{⊎_elim}
use mathlib.Core.List.{[], ◌∷◌, ◌++◌}
use Prim.Native.Nat.{ℕ, zero, suc, ◌+◌, ◌-◌, ◌*◌, ◌/◌, ◌%◌, ◌^◌, ◌<◌, ◌≤◌}
use native.Mathlib.Omega.{arith}
use lib.ListN.{length, get_or, length-append, get_or-append}
use borrow.Author.Tests.{lt-ltb, le-ltb}
use Rattle.farm.proofs.Cases.{less-or-not}
use Rattle.std.specs.Fmt.{decimal as printed, signed_decimal as printed-signed}
use Rattle.std.proofs.lemmas.Fmt.{decimal_by_steps}
use lib.IntN.{ℤ, pos, negsuc}
use mir.Syntax.{w16}
use mir.Val.{SFits}
use Rattle.text.specs.Digits.{Text, digit, digits_of, decimal, signed, value_of}

-- ════ Any count that suffices gives the same digits ════

digits-one : (more v : ℕ) → v < 10 → digits_of more v ≡ digit v ∷ []
unfolding digits_of
digits-one zero v h = refl
digits-one (suc more) v h = rw (lt-ltb v 10 h)

digits_more : (more v : ℕ) → 9 < v → digits_of (suc more) v ≡ digits_of more (v / 10) ++ digit (v % 10) ∷ []
unfolding digits_of
digits_more more v h = rw (le-ltb v 10 h)

digits-enough : (more other v : ℕ) → v ≤ more → v ≤ other → digits_of more v ≡ digits_of other v
digits-enough zero other v h k = digits-one zero v (omega arith) ∙ sym (digits-one other v (omega arith))
digits-enough (suc more) zero v h k = digits-one (suc more) v (omega arith) ∙ sym (digits-one zero v (omega arith))
digits-enough (suc more) (suc other) v h k =
    ⊎_elim
    (λ small. digits-one (suc more) v small ∙ sym (digits-one (suc other) v small))
    (λ large.
    digits_more more v large
    ∙ ap (λ (t : Text). t ++ digit (v % 10) ∷ []) (digits-enough more other (v / 10) (omega arith) (omega arith))
    ∙ sym (digits_more other v large))
    (less-or-not v 10)

-- ════ One digit, and one digit more ════

pub decimal-small : (v : ℕ) → v < 10 → decimal v ≡ digit v ∷ []
unfolding decimal
decimal-small v h = digits-one v v h

pub decimal-large : (v : ℕ) → 9 < v → decimal v ≡ decimal (v / 10) ++ digit (v % 10) ∷ []
unfolding decimal
decimal-large zero h = let no : ⊥ = omega arith in absurd no
decimal-large (suc v) h =
    digits_more v (suc v) h
    ∙ ap (λ (t : Text). t ++ digit (suc v % 10) ∷ []) (digits-enough v (suc v / 10) (suc v / 10) (omega arith) (omega arith))

-- What holds of a number of one digit, and of a number where it holds without its last digit, holds of every number.
pub by_digits : (P : ℕ → Type 0) → ((v : ℕ) → v < 10 → P v) → ((v : ℕ) → 9 < v → P (v / 10) → P v) → (v : ℕ) → P v
by_digits P one more v = below v v (omega arith)
  where
    below : (limit w : ℕ) → w ≤ limit → P w
    below zero w h = one w (omega arith)
    below (suc limit) w h =
        ⊎_elim (λ small. one w small) (λ large. more w large (below limit (w / 10) (omega arith))) (less-or-not w 10)

-- ════ How many digits ════

pub length-small : (v : ℕ) → v < 10 → length (decimal v) ≡ 1
length-small v h = rw (decimal-small v h)

pub length-large : (v : ℕ) → 9 < v → length (decimal v) ≡ length (decimal (v / 10)) + 1
length-large v h = rw (decimal-large v h, length-append) refl

pub decimal-long : (v : ℕ) → 1 ≤ length (decimal v)
decimal-long v =
    ⊎_elim
    (λ small. let one = length-small v small in omega arith)
    (λ large. let more = length-large v large in omega arith)
    (less-or-not v 10)

pub decimal-short : (more v : ℕ) → v < 10 ^ suc more → length (decimal v) ≤ suc more
decimal-short zero v h = let one = length-small v h in omega arith
decimal-short (suc more) v h =
    ⊎_elim
    (λ small. let one = length-small v small in omega arith)
    (λ large.
    let longer = length-large v large in
    let fewer = decimal-short more (v / 10) (omega arith) in
    omega arith)
    (less-or-not v 10)

pub decimal-short-16 : (v : ℕ) → v < 65536 → length (decimal v) ≤ 5
decimal-short-16 v h = decimal-short 4 v (omega arith)

pub decimal-short-32 : (v : ℕ) → v < 4294967296 → length (decimal v) ≤ 10
decimal-short-32 v h = decimal-short 9 v (omega arith)

-- ════ What the digits say ════

value-append : (before : ℕ) (a b : Text) → value_of before (a ++ b) ≡ value_of (value_of before a) b
unfolding value_of
value-append before [] b = refl
value-append before (byte ∷ a) b = value-append (before * 10 + (byte - 48)) a b

value-digit : (before d : ℕ) → value_of before (digit d ∷ []) ≡ before * 10 + d
unfolding value_of
value-digit before d = omega arith

-- Read back, the digits are the number.
pub decimal-value : (v : ℕ) → value_of 0 (decimal v) ≡ v
decimal-value =
    by_digits (λ v. value_of 0 (decimal v) ≡ v)
    (λ v small. rw (decimal-small v small) (rw (value-digit 0 v) (omega arith)))
    (λ v large fewer. rw (decimal-large v large, value-append, fewer) (rw (value-digit (v / 10) (v % 10)) (omega arith)))

-- No number but 0 begins with `0`.
pub decimal-first : (v : ℕ) → 0 < v → 48 < get_or (decimal v) 0 0
decimal-first =
    by_digits (λ v. 0 < v → 48 < get_or (decimal v) 0 0)
    (λ v small h. rw (decimal-small v small) (omega arith))
    (λ v large fewer h.
    rw (decimal-large v large, get_or-append (decimal (v / 10)) (digit (v % 10) ∷ []) 0 0 (decimal-long (v / 10)))
    (fewer (omega arith)))

-- ════ As the kit prints it ════

pub decimal-printed : (v : ℕ) → v < 2 ^ 64 → printed v ≡ decimal v
decimal-printed =
    decimal_by_steps (λ v text. text ≡ decimal v)
    (λ v small. sym (decimal-small v small))
    (λ v text large same. rw (same, decimal-large v large))

pub signed-printed : (z : ℤ) → SFits w16 z → printed-signed z ≡ signed z
unfolding signed
signed-printed (pos v) f = let narrow = f.sfits in decimal-printed v (omega arith)
signed-printed (negsuc v) f = let narrow = f.sfits in ap (λ (t : Text). 45 ∷ t) (decimal-printed (suc v) (omega arith))
