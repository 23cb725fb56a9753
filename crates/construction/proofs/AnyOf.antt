-- What `any` of the library answers over a range of seats or rounds, as the `any` of specs/Sets.antt of farm; and that an empty loss set has no seat.
-- Assumes nothing.
use mathlib.Core.Path.{◌≡◌, refl, sym, ◌∙◌, ap}
use mathlib.Core.Bool.{Bool, true, false, ◌||◌, ◌&&◌}
use mathlib.Core.List.{List}
use Prim.Native.Nat.{ℕ, zero, suc, ◌+◌, ◌-◌, ◌^◌, ◌≤◌}
use native.Mathlib.Nat.{le_refl}
use native.Mathlib.Numerals.{add-one}
use native.Mathlib.Omega.{arith}
use lib.Dec.{ltb}
use lib.ListN.{get_or}
use borrow.Author.Tests.{lt-ltb}
use Rattle.std.specs.List.{list_any, range_with_len}
use Rattle.std.proofs.Math.Nat.{zero-div}
use Rattle.farm.specs.Sets.{Seats, any, bit}

or-assoc : (a b c : Bool) → (a || (b || c)) ≡ ((a || b) || c)
or-assoc true b c = refl
or-assoc false b c = refl

or-false : (a : Bool) → (a || false) ≡ a
or-false true = refl
or-false false = refl

-- From a number on, after those below it, where two tests agree from there on.
any-rest : (n a : ℕ) (f g : ℕ → Bool) → ((k : ℕ) → a ≤ k → f k ≡ g k) → (any a g || list_any f (range_with_len a n)) ≡ any (a + n) g
unfolding any
any-rest zero a f g same = let e : a ≡ a + 0 = omega arith in or-false (any a g) ∙ ap (λ (k : ℕ). any k g) e
any-rest (suc n) a f g same =
    let e : a + 1 + n ≡ a + suc n = omega arith in
    or-assoc (any a g) (f a) (list_any f (range_with_len (a + 1) n))
    ∙ ap (λ (b : Bool). (any a g || b) || list_any f (range_with_len (a + 1) n)) (same a (le_refl a))
    ∙ ap (λ (k : ℕ). any k g || list_any f (range_with_len (a + 1) n)) (sym (add-one a))
    ∙ any-rest n (a + 1) f g (λ k h. same k (omega arith))
    ∙ ap (λ (k : ℕ). any k g) e

pub any-range : (n : ℕ) (test : ℕ → Bool) → list_any test (range_with_len 0 (n - 0)) ≡ any n test
unfolding any
any-range n test = let e : 0 + (n - 0) ≡ n = omega arith in any-rest (n - 0) 0 test test (λ k h. refl) ∙ ap (λ (k : ℕ). any k test) e

-- Over the rounds, which begin with 1: each round has the number of the time that it begins at, and one more.
pub any-rounds : (n : ℕ) (test : ℕ → Bool) → list_any (λ r. test (suc (r - 1))) (range_with_len 1 (n - 1)) ≡ any n (λ r. ltb 0 r && test r)
unfolding any
any-rounds zero test = refl
any-rounds (suc n) test =
    let e : 1 + (suc n - 1) ≡ suc n = omega arith in
    any-rest (suc n - 1) 1 (λ r. test (suc (r - 1))) (λ r. ltb 0 r && test r)
    (λ k h. let same : suc (k - 1) ≡ k = omega arith in rw (lt-ltb 0 k h, same) refl)
    ∙ ap (λ (k : ℕ). any k (λ r. ltb 0 r && test r)) e

-- An empty entry of a table has no seat.
pub any-empty : (n : ℕ) (table : List Seats) (at : ℕ) {place : ℕ} → get_or table place 0 ≡ 0 → place ≡ at → any n (bit (get_or table at 0)) ≡ false
unfolding any bit
any-empty zero table at none same = refl
any-empty (suc n) table at none same = rw (any-empty n table at none same, ← same, none, zero-div (2 ^ n))
