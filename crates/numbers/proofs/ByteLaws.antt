-- The bytes of a number by its size.
-- Assumes nothing.
use mathlib.Core.Path.{◌≡◌}
use mathlib.Core.List.{[], ◌∷◌}
use mathlib.Core.Logic.{⊎_elim}
use Prim.Native.Nat.{ℕ, ◌+◌, ◌/◌, ◌%◌, ◌<◌, ◌≤◌}
use native.Mathlib.Omega.{arith}
use lib.ListN.{length}
use borrow.Author.Tests.{lt-ltb, le-ltb}
use Rattle.farm.specs.Limits.{limits}
use Rattle.farm.proofs.Cases.{less-or-not}
use Rattle.record.specs.Numbers.{groups_of, number_bytes}

pub one_byte : (v : ℕ) → v < 128 → number_bytes limits v ≡ v ∷ []
unfolding number_bytes groups_of
one_byte v h = rw (lt-ltb v 128 h)

pub two_bytes : (v : ℕ) → 128 ≤ v → v / 128 < 128 → number_bytes limits v ≡ (128 + v % 128) ∷ v / 128 ∷ []
unfolding number_bytes groups_of
two_bytes v h k = rw (le-ltb v 128 h, lt-ltb (v / 128) 128 k)

pub three-bytes : (v : ℕ) → 128 ≤ v → 128 ≤ v / 128
    → number_bytes limits v ≡ (128 + v % 128) ∷ (128 + v / 128 % 128) ∷ v / 128 / 128 ∷ []
unfolding number_bytes groups_of
three-bytes v h k = rw (le-ltb v 128 h, le-ltb (v / 128) 128 k)

pub at-most-three : (v : ℕ) → length (number_bytes limits v) ≤ 3
at-most-three v =
    ⊎_elim (λ h. rw (one_byte v h) (omega arith))
    (λ h. ⊎_elim (λ k. rw (two_bytes v h k) (omega arith)) (λ k. rw (three-bytes v h k) (omega arith)) (less-or-not (v / 128) 128))
    (less-or-not v 128)

pub some_byte : (v : ℕ) → 1 ≤ length (number_bytes limits v)
some_byte v =
    ⊎_elim (λ h. rw (one_byte v h) (omega arith))
    (λ h. ⊎_elim (λ k. rw (two_bytes v h k) (omega arith)) (λ k. rw (three-bytes v h k) (omega arith)) (less-or-not (v / 128) 128))
    (less-or-not v 128)
