-- A change and its number, both ways; and the signed arithmetic of the code, at 16 bits.
-- Assumes nothing.
use mathlib.Core.Path.{◌≡◌, refl, ◌∙◌, ap}
use mathlib.Core.Bool.{true, false, true≢false}
use Prim.Native.Nat.{ℕ, zero, suc, ◌+◌, ◌-◌, ◌*◌, ◌/◌, ◌%◌, ◌^◌, ◌<◌}
use native.Mathlib.Nat.{zero-add, not-suc-le-zero}
use native.Mathlib.Omega.{arith}
use lib.IntN.{ℤ, pos, negsuc, ◌-ℤ◌, nat_abs}
use lib.Signed.{lt_z}
use mir.Syntax.{w16}
use mir.Val.{SFits, to_z, of_z}
use mir.ValLaws.{to_z_pos, to_z-of_z}
use borrow.Author.Tests.{eq-eqb, ne_eqb, ltb-true}
use Rattle.record.specs.Changes.{mapped, unmapped}

-- ════ Both ways ════

pub even-unmapped : (m : ℕ) → m % 2 ≡ 0 → unmapped m ≡ pos (m / 2)
unfolding unmapped
even-unmapped m e = rw (eq-eqb (m % 2) 0 e)

pub odd-unmapped : (m : ℕ) → (m % 2 ≡ 0 → ⊥) → unmapped m ≡ negsuc (m / 2)
unfolding unmapped
odd-unmapped m e = rw (ne_eqb (m % 2) 0 e)

pub unmapped-mapped : (d : ℤ) → unmapped (mapped d) ≡ d
unfolding mapped
unmapped-mapped (pos d) = even-unmapped (2 * d) (omega arith) ∙ ap pos (omega arith)
unmapped-mapped (negsuc d) = odd-unmapped (2 * suc d - 1) (λ e. omega arith) ∙ ap negsuc (omega arith)

pub mapped-unmapped : (m : ℕ) → mapped (unmapped m) ≡ m
unfolding mapped
mapped-unmapped m = by (m % 2) refl
  where
    by : (r : ℕ) → m % 2 ≡ r → mapped (unmapped m) ≡ m
    by zero e = ap mapped (even-unmapped m e) ∙ omega arith
    by (suc r) e = ap mapped (odd-unmapped m (λ f. omega arith)) ∙ omega arith

-- ════ Signed arithmetic at 16 bits ════

pub minus-one-minus-pos : (h : ℕ) → negsuc 0 -ℤ pos h ≡ negsuc h
minus-one-minus-pos zero = refl
minus-one-minus-pos (suc h) = ap (λ (k : ℕ). negsuc (suc k)) (zero-add h)

-- A change and its size, as the code has them.
module _ (z : ℤ) (fits : SFits w16 z) (size : ℕ) (is : size ≡ nat_abs (to_z w16 (of_z w16 z))) where
  pub below-mapped : lt_z (to_z w16 (of_z w16 z)) (pos 0) ≡ true → 2 * (size - 1) + 1 ≡ mapped z
  unfolding mapped
  below-mapped e = by z (is ∙ ap nat_abs (to_z-of_z w16 z fits)) (rw (to_z-of_z w16 z fits) at e)
    where
      by : (y : ℤ) → size ≡ nat_abs y → lt_z y (pos 0) ≡ true → 2 * (size - 1) + 1 ≡ mapped y
      by (pos n) s f = absurd (not-suc-le-zero (ltb-true n 0 f))
      by (negsuc k) s f = rw s (omega arith)

  pub above-mapped : lt_z (to_z w16 (of_z w16 z)) (pos 0) ≡ false → 2 * size ≡ mapped z
  unfolding mapped
  above-mapped e = by z (is ∙ ap nat_abs (to_z-of_z w16 z fits)) (rw (to_z-of_z w16 z fits) at e)
    where
      by : (y : ℤ) → size ≡ nat_abs y → lt_z y (pos 0) ≡ false → 2 * size ≡ mapped y
      by (pos n) s f = rw s refl
      by (negsuc k) s f = absurd (true≢false f)

-- A half of 16 bits is its own signed number, and so is what lies as far below −1.
pub half-kept : (n : ℕ) → n < 2 ^ 16 → to_z w16 (n / 2) ≡ pos (n / 2)
half-kept n h = to_z_pos w16 (n / 2) (omega arith)

pub below_half : (n : ℕ) → n < 2 ^ 16 → negsuc 0 -ℤ to_z w16 (n / 2) ≡ negsuc (n / 2)
below_half n h = rw (half-kept n h) (minus-one-minus-pos (n / 2))
