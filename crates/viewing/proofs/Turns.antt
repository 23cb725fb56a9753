-- What loops put together, at their start and after one more turn, as equations by which the check proves a loop by itself.
-- Assumes nothing.
use mathlib.Core.Path.{◌≡◌, refl, sym}
use mathlib.Core.Bool.{Bool, cond}
use Prim.Native.Nat.{ℕ, ◌+◌, ◌^◌, ◌<◌, max}
use native.Mathlib.Numerals.{add-one}
use lib.ListN.{set, replicate}
use Rattle.farm.specs.Sets.{collect}
use Rattle.farm.proofs.SetLaws.{collect-below}
use Rattle.knowledge.specs.Views.{View, joined}
use Rattle.viewing.specs.Counts.{filled}
use Rattle.viewing.proofs.CountLaws.{filled_none, filled_more}

-- ════ Sets of seats ════

pub collect-zero : (test : ℕ → Bool) → collect 0 test ≡ 0
unfolding collect
collect-zero test = refl

pub collect_next : (q : ℕ) (test : ℕ → Bool) → collect (q + 1) test ≡ collect q test + cond (test q) (2 ^ q) 0
unfolding collect
collect_next q test = rw (add-one, collect) refl

-- ════ Joined views ════

pub joined-zero : (test : ℕ → Bool) (views : ℕ → View) (q : ℕ) → joined 0 test views q ≡ 0
unfolding joined
joined-zero test views q = refl

pub joined_next : (p : ℕ) (test : ℕ → Bool) (views : ℕ → View) (q : ℕ)
    → joined (p + 1) test views q ≡ max (joined p test views q) (cond (test p) (views p q) 0)
unfolding joined
joined_next p test views q = rw (add-one, joined) refl

-- ════ Arrays filled in from the front ════

pub filled-zero : (m : ℕ) (f : ℕ → ℕ) → filled m 0 f ≡ replicate m 0
filled-zero m f = sym (filled_none m f)

pub filled_next : (m q : ℕ) (f : ℕ → ℕ) → q < m → filled m (q + 1) f ≡ set (filled m q f) q (f q)
filled_next m q f h = rw add-one (sym (filled_more m q f (f q) h refl))

pub ruleset turns = (collect-zero, collect_next, collect-below, joined-zero, joined_next, filled-zero, filled_next)
