-- A number that fits is handed on as it is, and one that does not becomes the largest that does.
-- Assumes nothing.
use mathlib.Core.Path.{◌≡◌}
use Prim.Native.Nat.{ℕ, ◌<◌, ◌≤◌}
use borrow.Author.Tests.{lt-ltb, le-ltb}
use Rattle.host.specs.Numbers.{at_most}

module _ (most number : ℕ) where
  pub far-number : most < number → most ≡ at_most most number
  unfolding at_most
  far-number far = rw (lt-ltb most number far)

  pub near-number : number ≤ most → number ≡ at_most most number
  unfolding at_most
  near-number near = rw (le-ltb most number near)
