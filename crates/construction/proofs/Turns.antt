-- What the loops over the seats find, at their start and after one more turn, as equations by which the check proves them by itself.
-- Assumes nothing.
use mathlib.Core.Path.{◌≡◌, refl}
use mathlib.Core.Bool.{cond}
use Prim.Native.Nat.{ℕ, ◌+◌}
use native.Mathlib.Numerals.{add-one}
use Rattle.farm.specs.Sets.{Seats, bit, size}
use Rattle.farm.proofs.SetLaws.{size-bound}
use Rattle.viewing.proofs.Turns as seats

pub size-zero : (set : Seats) → size 0 set ≡ 0
unfolding size
size-zero set = refl

pub size_next : (q : ℕ) (set : Seats) → size (q + 1) set ≡ size q set + cond (bit set q) 1 0
unfolding size
size_next q set = rw (add-one, size) refl

pub ruleset turns = (seats.turns, size-zero, size_next, size-bound)
