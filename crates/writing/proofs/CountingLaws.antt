-- How many bytes lists of numbers take from a place of them on.
-- Assumes nothing.
use mathlib.Core.Path.{◌≡◌}
use mathlib.Core.List.{List}
use Prim.Native.Nat.{ℕ, ◌+◌, ◌<◌, ◌≤◌}
use native.Mathlib.Numerals.{add-one}
use lib.IntN.{ℤ, pos}
use lib.ListN.{length, get_or, drop, drop_of_length-le}
use lib.Seq.{drop-cons}
use Rattle.farm.specs.Limits.{limits}
use Rattle.record.specs.Numbers.{number_bytes}
use Rattle.record.specs.Changes.{mapped}
use Rattle.record.specs.Lengths.{numbers_length, changes_length}

module _ (i : ℕ) (values : List ℕ) where
  pub numbers-next : i < length values
      → numbers_length limits (drop i values) ≡ length (number_bytes limits (get_or values i 0)) + numbers_length limits (drop (i + 1) values)
  unfolding numbers_length
  numbers-next h = rw (add-one, drop-cons values i 0 h, numbers_length)

  pub numbers-done : length values ≤ i → numbers_length limits (drop i values) ≡ 0
  unfolding numbers_length
  numbers-done h = rw (drop_of_length-le values h)

module _ (i : ℕ) (changes : List ℤ) where
  pub changes-next : i < length changes
      → changes_length limits (drop i changes) ≡ length (number_bytes limits (mapped (get_or changes i (pos 0)))) + changes_length limits (drop (i + 1) changes)
  unfolding changes_length
  changes-next h = rw (add-one, drop-cons changes i (pos 0) h, changes_length)

  pub changes-done : length changes ≤ i → changes_length limits (drop i changes) ≡ 0
  unfolding changes_length
  changes-done h = rw (drop_of_length-le changes h)
