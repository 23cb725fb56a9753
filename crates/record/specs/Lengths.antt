-- How many bytes lists of numbers take, one number after the other.
use Rattle.std.specs.Prelude.{List, [], ◌∷◌, ℕ, ◌+◌, ℤ, length}
use Rattle.farm.specs.Limits.{Limits}
use Rattle.record.specs.Numbers.{number_bytes}
use Rattle.record.specs.Changes.{mapped}

unfoldable pub numbers_length : Limits → List ℕ → ℕ
numbers_length L [] = 0
numbers_length L (v ∷ values) = length (number_bytes L v) + numbers_length L values

unfoldable pub changes_length : Limits → List ℤ → ℕ
changes_length L [] = 0
changes_length L (d ∷ changes) = length (number_bytes L (mapped d)) + changes_length L changes
