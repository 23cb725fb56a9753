-- A change of height as a number: 2 × d for d ≥ 0, and −2 × d − 1 below.
use Rattle.std.specs.Prelude.{cond, ℕ, suc, ◌*◌, ◌-◌, ◌/◌, ◌%◌, eqb, ℤ, pos, negsuc}

-- `negsuc d` is −(d + 1).
unfoldable pub mapped : ℤ → ℕ
mapped (pos d) = 2 * d
mapped (negsuc d) = 2 * suc d - 1

unfoldable pub unmapped : ℕ → ℤ
unmapped m = cond (eqb (m % 2) 0) (pos (m / 2)) (negsuc (m / 2))
