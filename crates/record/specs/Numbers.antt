-- Seven-bit numbers: groups of seven bits, lowest first, one byte a group. The top bit of a byte says that another follows.
use Rattle.std.specs.Prelude.{Bool, true, false, cond, ◌&&◌, ◌||◌, List, [], ◌∷◌, ℕ, zero, suc, ◌+◌, ◌-◌, ◌*◌, ◌/◌, ◌%◌, leb, ltb}
use Rattle.farm.specs.Limits.{Limits}
use Rattle.farm.specs.declared.refusals.Refusal.TheVariants.{EndsEarly, BadForm, OutOfRange}
use Rattle.record.specs.Taking.{Taken, value, refused, ◌>>=◌, when}

-- ════ Writing: the shortest form ════

-- A value in at most `more` bytes before the last one.
unfoldable pub groups_of : (more : ℕ) → ℕ → List ℕ
groups_of zero v = v ∷ []
groups_of (suc more) v = cond (ltb v 128) (v ∷ []) ((128 + v % 128) ∷ groups_of more (v / 128))

unfoldable pub number_bytes : Limits → ℕ → List ℕ
number_bytes L v = groups_of (L.longest_number - 1) v

-- ════ Reading ════

-- The last byte of a number. 0 is shortest only where it is the first byte too; else refusal 2.
unfoldable pub last_group : (first : Bool) (b : ℕ) → List ℕ → Taken ℕ
last_group first b rest = when (first || ltb 0 b) BadForm (value b rest)

-- A byte with its top bit set, before the value that follows it.
unfoldable pub with_group : (b : ℕ) → Taken ℕ → Taken ℕ
with_group b (value v rest) = value (b - 128 + 128 * v) rest
with_group b (refused r) = refused r

-- The groups from the front of the bytes, at most `more` before the last one. Refusal 1 where the bytes end, 2 where the
-- last byte that is allowed has its top bit set.
unfoldable pub take_groups : (more : ℕ) (first : Bool) → List ℕ → Taken ℕ
take_groups more first [] = refused EndsEarly
take_groups zero first (b ∷ rest) = when (ltb b 128) BadForm (last_group first b rest)
take_groups (suc more) first (b ∷ rest) =
    cond (ltb b 128) (last_group first b rest) (with_group b (take_groups more false rest))

unfoldable pub take_number : Limits → List ℕ → Taken ℕ
take_number L bytes = take_groups (L.longest_number - 1) true bytes

-- A number that has to lie between two others, both included; refusal 3 where it does not.
unfoldable pub take_within : Limits → (low high : ℕ) → List ℕ → Taken ℕ
take_within L low high bytes = do
  (v, rest) ← take_number L bytes
  when (leb low v && leb v high) OutOfRange (value v rest)
