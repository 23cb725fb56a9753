-- Entries laid over the front of a lent buffer, and counts that fit the numbers that are given.
use Rattle.std.specs.Prelude.{List, ◌++◌, ℕ, suc, ◌≤◌, length, drop, get_or}
use Rattle.farm.specs.Limits.{limits}

-- The new entries first, and the old ones past them stay.
abbrev pub laid : {A : Type 0} → (new old : List A) → List A
laid new old = new ++ drop (length new) old

-- No count is above that of the last time, so each fits a signed number.
abbrev pub InTime : List ℕ → Type 0
InTime counts = (q : ℕ) → get_or counts q 0 ≤ suc limits.most_rounds
