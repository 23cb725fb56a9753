-- The laws of words that follow each other. Assumes nothing.
use mathlib.Core.Path.{◌≡◌, refl}
use mathlib.Core.List.{List, [], ◌∷◌, ◌++◌, map, map-append, append_assoc, append-nil}
use Prim.Native.Nat.{ℕ, suc, ◌<◌}
use lib.IntN.{ℤ, pos}
use lib.ListN.{length, take, get_or}
use lib.Seq.{take-suc}
use Rattle.text.specs.Digits.{Text, signed}
use Rattle.text.specs.Words.{blank, following}

pub following-none : following [] ≡ []
unfolding following
following-none = refl

pub following-append : (a b : List Text) → following (a ++ b) ≡ following a ++ following b
unfolding following
following-append [] b = refl
following-append (word ∷ words) b = rw (following-append words b) (simp append_assoc)

following-one : (word : Text) → following (word ∷ []) ≡ blank ∷ word
unfolding following
following-one word = append-nil (blank ∷ word)

-- One core number more.
pub following-more : (core : List ℤ) (seat : ℕ) → seat < length core
    → following (map signed (take (suc seat) core)) ≡ following (map signed (take seat core)) ++ blank ∷ signed (get_or core seat (pos 0))
following-more core seat h =
    rw (take-suc core seat (pos 0) h, map-append, following-append, following-one) refl
