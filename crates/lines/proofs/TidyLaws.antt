-- Every line is tidy, since its words are solid: not empty, and all their bytes above the blank. Assumes nothing.
use mathlib.Core.Path.{◌≡◌, refl, ◌∙◌}
use mathlib.Core.Bool.{Bool, true, false, ◌&&◌}
use mathlib.Core.List.{List, [], ◌∷◌, ◌++◌, map, append_assoc}
use Prim.Native.Nat.{ℕ, suc, ◌/◌, ◌%◌, ◌<◌, ◌≤◌}
use native.Mathlib.Omega.{arith}
use borrow.Author.Tests.{lt-ltb, ltb-true, ne_eqb}
use lib.Dec.{ltb}
use lib.IntN.{ℤ, pos, negsuc}
use lib.ListN.{length, take, length-append}
use Rattle.farm.proofs.Cases.{and_intro, and-elim}
use Rattle.farm.specs.declared.places.Seat.{Seat}
use Rattle.farm.specs.declared.places.Time.{Time}
use Rattle.record.specs.declared.header.Header.{Header}
use Rattle.lines.specs.declared.printing.PlaceLine.{PlaceLine}
use Rattle.text.specs.Digits.{Text, digit, decimal, signed}
use Rattle.lines.specs.Lines.{header_line, standing, place_line, over_line, refused_line}
use Rattle.text.specs.Words.{ascii, blank, newline, following, line, ends, tidy}
use Rattle.text.proofs.DigitLaws.{by_digits, decimal-small, decimal-large}

-- ════ Solid words ════

above : Text → Bool
above [] = true
above (byte ∷ text) = ltb blank byte && above text

record Solid (word : Text) : Type 0 where
  begun : 1 ≤ length word
  all : above word ≡ true

infixr 5 ◌also◌
data Solids : List Text → Type 0 where
  none : Solids []
  ◌also◌ : {word : Text} {words : List Text} → Solid word → Solids words → Solids (word ∷ words)

above-append : (a b : Text) → above a ≡ true → above b ≡ true → above (a ++ b) ≡ true
unfolding above
above-append [] b p q = q
above-append (byte ∷ a) b p q =
    let parts = and-elim (ltb blank byte) (above a) p in
    and_intro (ltb blank byte) (above (a ++ b)) parts.0 (above-append a b parts.1 q)

above-one : (byte : ℕ) → blank < byte → above (byte ∷ []) ≡ true
unfolding above
above-one byte h = rw (lt-ltb blank byte h)

decimal-solid : (v : ℕ) → Solid (decimal v)
decimal-solid =
    by_digits (λ v. Solid (decimal v))
    (λ v small. rw (decimal-small v small) (record { begun = omega arith; all = above-one (digit v) (omega arith) }))
    (λ v large fewer.
    rw (decimal-large v large)
    (record {
      begun = rw length-append (omega arith);
      all = above-append (decimal (v / 10)) (digit (v % 10) ∷ []) fewer.all (above-one (digit (v % 10)) (omega arith));
    }))

signed-solid : (z : ℤ) → Solid (signed z)
unfolding signed
signed-solid (pos v) = decimal-solid v
signed-solid (negsuc v) = record {
  begun = omega arith;
  all = above-append (45 ∷ []) (decimal (suc v)) (above-one 45 (omega arith)) (decimal-solid (suc v)).all;
}

standing-solid : (loser : Bool) → Solid (standing loser)
unfolding standing ascii above
standing-solid true = record { begun = omega arith; all = refl }
standing-solid false = record { begun = omega arith; all = refl }

signed-solids : (zs : List ℤ) (words : List Text) → Solids words → Solids (map signed zs ++ words)
signed-solids [] words s = s
signed-solids (z ∷ zs) words s = signed-solid z also signed-solids zs words s

-- ════ Tidy lines ════

tidy-byte : (in_word : Bool) (byte : ℕ) (rest : Text) → blank < byte → tidy in_word (byte ∷ rest) ≡ tidy true rest
unfolding tidy
tidy-byte in_word byte rest h =
    rw (ne_eqb byte newline (λ e. omega arith), ne_eqb byte blank (λ e. omega arith), lt-ltb blank byte h)

tidy-word : (word rest : Text) → above word ≡ true → tidy true (word ++ rest) ≡ tidy true rest
unfolding above
tidy-word [] rest a = refl
tidy-word (byte ∷ word) rest a =
    let parts = and-elim (ltb blank byte) (above word) a in
    tidy-byte true byte (word ++ rest) (ltb-true blank byte parts.0) ∙ tidy-word word rest parts.1

tidy-first : (word rest : Text) → Solid word → tidy false (word ++ rest) ≡ tidy true rest
unfolding above
tidy-first [] rest s = let h = s.begun in let no : ⊥ = omega arith in absurd no
tidy-first (byte ∷ word) rest s =
    let parts = and-elim (ltb blank byte) (above word) s.all in
    tidy-byte false byte (word ++ rest) (ltb-true blank byte parts.0) ∙ tidy-word word rest parts.1

tidy-following : {words : List Text} → Solids words → tidy true (following words ++ newline ∷ []) ≡ true
unfolding following tidy ends
tidy-following none = refl
tidy-following (◌also◌ {word} {words} s more) =
    rw (append_assoc word (following words) (newline ∷ []))
    (tidy-first word (following words ++ newline ∷ []) s ∙ tidy-following more)

tidy-line : {first : Text} {words : List Text} → Solid first → Solids words → tidy false (line first words) ≡ true
unfolding line
tidy-line {first} {words} s more =
    rw (append_assoc first (following words) (newline ∷ []))
    (tidy-first first (following words ++ newline ∷ []) s ∙ tidy-following more)

-- ════ The four lines ════

pub header-tidy : (h : Header) → tidy false (header_line h) ≡ true
unfolding header_line ascii above
header-tidy h =
    tidy-line (record { begun = omega arith; all = refl }) (
    decimal-solid h.seats
    also record { begun = omega arith; all = refl }
    also decimal-solid h.bound
    also record { begun = omega arith; all = refl }
    also decimal-solid h.rounds
    also record { begun = omega arith; all = refl }
    also decimal-solid h.edits
    also none
    )

pub place-tidy : (p : PlaceLine) → tidy false (place_line p) ≡ true
unfolding place_line
place-tidy p =
    tidy-line (decimal-solid p.time.0) (
    decimal-solid p.seat.0
    also standing-solid p.loser
    also signed-solid p.critical
    also decimal-solid p.steps
    also signed-solids (take p.seats p.core) (decimal p.count ∷ []) (decimal-solid p.count also none)
    )

pub over-tidy : (time : Time) (seat : Seat) (loser : Bool) → tidy false (over_line time seat loser) ≡ true
unfolding over_line ascii above
over-tidy time seat loser =
    tidy-line (decimal-solid time.0) (
    decimal-solid seat.0
    also standing-solid loser
    also record { begun = omega arith; all = refl }
    also none
    )

pub refused-tidy : (number : ℕ) → tidy false (refused_line number) ≡ true
unfolding refused_line ascii above
refused-tidy number = tidy-line (record { begun = omega arith; all = refl }) (decimal-solid number also none)
