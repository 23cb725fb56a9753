-- Texts put one after the other into a buffer are their join put at once. Assumes nothing.
use mathlib.Core.Path.{◌≡◌, refl, sym, ◌∙◌, ap}
use mathlib.Core.List.{List, [], ◌∷◌, ◌++◌, append_assoc}
use Prim.Native.Nat.{ℕ, ◌+◌, ◌<◌, ◌≤◌}
use native.Mathlib.Omega.{arith}
use native.Mathlib.Nat.{add_assoc, add-zero}
use native.Mathlib.Numerals.{add-one}
use lib.ListN.{length, take, drop, set, length-append, length-set}
use lib.Seq.{length-take-le, take_at, drop-append-add, drop-drop, set_split, paste-zero}
use Rattle.text.specs.Digits.{Text}
use Rattle.text.specs.Putting.{written, Puts, PutsWithin}

-- A byte that is stored is a text of one byte.
put_one : (buffer : List ℕ) (at byte : ℕ) → at < length buffer → set buffer at byte ≡ written (byte ∷ []) at buffer
unfolding written
put_one buffer at byte h = set_split buffer at byte h ∙ rw (append_assoc, add-one) refl

pub puts-byte : (buffer : List ℕ) (at byte : ℕ) → at < length buffer → Puts (byte ∷ []) at buffer (set buffer at byte) (at + 1)
puts-byte buffer at byte h = record { end = refl; bytes = put_one buffer at byte h }

module _ (buffer : List ℕ) (at : ℕ) (inside : at ≤ length buffer) where
  front : (a : Text) → length (take at buffer ++ a) ≡ at + length a
  front a = length-append (take at buffer) a ∙ ap (λ (n : ℕ). n + length a) (length-take-le at buffer inside)

  pub written_then : (a b : Text) → written b (at + length a) (written a at buffer) ≡ written (a ++ b) at buffer
  unfolding written
  written_then a b = let seam = front a in rw (take_at, drop_past, length-append, ← add_assoc) (simp append_assoc)
    where
      drop_past : drop (at + length a + length b) (take at buffer ++ a ++ drop (at + length a) buffer) ≡ drop (at + length a + length b) buffer
      drop_past =
          ap (λ (n : ℕ). drop (n + length b) (take at buffer ++ a ++ drop (at + length a) buffer)) (sym (front a))
          ∙ drop-append-add (take at buffer ++ a) (drop (at + length a) buffer) (length b)
          ∙ drop-drop (length b) (at + length a) buffer

-- A text of no byte is put already.
pub puts-nothing : (buffer : List ℕ) (at : ℕ) → Puts [] at buffer buffer at
unfolding written
puts-nothing buffer at = record { end = sym (add-zero at); bytes = paste-zero buffer at [] }

-- A text is put, and another one where it ends.
pub puts_then : {a b : Text} {at middle end : ℕ} {old half new : List ℕ} → at ≤ length old
    → Puts a at old half middle → Puts b middle half new end → Puts (a ++ b) at old new end
puts_then {a} {b} {at} {old = old} h first second = record {
  end = rw length-append (omega (arith, first.end, second.end));
  bytes = second.bytes ∙ rw (first.end, first.bytes) (written_then old at h a b);
}

-- Two bytes that are stored side by side.
pub puts-two : (buffer : List ℕ) (at a b : ℕ) → at + 1 < length buffer
    → Puts (a ∷ b ∷ []) at buffer (set (set buffer at a) (at + 1) b) (at + 2)
puts-two buffer at a b h =
    let second : at + 1 < length (set buffer at a) = simp length-set h in
    let put = puts_then (omega arith) (puts-byte buffer at a (omega arith)) (puts-byte (set buffer at a) (at + 1) b second) in
    record { end = refl; bytes = put.bytes }

-- The same where they take at most so many bytes, and where the second one's length is told.
pub within-then : {k m : ℕ} {a b : Text} {at middle end : ℕ} {old half new : List ℕ} → at ≤ length old
    → PutsWithin k a at old half middle → PutsWithin m b middle half new end → PutsWithin (k + m) (a ++ b) at old new end
within-then h first second = record {
  puts = puts_then h first.puts second.puts;
  within = omega (arith, first.within, second.within);
}

pub then-told : {k : ℕ} {a b : Text} {at middle end : ℕ} {old half new : List ℕ} → at ≤ length old
    → PutsWithin k a at old half middle → Puts b middle half new end → PutsWithin (k + length b) (a ++ b) at old new end
then-told h first second = record {
  puts = puts_then h first.puts second;
  within = omega (arith, first.within, second.end);
}

pub told-then : {m : ℕ} {a b : Text} {at middle end : ℕ} {old half new : List ℕ} → at ≤ length old
    → Puts a at old half middle → PutsWithin m b middle half new end → PutsWithin (length a + m) (a ++ b) at old new end
told-then h first second = record {
  puts = puts_then h first second.puts;
  within = omega (arith, first.end, second.within);
}

-- A word that is put in at most so many bytes, where it is the text, and where its place and its end come to these.
pub few-put : {k : ℕ} {word text : Text} {from at to end : ℕ} {old new : List ℕ} → Puts word from old new to → from ≡ at → to ≡ end
    → word ≡ text → length word ≤ k → PutsWithin k text at old new end
few-put put start stop same few = record { puts = rw (start, stop, same) at put; within = omega (arith, put.end) }
