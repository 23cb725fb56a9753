-- Each line as the texts that the code puts one after the other. Assumes nothing.
use mathlib.Core.Path.{◌≡◌}
use mathlib.Core.Bool.{Bool}
use mathlib.Core.List.{[], ◌∷◌, ◌++◌, map, append_assoc, append-nil}
use Prim.Native.Nat.{ℕ}
use lib.ListN.{take}
use Rattle.farm.specs.declared.places.Seat.{Seat}
use Rattle.farm.specs.declared.places.Time.{Time}
use Rattle.record.specs.declared.header.Header.{Header}
use Rattle.lines.specs.declared.printing.PlaceLine.{PlaceLine}
use Rattle.text.specs.Digits.{Text, decimal, signed}
use Rattle.lines.specs.Lines.{header_line, standing, place_text, place_line, over_line, refused_line}
use Rattle.text.specs.Words.{ascii, blank, newline, following, line}
use Rattle.text.proofs.WordLaws.{following-append}

-- ════ The texts, grouped as the code puts them ════

four-pairs : (a b c d e f g h end : Text)
    → a ++ (b ++ (c ++ (d ++ (e ++ (f ++ (g ++ (h ++ []))))))) ++ end ≡ (a ++ b) ++ (c ++ d) ++ (e ++ f) ++ (g ++ h) ++ end
four-pairs a b c d e f g h end = simp (append_assoc, append-nil)

six-parts : (a b c d e f g end : Text)
    → a ++ (b ++ (c ++ (d ++ (e ++ (f ++ (g ++ [])))))) ++ end ≡ (a ++ (b ++ (c ++ []))) ++ d ++ e ++ f ++ g ++ end
six-parts a b c d e f g end = simp (append_assoc, append-nil)

three-parts : (a b c d end : Text) → a ++ (b ++ (c ++ (d ++ []))) ++ end ≡ (a ++ (b ++ (c ++ []))) ++ (d ++ end)
three-parts a b c d end = simp (append_assoc, append-nil)

one-pair : (a b end : Text) → a ++ (b ++ []) ++ end ≡ (a ++ b) ++ end
one-pair a b end = simp append-nil

-- ════ The lines ════

pub header-text : (h : Header) → header_line h
    ≡ (ascii "seats" ++ blank ∷ decimal h.seats)
    ++ (ascii " bound" ++ blank ∷ decimal h.bound)
    ++ (ascii " rounds" ++ blank ∷ decimal h.rounds)
    ++ (ascii " edits" ++ blank ∷ decimal h.edits)
    ++ newline ∷ []
unfolding header_line line following ascii
header-text h =
    four-pairs (ascii "seats") (blank ∷ decimal h.seats) (ascii " bound") (blank ∷ decimal h.bound)
    (ascii " rounds") (blank ∷ decimal h.rounds) (ascii " edits") (blank ∷ decimal h.edits) (newline ∷ [])

pub place-begins : (time : Time) (seat : Seat) (loser : Bool) → place_text time seat loser
    ≡ decimal time.0 ++ blank ∷ decimal seat.0 ++ blank ∷ standing loser
unfolding place_text following
place-begins time seat loser = simp (append_assoc, append-nil)

pub place-text : (p : PlaceLine) → place_line p
    ≡ place_text p.time p.seat p.loser
    ++ blank ∷ signed p.critical
    ++ blank ∷ decimal p.steps
    ++ following (map signed (take p.seats p.core))
    ++ blank ∷ decimal p.count
    ++ newline ∷ []
unfolding place_line line place_text following
place-text p =
    rw (following-append (map signed (take p.seats p.core)) (decimal p.count ∷ []))
    (six-parts (decimal p.time.0) (blank ∷ decimal p.seat.0) (blank ∷ standing p.loser) (blank ∷ signed p.critical)
    (blank ∷ decimal p.steps) (following (map signed (take p.seats p.core))) (blank ∷ decimal p.count) (newline ∷ []))

pub over-text : (time : Time) (seat : Seat) (loser : Bool) → over_line time seat loser ≡ place_text time seat loser ++ ascii " over\n"
unfolding over_line line place_text following ascii
over-text time seat loser =
    three-parts (decimal time.0) (blank ∷ decimal seat.0) (blank ∷ standing loser) (ascii " over") (newline ∷ [])

pub refused-text : (number : ℕ) → refused_line number ≡ ascii "refused" ++ blank ∷ decimal number ++ newline ∷ []
unfolding refused_line line following ascii
refused-text number = one-pair (ascii "refused") (blank ∷ decimal number) (newline ∷ [])
