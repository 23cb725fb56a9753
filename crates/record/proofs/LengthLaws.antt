-- How many bytes numbers, loss sets, edits and records take at document 01's limits.
-- Assumes nothing.
use mathlib.Core.Path.{◌≡◌, refl, sym, ◌∙◌, ap}
use mathlib.Core.Bool.{Bool, true, false, cond, true≢false}
use mathlib.Core.List.{List, [], ◌∷◌}
use Prim.Native.Nat.{ℕ, zero, suc, ◌+◌, ◌-◌, ◌*◌, ◌/◌, ◌%◌, ◌^◌, ◌<◌, ◌≤◌}
use native.Mathlib.Nat.{pow-succ', div-lt_iff_lt-mul, pow-le-pow_right, mul-le-mul}
use native.Mathlib.Omega.{arith}
use lib.Dec.{ltb, lit<, lit≤}
use lib.IntN.{pos}
use lib.ListN.{length, length-append, replicate, length-replicate}
use lib.Pow.{pow_pos}
use borrow.Author.Tests.{ltb-false, lt-ltb, le-ltb}
use Rattle.std.specs.Prelude.{Option, None, Some}
use Rattle.farm.specs.Limits.{Limits, limits}
use Rattle.farm.specs.Sets.{Seats}
use Rattle.farm.specs.declared.places.Seat.{Seat}
use Rattle.farm.proofs.Cases.{and_intro, and-elim}
use Rattle.farm.proofs.SetLaws.{bit_below}
use Rattle.record.specs.declared.header.Header.{Header}
use Rattle.record.specs.declared.edits.Edit.{Edit}
use Rattle.record.specs.Numbers.{groups_of, number_bytes}
use Rattle.record.specs.Changes.{mapped}
use Rattle.record.specs.Header.{header_bytes}
use Rattle.record.specs.Losses.{first_seat, good_set, loss_bytes}
use Rattle.record.specs.Edits.{rises, follows, edit_bytes, edits_bytes}
use Rattle.record.specs.Lengths.{numbers_length, changes_length}
use Rattle.record.specs.Record.{Record, bytes_of}
use Rattle.record.specs.Good.{good_header, sender_after, good_sets, good_edit, good_edits, good_record}
use Rattle.record.specs.Tables.{edit_of, cells_of, changes_of}
use Rattle.record.specs.Longest.{long_edits, longest}
use Rattle.record.proofs.OrderLaws.{set-intro}
use Rattle.record.proofs.GoodLaws.{and3-elim, and3-intro, header-facts, set-facts, edit-facts, edit-from-facts, record-facts, record-from-facts}

-- ════ Numbers, over any limits ════

pub groups-length : (more v k : ℕ) → v < 128 ^ suc k → length (groups_of more v) ≤ suc k
unfolding groups_of
groups-length zero v k h = omega arith
groups-length (suc more) v k h = by (ltb v 128) refl k h (λ j. groups-length more (v / 128) j)
  where
    by : (t : Bool) → ltb v 128 ≡ t → (k : ℕ) → v < 128 ^ suc k → ((j : ℕ) → v / 128 < 128 ^ suc j → length (groups_of more (v / 128)) ≤ suc j)
        → length (cond t (v ∷ []) ((128 + v % 128) ∷ groups_of more (v / 128))) ≤ suc k
    by true e k h below = omega arith
    by false e zero h below = let large = ltb-false v 128 e in absurd (omega arith)
    by false e (suc k) h below =
        let small : v / 128 < 128 ^ suc k = (div-lt_iff_lt-mul (lit< tt)).1 (omega (arith, pow-succ' 128 (suc k))) in
        let less = below k small in
        omega arith

pub number-length : (L : Limits) (v k : ℕ) → v < 128 ^ suc k → length (number_bytes L v) ≤ suc k
unfolding number_bytes
number-length L v k h = groups-length (L.longest_number - 1) v k h

exactly-one : (v : ℕ) → v < 128 → length (number_bytes limits v) ≡ 1
unfolding number_bytes groups_of
exactly-one v h = rw (lt-ltb v 128 h)

-- ════ At most ════

one_byte : (v : ℕ) → v < 128 → length (number_bytes limits v) ≤ 1
one_byte v h = number-length limits v 0 h

two_bytes : (v : ℕ) → v < 16384 → length (number_bytes limits v) ≤ 2
two_bytes v h = number-length limits v 1 h

three-bytes : (v : ℕ) → v ≤ 65535 → length (number_bytes limits v) ≤ 3
three-bytes v h = number-length limits v 2 (omega arith)

header-length : (h : Header) → good_header limits h ≡ true → length (header_bytes limits h) ≤ 5
unfolding header_bytes
header-length h g =
    let f = header-facts limits h g in
    let n = one_byte h.seats (omega arith) in
    let t = one_byte h.bound (omega arith) in
    let R = one_byte h.rounds (omega arith) in
    let E = two_bytes h.edits (omega arith) in
    simp length-append (omega arith)

pub sets-length : (n : ℕ) (sender : Seat) (sets : List Seats) → n ≤ 7 → good_sets n sender sets ≡ true → length (loss_bytes limits sets) ≡ length sets
unfolding good_sets loss_bytes
sets-length n sender [] few g = refl
sets-length n sender (set ∷ sets) few g =
    let x = and-elim (good_set n sender set) (good_sets n (sender_after n sender) sets) g in
    let low = set-facts n sender set x.0 in
    let power : 2 ^ n ≤ 2 ^ 7 = pow-le-pow_right {n = 2} (lit< tt) few in
    let first = exactly-one set (omega arith) in
    let below = sets-length n (sender_after n sender) sets few x.1 in
    simp length-append (omega arith)

edit-length : (n R : ℕ) (e : Edit) → n ≤ 7 → R ≤ 127 → good_edit limits n R e ≡ true → length (edit_bytes limits e) ≤ 8
unfolding edit_bytes
edit-length n R e few short g =
    let f = edit-facts limits n R e g in
    let s = one_byte e.seat.0 (omega arith) in
    let t = one_byte e.time.0 (omega arith) in
    let c = three-bytes e.cell f.cell in
    let d = three-bytes (mapped e.change) f.change in
    simp length-append (omega arith)

edits-length : (n R : ℕ) (before : Option Edit) (edits : List Edit) → n ≤ 7 → R ≤ 127 → good_edits limits n R before edits ≡ true
    → length (edits_bytes limits edits) ≤ 8 * length edits
unfolding good_edits edits_bytes
edits-length n R before [] few short g = lit≤ tt
edits-length n R before (e ∷ edits) few short g =
    let x = and3-elim (good_edit limits n R e) (follows before e) (good_edits limits n R (Some e) edits) g in
    let first = edit-length n R e few short x.0 in
    let below = edits-length n R (Some e) edits few short x.2 in
    simp length-append (omega arith)

-- A header has at most five bytes, a set one, and an edit at most eight.
pub record-most : (r : Record) → good_record limits r ≡ true → length (bytes_of limits r) ≤ 5 + length r.losses + 8 * length r.edits
unfolding bytes_of
record-most r g =
    let f = record-facts limits r g in
    let h = header-facts limits r.header f.header in
    let a = header-length r.header f.header in
    let b = sets-length r.header.seats first_seat r.losses h.most f.losses in
    let c = edits-length r.header.seats r.header.rounds None r.edits h.most h.rounds f.edits in
    simp length-append (omega arith)

pub record-length : (r : Record) → good_record limits r ≡ true → length (bytes_of limits r) ≤ 4990
record-length r g =
    let f = record-facts limits r g in
    let h = header-facts limits r.header f.header in
    let area : r.header.seats * r.header.rounds ≤ 7 * 127 = mul-le-mul h.most h.rounds in
    let sets = f.loss_count in
    let edits = f.edit_count in
    let most = h.edits in
    omega (arith, record-most r g)

-- ════ Exactly ════

exactly-three : (v : ℕ) → 16384 ≤ v → length (number_bytes limits v) ≡ 3
unfolding number_bytes groups_of
exactly-three v h = rw (le-ltb v 128 (omega arith), le-ltb (v / 128) 128 (omega arith))

-- The seat and the time of an edit take one byte each.
pub edits-exactly : (n R : ℕ) (before : Option Edit) (edits : List Edit) → n ≤ 7 → R ≤ 127 → good_edits limits n R before edits ≡ true
    → length (edits_bytes limits edits) ≡ 2 * length edits + numbers_length limits (cells_of edits) + changes_length limits (changes_of edits)
unfolding good_edits edits_bytes edit_bytes cells_of changes_of numbers_length changes_length
edits-exactly n R before [] few short g = refl
edits-exactly n R before (e ∷ edits) few short g =
    let x = and3-elim (good_edit limits n R e) (follows before e) (good_edits limits n R (Some e) edits) g in
    let f = edit-facts limits n R e x.0 in
    let s = exactly-one e.seat.0 (omega arith) in
    let t = exactly-one e.time.0 (omega arith) in
    let below = edits-exactly n R (Some e) edits few short x.2 in
    simp length-append (omega arith)

long-edits-bytes : (cell left : ℕ) → 16384 ≤ cell → length (edits_bytes limits (long_edits cell left)) ≡ 8 * left
unfolding long_edits edits_bytes edit_bytes mapped
long-edits-bytes cell zero h = refl
long-edits-bytes cell (suc left) h =
    let below = long-edits-bytes (suc cell) left (omega arith) in
    let c = exactly-three cell h in
    let d = exactly-three 16384 (lit≤ tt) in
    let z : length (number_bytes limits 0) ≡ 1 = unfold number_bytes groups_of in refl in
    simp length-append (omega arith)

no-losses-bytes : (k : ℕ) → length (loss_bytes limits (replicate k 0)) ≡ k
unfolding loss_bytes number_bytes groups_of
no-losses-bytes zero = refl
no-losses-bytes (suc k) = ap suc (no-losses-bytes k)

pub longest-length : length (bytes_of limits longest) ≡ 4990
unfolding bytes_of longest
longest-length =
    let e = long-edits-bytes 16384 512 (lit≤ tt) in
    let s = no-losses-bytes 889 in
    let h : length (header_bytes limits (record { seats = 7; bound = 6; rounds = 127; edits = 512 })) ≡ 5 =
    unfold header_bytes number_bytes groups_of in refl
    in
    simp length-append (omega arith)

-- ════ And it is good ════

no-losses-good : (n : ℕ) (sender : Seat) (k : ℕ) → good_sets n sender (replicate k 0) ≡ true
unfolding good_sets
no-losses-good n sender zero = refl
no-losses-good n sender (suc k) =
    and_intro _ _ (set-intro n sender 0 (λ q b. absurd (true≢false (sym b ∙ bit_below 0 q.0 (pow_pos q.0))))) (no-losses-good n (sender_after n sender) k)

long-edit-good : (cell : ℕ) → cell ≤ 65535 → good_edit limits 7 127 (edit_of 0 0 cell (pos 8192)) ≡ true
unfolding mapped
long-edit-good cell h =
    edit-from-facts limits 7 127 (edit_of 0 0 cell (pos 8192)) (record { seat = lit≤ tt; time = lit≤ tt; cell = h; change = lit≤ tt })

long-edits-good : (cell left : ℕ) → suc cell + left ≤ 65536
    → good_edits limits 7 127 (Some (edit_of 0 0 cell (pos 8192))) (long_edits (suc cell) left) ≡ true
unfolding long_edits good_edits follows rises
long-edits-good cell zero h = refl
long-edits-good cell (suc left) h =
    and3-intro _ _ _ (long-edit-good (suc cell) (omega arith)) (lt-ltb cell (suc cell) (omega arith)) (long-edits-good (suc cell) left (omega arith))

long-edits-length : (cell left : ℕ) → length (long_edits cell left) ≡ left
unfolding long_edits
long-edits-length cell zero = refl
long-edits-length cell (suc left) = ap suc (long-edits-length (suc cell) left)

pub longest-good : good_record limits longest ≡ true
unfolding longest
longest-good = record-from-facts limits longest
    (record {
      header = unfold good_header in refl;
      loss_count = length-replicate {A = ℕ} 889 0;
      losses = no-losses-good 7 first_seat 889;
      edit_count = long-edits-length 16384 512;
      edits = first;
    })
  where
    first : good_edits limits 7 127 None (long_edits 16384 512) ≡ true
    first = unfold long_edits good_edits follows in and3-intro _ _ _ (long-edit-good 16384 (lit≤ tt)) refl (long-edits-good 16384 511 (lit≤ tt))
