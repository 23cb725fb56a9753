-- Write then read: the bytes of what is good are taken back as it was, and what stands after them is left.
-- Assumes nothing.
use mathlib.Core.Path.{◌≡◌, sym, ◌∙◌, ap}
use mathlib.Core.Bool.{true}
use mathlib.Core.List.{List, [], ◌∷◌, ◌++◌, append_assoc, append-nil}
use Prim.Native.Nat.{ℕ, zero, suc, ◌+◌, ◌-◌, ◌*◌, ◌^◌, ◌<◌, ◌≤◌}
use native.Mathlib.Nat.{zero-add, suc-add, pow-le-pow_right}
use native.Mathlib.Omega.{arith}
use lib.Dec.{lit<}
use lib.ListN.{length}
use Rattle.std.specs.Prelude.{Option, None, Some}
use Rattle.farm.specs.Limits.{Limits}
use Rattle.farm.specs.Sets.{Seats}
use Rattle.farm.specs.declared.places.Seat.{Seat}
use Rattle.farm.proofs.Cases.{and-elim}
use Rattle.record.specs.declared.header.Header.{Header}
use Rattle.record.specs.declared.edits.Edit.{Edit}
use Rattle.record.specs.Taking.{value, ◌>>=◌, when}
use Rattle.record.specs.Numbers.{number_bytes, take_number, take_within}
use Rattle.record.specs.Changes.{mapped}
use Rattle.record.specs.Header.{take_header, header_bytes}
use Rattle.record.specs.Losses.{first_seat, good_set, take_set, take_rounds, loss_bytes}
use Rattle.record.specs.Edits.{take_edit, take_edits, edit_bytes, edits_bytes}
use Rattle.record.specs.Record.{Record, good, take_record, whole, reading_of, bytes_of}
use Rattle.record.specs.Good.{good_header, sender_after, good_sets, good_edit, good_edits, good_record}
use Rattle.record.specs.Widths.{Wide}
use Rattle.record.specs.Faults.{last_of}
use Rattle.record.proofs.NumberLaws.{take-number-bytes, within-good}
use Rattle.record.proofs.HeaderLaws.{header-good}
use Rattle.record.proofs.ChangeLaws.{unmapped-mapped}
use Rattle.record.proofs.FlatLosses.{joined, joined-bind, joined-nil, joined-joined, take_sets, rounds-are-flat}
use Rattle.record.proofs.GoodLaws.{and3-elim, header-facts, set-facts, edit-facts, record-facts}

pub below_power : (n : ℕ) → n < 2 ^ n
below_power zero = lit< tt
below_power (suc n) = let below = below_power n in omega arith

-- The sender of the set after some sets.
unfoldable pub sender_on : (n : ℕ) (sender : Seat) → List Seats → Seat
sender_on n sender [] = sender
sender_on n sender (set ∷ sets) = sender_on n (sender_after n sender) sets

module _ (L : Limits) (wide : Wide L) where
  -- ════ Numbers and the header ════

  pub number-back : (v : ℕ) (rest : List ℕ) → v < 128 ^ L.longest_number → take_number L (number_bytes L v ++ rest) ≡ value v rest
  number-back v rest h =
      let some = wide.some_byte in
      let e : suc (L.longest_number - 1) ≡ L.longest_number = omega arith in
      take-number-bytes L v rest (rw e h)

  pub within-back : (low high v : ℕ) (rest : List ℕ) → low ≤ v → v ≤ high → v < 128 ^ L.longest_number
      → take_within L low high (number_bytes L v ++ rest) ≡ value v rest
  within-back low high v rest l h w = within-good L low high (number_bytes L v ++ rest) v rest (number-back v rest w) l h

  pub seats-fit : (n : ℕ) → n ≤ L.most_seats → n < 128 ^ L.longest_number
  seats-fit n h = let p = below_power L.most_seats in let w = wide.seats in omega arith

  pub header-back : (h : Header) (rest : List ℕ) → good_header L h ≡ true → take_header L (header_bytes L h ++ rest) ≡ value h rest
  unfolding header_bytes
  header-back h rest g =
      let f = header-facts L h g in
      simp append_assoc
      (header-good L _ h rest
      (record {
        after-n = _;
        after-t = _;
        after-R = _;
        n = within-back L.fewest_seats L.most_seats h.seats _ f.fewest f.most (seats-fit h.seats f.most);
        t = within-back 0 (h.seats - 1) h.bound _ (omega arith) f.bound (seats-fit h.bound (omega arith));
        R = within-back 0 L.most_rounds h.rounds _ (omega arith) f.rounds (let w = wide.rounds in omega arith);
        E = within-back 0 L.most_edits h.edits _ (omega arith) f.edits (let w = wide.edits in omega arith);
      }))

  -- ════ Losses ════

  pub set_back : (n : ℕ) (sender : Seat) (set : Seats) (rest : List ℕ) → n ≤ L.most_seats → good_set n sender set ≡ true
      → take_set L n sender (number_bytes L set ++ rest) ≡ value set rest
  unfolding take_set ◌>>=◌ when
  set_back n sender set rest few g =
      let low = set-facts n sender set g in
      let most = pow-le-pow_right {n = 2} (lit< tt) few in
      let w = wide.seats in
      rw (number-back set rest (omega arith), g)

  -- Good sets are taken, and the sets after them come next.
  pub sets-back : (n : ℕ) (sender : Seat) (k : ℕ) (sets : List Seats) (rest : List ℕ) → n ≤ L.most_seats → good_sets n sender sets ≡ true
      → take_sets L n sender (length sets + k) (loss_bytes L sets ++ rest) ≡ joined sets (take_sets L n (sender_on n sender sets) k rest)
  unfolding good_sets loss_bytes sender_on take_sets ◌>>=◌
  sets-back n sender k [] rest few g = rw zero-add (sym (joined-nil _))
  sets-back n sender k (set ∷ sets) rest few g =
      let x = and-elim _ _ g in
      rw (
        suc-add,
        append_assoc,
        set_back n sender set (loss_bytes L sets ++ rest) few x.0,
        sets-back n (sender_after n sender) k sets rest few x.1,
      )
      (joined-joined (set ∷ []) sets _)

  pub rounds-back : (n R : ℕ) (losses : List Seats) (rest : List ℕ) → n ≤ L.most_seats → length losses ≡ n * R
      → good_sets n first_seat losses ≡ true → take_rounds L n R (loss_bytes L losses ++ rest) ≡ value losses rest
  unfolding take_sets joined
  rounds-back n R losses rest few count g =
      let none : n * R ≡ length losses + 0 = omega arith in
      rounds-are-flat L n R (loss_bytes L losses ++ rest)
      ∙ rw none (sets-back n first_seat 0 losses rest few g)
      ∙ ap (λ (l : List Seats). value l rest) (append-nil losses)

  -- ════ Edits ════

  pub edit-back : (n R : ℕ) (e : Edit) (rest : List ℕ) → n ≤ L.most_seats → R ≤ L.most_rounds → good_edit L n R e ≡ true
      → take_edit L n R (edit_bytes L e ++ rest) ≡ value e rest
  unfolding take_edit edit_bytes ◌>>=◌
  edit-back n R e rest few short g =
      let f = edit-facts L n R e g in
      let wr = wide.rounds in
      let wc = wide.cells in
      let wd = wide.changes in
      simp append_assoc
      (rw (
        within-back 0 (n - 1) e.seat.0 (number_bytes L e.time.0 ++ (number_bytes L e.cell ++ (number_bytes L (mapped e.change) ++ rest)))
            (omega arith) f.seat (seats-fit e.seat.0 (omega arith)),
        within-back 0 R e.time.0 (number_bytes L e.cell ++ (number_bytes L (mapped e.change) ++ rest)) (omega arith) f.time (omega arith),
        within-back 0 L.largest_cell e.cell (number_bytes L (mapped e.change) ++ rest) (omega arith) f.cell (omega arith),
        within-back 0 L.largest_mapped_change (mapped e.change) rest (omega arith) f.change (omega arith),
        unmapped-mapped e.change,
      ))

  -- Good edits are taken, and the edits after them come next.
  pub edits-back : (n R k : ℕ) (before : Option Edit) (edits : List Edit) (rest : List ℕ) → n ≤ L.most_seats → R ≤ L.most_rounds
      → good_edits L n R before edits ≡ true
      → take_edits L n R (length edits + k) before (edits_bytes L edits ++ rest)
      ≡ joined edits (take_edits L n R k (last_of before edits) rest)
  unfolding good_edits edits_bytes last_of take_edits ◌>>=◌ when
  edits-back n R k before [] rest few short g = rw zero-add (sym (joined-nil _))
  edits-back n R k before (e ∷ edits) rest few short g =
      let x = and3-elim _ _ _ g in
      rw (
        suc-add,
        append_assoc,
        edit-back n R e (edits_bytes L edits ++ rest) few short x.0,
        x.1,
        edits-back n R k (Some e) edits rest few short x.2,
      )
      (joined-bind (e ∷ []) _ ∙ joined-joined (e ∷ []) edits _)

  pub all-edits-back : (n R E : ℕ) (edits : List Edit) (rest : List ℕ) → n ≤ L.most_seats → R ≤ L.most_rounds → length edits ≡ E
      → good_edits L n R None edits ≡ true → take_edits L n R E None (edits_bytes L edits ++ rest) ≡ value edits rest
  unfolding take_edits joined
  all-edits-back n R E edits rest few short count g =
      let none : E ≡ length edits + 0 = omega arith in
      rw none (edits-back n R 0 None edits rest few short g) ∙ ap (λ (l : List Edit). value l rest) (append-nil edits)

  -- ════ The record ════

  pub record-back : (r : Record) (rest : List ℕ) → good_record L r ≡ true → take_record L (bytes_of L r ++ rest) ≡ value r rest
  unfolding take_record bytes_of ◌>>=◌
  record-back r rest g =
      let f = record-facts L r g in
      let h = header-facts L r.header f.header in
      simp append_assoc
      (rw (
        header-back r.header (loss_bytes L r.losses ++ (edits_bytes L r.edits ++ rest)) f.header,
        rounds-back r.header.seats r.header.rounds r.losses (edits_bytes L r.edits ++ rest) h.most f.loss_count f.losses,
        all-edits-back r.header.seats r.header.rounds r.header.edits r.edits rest h.most h.rounds f.edit_count f.edits,
      ))

  pub reading-back : (r : Record) → good_record L r ≡ true → reading_of L (bytes_of L r) ≡ good r
  unfolding reading_of whole
  reading-back r g = ap (λ (bytes : List ℕ). whole (take_record L bytes)) (sym (append-nil (bytes_of L r))) ∙ rw (record-back r [] g)
