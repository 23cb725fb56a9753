-- A byte string is refused for a fault, and for that fault alone: whatever stands after what is good is what reading comes to next,
-- and a refusal can have come from nowhere else.
-- Assumes nothing.
use mathlib.Core.Path.{◌≡◌, refl, sym, ◌∙◌, ap}
use mathlib.Core.Bool.{Bool, true, false, cond}
use mathlib.Core.List.{List, [], ◌∷◌, ◌++◌, append_assoc}
use Prim.Native.Nat.{ℕ, zero, suc, ◌+◌, ◌-◌, ◌*◌, ◌%◌, ◌^◌, ◌<◌}
use native.Mathlib.Nat.{mod-lt, mod-eq_of_lt, mod_self, suc-mod, zero-mod, add-zero}
use native.Mathlib.Omega.{arith}
use lib.Dec.{eqb}
use lib.ListN.{length}
use borrow.Author.Tests.{eqb-true, eqb-false, ltb-true}
use Rattle.std.specs.Prelude.{None}
use Rattle.farm.specs.Limits.{Limits}
use Rattle.farm.specs.Sets.{Seats}
use Rattle.farm.specs.declared.places.Seat.{Seat}
use Rattle.farm.specs.declared.refusals.Refusal.{Refusal}
use Rattle.farm.specs.declared.refusals.Refusal.TheVariants.{BadOrder}
use Rattle.farm.proofs.Cases.{and-elim}
use Rattle.record.specs.declared.header.Header.{Header}
use Rattle.record.specs.declared.edits.Edit.{Edit}
use Rattle.record.specs.Taking.{Taken, value, refused, ◌>>=◌, when}
use Rattle.record.specs.Numbers.{number_bytes, take_number, take_within}
use Rattle.record.specs.Header.{take_header, header_bytes}
use Rattle.record.specs.Losses.{first_seat, seat_after, sender_of, take_set, loss_bytes}
use Rattle.record.specs.Edits.{follows, take_edit, take_edits, edit_bytes, edits_bytes}
use Rattle.record.specs.Record.{Record, bad, take_record, whole, reading_of, bytes_of}
use Rattle.record.specs.Good.{within, good_header, sender_after, good_sets, good_rounds, good_edit, good_edits}
use Rattle.record.specs.Widths.{Wide}
use Rattle.record.specs.Faults.{Spot, at_seats, at_bound, at_rounds, at_edits, at_loss_set, at_seat, at_time, at_cell, at_change, up_to, fits, refusal_at, good_so_far, good_up_to, last_of, Fault, bad_number, bad_value, bad_order, bytes_left}
use Rattle.record.proofs.FlatLosses.{joined, take_sets, rounds-are-flat}
use Rattle.record.proofs.GoodLaws.{and3-elim, and4-elim, within-elim, header-facts}
use Rattle.record.proofs.NumberFaultLaws.{number-fault-refused}
use Rattle.record.proofs.ReadBack.{sender_on, number-back, seats-fit, within-back, header-back, sets-back, rounds-back, edit-back, edits-back, record-back}

-- ════ The sender of the next set ════

pub sender-after-mod : (n i : ℕ) → 0 < n → sender_after n (sender_of n i) ≡ sender_of n (suc i)
unfolding sender_after
sender-after-mod n i h = by (eqb (suc (i % n)) n) refl
  where
    seat : ℕ → Seat
    seat q = record { 0 = q }

    by : (t : Bool) → eqb (suc (i % n)) n ≡ t → cond t first_seat (seat_after (sender_of n i)) ≡ sender_of n (suc i)
    by true e = ap seat (sym (suc-mod i n ∙ ap (λ (x : ℕ). x % n) (eqb-true (suc (i % n)) n e) ∙ mod_self n))
    by false e =
        let other : suc (i % n) ≡ n → ⊥ = eqb-false (suc (i % n)) n e in
        let low = mod-lt i h in
        ap seat (sym (suc-mod i n ∙ mod-eq_of_lt (omega arith)))

sender-on-mod : (n i : ℕ) (sets : List Seats) → 0 < n → sender_on n (sender_of n i) sets ≡ sender_of n (i + length sets)
unfolding sender_on
sender-on-mod n i [] h = rw (add-zero i)
sender-on-mod n i (set ∷ sets) h =
    let e : suc i + length sets ≡ i + suc (length sets) = omega arith in
    rw (sender-after-mod n i h, sender-on-mod n (suc i) sets h, e)

pub sender-due : (n : ℕ) (sets : List Seats) → 0 < n → sender_on n first_seat sets ≡ sender_of n (length sets)
sender-due n sets h =
    let e : 0 + length sets ≡ length sets = omega arith in
    ap (λ (s : ℕ). sender_on n (record { 0 = s }) sets) (sym (zero-mod n)) ∙ sender-on-mod n 0 sets h ∙ ap (sender_of n) e

pub positive : (i n R : ℕ) → i < n * R → 0 < n
positive i zero R h = absurd (omega arith)
positive i (suc n) R h = omega arith

-- ════ A fault is refused ════

-- The next number with its test.
unfoldable pub take_at : Limits → Spot → List ℕ → Taken ℕ
take_at L spot rest = do
  (v, after) ← take_number L rest
  when (fits L spot v) (refusal_at spot) (value v after)

module _ (L : Limits) (wide : Wide L) where
  at-number : (spot : Spot) (rest : List ℕ) (r : Refusal) → take_number L rest ≡ refused r → take_at L spot rest ≡ refused r
  unfolding take_at ◌>>=◌
  at-number spot rest r e = rw e

  at_value : (spot : Spot) (rest : List ℕ) (v : ℕ) (after : List ℕ) → take_number L rest ≡ value v after → fits L spot v ≡ false
      → take_at L spot rest ≡ refused (refusal_at spot)
  unfolding take_at ◌>>=◌ when
  at_value spot rest v after e f = rw (e, f)

  -- The next loss set is refused.
  losses-refused : (h : Header) (sets : List Seats) (rest : List ℕ) (r : Refusal) → good_header L h ≡ true
      → length sets < h.seats * h.rounds → good_sets h.seats first_seat sets ≡ true
      → take_set L h.seats (sender_of h.seats (length sets)) rest ≡ refused r
      → take_record L (header_bytes L h ++ (loss_bytes L sets ++ rest)) ≡ refused r
  unfolding take_record take_sets joined ◌>>=◌
  losses-refused h sets rest r g short s e =
      let f = header-facts L h g in
      let k = h.seats * h.rounds - suc (length sets) in
      let count : h.seats * h.rounds ≡ length sets + suc k = omega arith in
      rw (
        header-back L wide h (loss_bytes L sets ++ rest) g,
        rounds-are-flat L h.seats h.rounds (loss_bytes L sets ++ rest),
        count,
        sets-back L wide h.seats first_seat (suc k) sets rest f.most s,
        sender-due h.seats sets (positive (length sets) h.seats h.rounds short),
        e,
      )

  pub record SoFar (p : Record) : Type 0 where
    pub header : good_header L p.header ≡ true
    pub rounds : good_rounds p.header.seats p.header.rounds p.losses ≡ true
    pub short : length p.edits < p.header.edits
    pub edits : good_edits L p.header.seats p.header.rounds None p.edits ≡ true

  so_far : (p : Record) → good_so_far L p ≡ true → SoFar p
  unfolding good_so_far
  so_far p g =
      let x = and4-elim _ _ _ _ g in
      record { header = x.0; rounds = x.1; short = ltb-true (length p.edits) p.header.edits x.2; edits = x.3 }

  -- What comes after the edits so far decides, where it is refused.
  edits-refused : (p : Record) (rest : List ℕ) (r : Refusal) → good_so_far L p ≡ true
      → ((k : ℕ) → take_edits L p.header.seats p.header.rounds (suc k) (last_of None p.edits) rest ≡ refused r)
      → take_record L (bytes_of L p ++ rest) ≡ refused r
  unfolding take_record bytes_of joined ◌>>=◌ good_rounds
  edits-refused p rest r g e =
      let s = so_far p g in
      let h = header-facts L p.header s.header in
      let rounds = and-elim (eqb (length p.losses) (p.header.seats * p.header.rounds)) (good_sets p.header.seats first_seat p.losses) s.rounds in
      let short = s.short in
      let k = p.header.edits - suc (length p.edits) in
      let count : p.header.edits ≡ length p.edits + suc k = omega arith in
      simp append_assoc
      (rw (
        header-back L wide p.header (loss_bytes L p.losses ++ (edits_bytes L p.edits ++ rest)) s.header,
        rounds-back L wide p.header.seats p.header.rounds p.losses (edits_bytes L p.edits ++ rest) h.most
            (eqb-true (length p.losses) (p.header.seats * p.header.rounds) rounds.0) rounds.1,
        count,
        edits-back L wide p.header.seats p.header.rounds (suc k) None p.edits rest h.most h.rounds s.edits,
        e k,
      ))

  edit-refused : (p : Record) (rest : List ℕ) (r : Refusal) → good_so_far L p ≡ true
      → take_edit L p.header.seats p.header.rounds rest ≡ refused r → take_record L (bytes_of L p ++ rest) ≡ refused r
  unfolding take_edits ◌>>=◌
  edit-refused p rest r g e = edits-refused p rest r g (λ k. rw e)

  order-refused : (p : Record) (edit : Edit) (rest : List ℕ) → good_so_far L p ≡ true
      → good_edit L p.header.seats p.header.rounds edit ≡ true → follows (last_of None p.edits) edit ≡ false
      → take_record L (bytes_of L p ++ (edit_bytes L edit ++ rest)) ≡ refused BadOrder
  unfolding take_edits ◌>>=◌ when
  order-refused p edit rest g fit f =
      let s = so_far p g in
      let h = header-facts L p.header s.header in
      edits-refused p (edit_bytes L edit ++ rest) BadOrder g
      (λ k. rw (edit-back L wide p.header.seats p.header.rounds edit rest h.most h.rounds fit, f))

  -- A number that fits is taken, whatever follows.
  within-taken : (low high v : ℕ) (rest : List ℕ) → within low high v ≡ true → high < 128 ^ L.longest_number
      → take_within L low high (number_bytes L v ++ rest) ≡ value v rest
  within-taken low high v rest g h =
      let x = within-elim low high v g in
      let top = x.1 in
      within-back L wide low high v rest x.0 top (omega arith)

  bound-fits : (n : ℕ) → within L.fewest_seats L.most_seats n ≡ true → n - 1 < 128 ^ L.longest_number
  bound-fits n g = let x = within-elim L.fewest_seats L.most_seats n g in seats-fit L wide (n - 1) (omega (arith, x.1))

  -- ════ The next number of the header ════

  module _ (n : ℕ) (gn : within L.fewest_seats L.most_seats n ≡ true) where
    n-taken : (rest : List ℕ) → take_within L L.fewest_seats L.most_seats (number_bytes L n ++ rest) ≡ value n rest
    n-taken rest = within-taken L.fewest_seats L.most_seats n rest gn (seats-fit L wide L.most_seats (omega arith))

    bound-refused : (rest : List ℕ) (r : Refusal) → take_within L 0 (n - 1) rest ≡ refused r → take_record L (number_bytes L n ++ rest) ≡ refused r
    unfolding take_record take_header ◌>>=◌
    bound-refused rest r e = rw (n-taken rest, e)

    module _ (t : ℕ) (gt : within 0 (n - 1) t ≡ true) where
      t-taken : (rest : List ℕ) → take_within L 0 (n - 1) (number_bytes L t ++ rest) ≡ value t rest
      t-taken rest = within-taken 0 (n - 1) t rest gt (bound-fits n gn)

      rounds-refused : (rest : List ℕ) (r : Refusal) → take_within L 0 L.most_rounds rest ≡ refused r
          → take_record L (number_bytes L n ++ (number_bytes L t ++ rest)) ≡ refused r
      unfolding take_record take_header ◌>>=◌
      rounds-refused rest r e = rw (n-taken (number_bytes L t ++ rest), t-taken rest, e)

      count-refused : (R : ℕ) (rest : List ℕ) (r : Refusal) → within 0 L.most_rounds R ≡ true → take_within L 0 L.most_edits rest ≡ refused r
          → take_record L (number_bytes L n ++ (number_bytes L t ++ (number_bytes L R ++ rest))) ≡ refused r
      unfolding take_record take_header ◌>>=◌
      count-refused R rest r g_r e =
          rw (
            n-taken (number_bytes L t ++ (number_bytes L R ++ rest)),
            t-taken (number_bytes L R ++ rest),
            within-taken 0 L.most_rounds R rest g_r wide.rounds,
            e,
          )

  -- ════ The next number of an edit ════

  module _ (p : Record) (g : good_so_far L p ≡ true) where
    n-fits : p.header.seats - 1 < 128 ^ L.longest_number
    n-fits = let h = header-facts L p.header (so_far p g).header in seats-fit L wide (p.header.seats - 1) (omega arith)

    R-fits : p.header.rounds < 128 ^ L.longest_number
    R-fits = let h = header-facts L p.header (so_far p g).header in let w = wide.rounds in omega arith

    seat-refused : (rest : List ℕ) (r : Refusal) → take_within L 0 (p.header.seats - 1) rest ≡ refused r → take_record L (bytes_of L p ++ rest) ≡ refused r
    unfolding take_edit ◌>>=◌
    seat-refused rest r e = edit-refused p rest r g (rw e)

    module _ (seat : ℕ) (gs : within 0 (p.header.seats - 1) seat ≡ true) where
      s-taken : (rest : List ℕ) → take_within L 0 (p.header.seats - 1) (number_bytes L seat ++ rest) ≡ value seat rest
      s-taken rest = within-taken 0 (p.header.seats - 1) seat rest gs n-fits

      time-refused : (rest : List ℕ) (r : Refusal) → take_within L 0 p.header.rounds rest ≡ refused r
          → take_record L (bytes_of L p ++ (number_bytes L seat ++ rest)) ≡ refused r
      unfolding take_edit ◌>>=◌
      time-refused rest r e = edit-refused p (number_bytes L seat ++ rest) r g (rw (s-taken rest, e))

      module _ (time : ℕ) (gt : within 0 p.header.rounds time ≡ true) where
        t-taken' : (rest : List ℕ) → take_within L 0 p.header.rounds (number_bytes L time ++ rest) ≡ value time rest
        t-taken' rest = within-taken 0 p.header.rounds time rest gt R-fits

        cell-refused : (rest : List ℕ) (r : Refusal) → take_within L 0 L.largest_cell rest ≡ refused r
            → take_record L (bytes_of L p ++ (number_bytes L seat ++ (number_bytes L time ++ rest))) ≡ refused r
        unfolding take_edit ◌>>=◌
        cell-refused rest r e =
            edit-refused p (number_bytes L seat ++ (number_bytes L time ++ rest)) r g
            (rw (s-taken (number_bytes L time ++ rest), t-taken' rest, e))

        change-refused : (cell : ℕ) (rest : List ℕ) (r : Refusal) → within 0 L.largest_cell cell ≡ true
            → take_within L 0 L.largest_mapped_change rest ≡ refused r
            → take_record L (bytes_of L p ++ (number_bytes L seat ++ (number_bytes L time ++ (number_bytes L cell ++ rest)))) ≡ refused r
        unfolding take_edit ◌>>=◌
        change-refused cell rest r gc e =
            edit-refused p (number_bytes L seat ++ (number_bytes L time ++ (number_bytes L cell ++ rest))) r g
            (rw (
              s-taken (number_bytes L time ++ (number_bytes L cell ++ rest)),
              t-taken' (number_bytes L cell ++ rest),
              within-taken 0 L.largest_cell cell rest gc wide.cells,
              e,
            ))

  -- ════ Wherever the next number is refused, the record is ════

  first-refused : (rest : List ℕ) (r : Refusal) → take_within L L.fewest_seats L.most_seats rest ≡ refused r → take_record L rest ≡ refused r
  unfolding take_record take_header ◌>>=◌
  first-refused rest r e = rw e

  spot-refused : (spot : Spot) (rest : List ℕ) (r : Refusal) → good_up_to L spot ≡ true → take_at L spot rest ≡ refused r
      → take_record L (up_to L spot ++ rest) ≡ refused r
  unfolding good_up_to up_to fits refusal_at take_at take_within take_set
  spot-refused at_seats rest r g e = first-refused rest r e
  spot-refused (at_bound n) rest r g e = bound-refused n g rest r e
  spot-refused (at_rounds n t) rest r g e =
      let x = and-elim _ _ g in
      simp append_assoc (rounds-refused n x.0 t x.1 rest r e)
  spot-refused (at_edits n t R) rest r g e =
      let x = and3-elim _ _ _ g in
      simp append_assoc (count-refused n x.0 t x.1 R rest r x.2 e)
  spot-refused (at_loss_set h sets) rest r g e =
      let x = and3-elim _ _ _ g in
      simp append_assoc (losses-refused h sets rest r x.0 (ltb-true (length sets) (h.seats * h.rounds) x.1) x.2 e)
  spot-refused (at_seat p) rest r g e = seat-refused p g rest r e
  spot-refused (at_time p seat) rest r g e =
      let x = and-elim _ _ g in
      simp append_assoc (time-refused p x.0 seat.0 x.1 rest r e)
  spot-refused (at_cell p seat time) rest r g e =
      let x = and3-elim _ _ _ g in
      simp append_assoc (cell-refused p x.0 seat.0 x.1 time.0 x.2 rest r e)
  spot-refused (at_change p seat time cell) rest r g e =
      let x = and4-elim _ _ _ _ g in
      simp append_assoc (change-refused p x.0 seat.0 x.1 time.0 x.2 cell rest r x.3 e)

  pub fault-refused : (bytes : List ℕ) {r : Refusal} → Fault L bytes r → reading_of L bytes ≡ bad r
  unfolding reading_of whole
  fault-refused bytes (bad_number spot rest r g e f) =
      rw (← e, spot-refused spot rest r g (at-number spot rest r (number-fault-refused L wide rest f)))
  fault-refused bytes (bad_value spot v rest g e low f) =
      let next = at_value spot (number_bytes L v ++ rest) v rest (number-back L wide v rest low) f in
      rw (← e, spot-refused spot (number_bytes L v ++ rest) (refusal_at spot) g next)
  fault-refused bytes (bad_order p edit rest g e fit f) = ap (λ (l : List ℕ). whole (take_record L l)) (sym e) ∙ simp append_assoc (rw (order-refused p edit rest g fit f))
  fault-refused bytes (bytes_left x b rest g e) = rw (← e, record-back L wide x (b ∷ rest) g)
