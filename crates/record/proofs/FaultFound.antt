-- Whatever is refused has a fault: reading is followed to the place where it stopped, and what was read before is good.
-- Assumes nothing.
use mathlib.Core.Path.{◌≡◌, refl, sym, ◌∙◌, ap}
use mathlib.Core.Logic.{◌⊎◌, inl, inr, ⊎_elim}
use mathlib.Core.Bool.{true, false}
use mathlib.Core.List.{List, [], ◌∷◌, ◌++◌, append_assoc}
use Prim.Native.Nat.{ℕ, zero, suc, ◌-◌, ◌*◌, ◌<◌, ◌≤◌}
use native.Mathlib.Omega.{arith}
use lib.ListN.{length}
use borrow.Author.Tests.{lt-ltb, eq-eqb}
use Rattle.std.specs.Prelude.{Option, None, Some}
use Rattle.farm.specs.Limits.{Limits}
use Rattle.farm.specs.Sets.{Seats}
use Rattle.farm.specs.declared.places.Seat.{Seat}
use Rattle.farm.specs.declared.refusals.Refusal.{Refusal}
use Rattle.farm.specs.declared.refusals.Refusal.TheVariants.{BadOrder, BytesLeft}
use Rattle.farm.proofs.Cases.{and_intro}
use Rattle.record.specs.declared.header.Header.{Header}
use Rattle.record.specs.declared.edits.Edit.{Edit}
use Rattle.record.specs.Taking.{IsBytes, Taken, value, refused, ◌>>=◌, when}
use Rattle.record.specs.Numbers.{number_bytes, take_number, take_within}
use Rattle.record.specs.Header.{take_header, header_bytes}
use Rattle.record.specs.Losses.{first_seat, take_set, take_rounds, loss_bytes}
use Rattle.record.specs.Edits.{follows, take_edit, take_edits, edit_bytes, edits_bytes}
use Rattle.record.specs.Record.{Record, bad, take_record, whole, reading_of, bytes_of}
use Rattle.record.specs.Good.{within, good_header, sender_after, good_sets, good_rounds, good_edits}
use Rattle.record.specs.Changes.{unmapped}
use Rattle.record.specs.Tables.{edit_of}
use Rattle.record.specs.Widths.{Wide}
use Rattle.record.specs.Faults.{Spot, at_seats, at_bound, at_rounds, at_edits, at_loss_set, at_seat, at_time, at_cell, at_change, up_to, fits, refusal_at, good_so_far, good_up_to, last_of, Fault, bad_number, bad_value, bad_order, bytes_left}
use Rattle.record.proofs.TakingLaws.{value-not-refused}
use Rattle.record.proofs.FlatLosses.{joined, take_sets, rounds-are-flat}
use Rattle.record.proofs.GoodLaws.{and3-intro, and4-intro, within-intro}
use Rattle.record.proofs.ReadBack.{sender_on}
use Rattle.record.proofs.WrittenAgain.{Again, number-again, within-again, header-again, set-again, rounds-again, edit-again, record-again}
use Rattle.record.proofs.RefusalLaws.{bind-refused, when-refused}
use Rattle.record.proofs.NumberFaultLaws.{refused-number-fault}
use Rattle.record.proofs.FaultLaws.{take_at, sender-due, positive}

abbrev header_of : (n t R E : ℕ) → Header
header_of n t R E = record { seats = n; bound = t; rounds = R; edits = E }

abbrev record_of : Header → List Seats → List Edit → Record
record_of header losses edits = record { header = header; losses = losses; edits = edits }

-- ════ Where a refusal comes from ════

joined-refused : {A : Type 0} (front : List A) (t : Taken (List A)) (r : Refusal) → joined front t ≡ refused r → t ≡ refused r
unfolding joined
joined-refused front (value more end) r e = absurd (value-not-refused (front ++ more) end r e)
joined-refused front (refused s) r e = ap refused (cc)

module _ (L : Limits) (wide : Wide L) (bytes : List ℕ) where
  -- The next number is refused: by itself, or by its test.
  at-fault : (spot : Spot) (rest : List ℕ) (r : Refusal) → good_up_to L spot ≡ true → up_to L spot ++ rest ≡ bytes → IsBytes rest
      → take_at L spot rest ≡ refused r → Fault L bytes r
  unfolding take_at
  at-fault spot rest r g w h e =
      ⊎_elim
      (λ n. bad_number spot rest r g w (refused-number-fault L wide rest r n))
      (λ x. by x.0 x.1 x.2 (when-refused (fits L spot x.0) (refusal_at spot) (value x.0 x.1) r x.3))
      (bind-refused (take_number L rest) _ r e)
    where
      by : (v : ℕ) (after : List ℕ) → take_number L rest ≡ value v after
          → ((fits L spot v ≡ false) × (refusal_at spot ≡ r)) ⊎ ((fits L spot v ≡ true) × (value v after ≡ refused r)) → Fault L bytes r
      by v after n (inl y) =
          let same = y.1 in
          let took = number-again L wide rest v after h n in
          rw (← same) (bad_value spot v after g (rw took.1 w) took.0 y.0)
      by v after n (inr y) = absurd (value-not-refused v after r y.1)

  -- ════ The header ════

  n-found : (r : Refusal) → IsBytes bytes → take_within L L.fewest_seats L.most_seats bytes ≡ refused r → Fault L bytes r
  unfolding take_at fits refusal_at take_within up_to good_up_to
  n-found r h e = at-fault at_seats bytes r refl refl h e

  t-found : (n : ℕ) (rest : List ℕ) (r : Refusal) → within L.fewest_seats L.most_seats n ≡ true → number_bytes L n ++ rest ≡ bytes
      → IsBytes rest → take_within L 0 (n - 1) rest ≡ refused r → Fault L bytes r
  unfolding take_at fits refusal_at take_within up_to good_up_to
  t-found n rest r gn w h e = at-fault (at_bound n) rest r gn w h e

  R-found : (n t : ℕ) (rest : List ℕ) (r : Refusal) → within L.fewest_seats L.most_seats n ≡ true → within 0 (n - 1) t ≡ true
      → number_bytes L n ++ (number_bytes L t ++ rest) ≡ bytes → IsBytes rest → take_within L 0 L.most_rounds rest ≡ refused r → Fault L bytes r
  unfolding take_at fits refusal_at take_within up_to good_up_to
  R-found n t rest r gn gt w h e = at-fault (at_rounds n t) rest r (and_intro _ _ gn gt) (simp append_assoc w) h e

  E-found : (n t R : ℕ) (rest : List ℕ) (r : Refusal) → within L.fewest_seats L.most_seats n ≡ true → within 0 (n - 1) t ≡ true
      → within 0 L.most_rounds R ≡ true → number_bytes L n ++ (number_bytes L t ++ (number_bytes L R ++ rest)) ≡ bytes → IsBytes rest
      → take_within L 0 L.most_edits rest ≡ refused r → Fault L bytes r
  unfolding take_at fits refusal_at take_within up_to good_up_to
  E-found n t R rest r gn gt g_r w h e = at-fault (at_edits n t R) rest r (and3-intro _ _ _ gn gt g_r) (simp append_assoc w) h e

  header-found : (r : Refusal) → IsBytes bytes → take_header L bytes ≡ refused r → Fault L bytes r
  unfolding take_header
  header-found r h e =
      ⊎_elim (n-found r h) (λ x. after-n x.0 x.1 (within-again L _ _ bytes x.0 x.1 h x.2) x.3)
      (bind-refused (take_within L L.fewest_seats L.most_seats bytes) _ r e)
    where
      after-R : (n t R : ℕ) (c : List ℕ) → within L.fewest_seats L.most_seats n ≡ true → within 0 (n - 1) t ≡ true
          → within 0 L.most_rounds R ≡ true → number_bytes L n ++ (number_bytes L t ++ (number_bytes L R ++ c)) ≡ bytes → IsBytes c
          → (take_within L 0 L.most_edits c >>= λ x. value (header_of n t R x.0) x.1) ≡ refused r
          → Fault L bytes r
      after-R n t R c gn gt g_r w hc e =
          ⊎_elim (E-found n t R c r gn gt g_r w hc) (λ x. absurd (value-not-refused _ x.1 r x.3))
          (bind-refused (take_within L 0 L.most_edits c) _ r e)

      after-t : (n t : ℕ) (b : List ℕ) → within L.fewest_seats L.most_seats n ≡ true → within 0 (n - 1) t ≡ true → IsBytes b
          → number_bytes L n ++ (number_bytes L t ++ b) ≡ bytes
          → (take_within L 0 L.most_rounds b >>= λ x.
          take_within L 0 L.most_edits x.1 >>= λ y. value (header_of n t x.0 y.0) y.1)
          ≡ refused r
          → Fault L bytes r
      after-t n t b gn gt hb w e =
          ⊎_elim (R-found n t b r gn gt w hb)
          (λ x.
          let R = within-again L 0 L.most_rounds b x.0 x.1 hb x.2 in
          after-R n t x.0 x.1 gn gt (within-intro 0 L.most_rounds x.0 R.sound.0 R.sound.1) (rw R.written w) R.after x.3)
          (bind-refused (take_within L 0 L.most_rounds b) _ r e)

      after-n : (n : ℕ) (a : List ℕ) → Again ((L.fewest_seats ≤ n) × (n ≤ L.most_seats)) (number_bytes L n) a bytes
          → (take_within L 0 (n - 1) a >>= λ x.
          take_within L 0 L.most_rounds x.1 >>= λ y.
          take_within L 0 L.most_edits y.1 >>= λ z. value (header_of n x.0 y.0 z.0) z.1)
          ≡ refused r
          → Fault L bytes r
      after-n n a N e =
          let gn = within-intro L.fewest_seats L.most_seats n N.sound.0 N.sound.1 in
          ⊎_elim (t-found n a r gn N.written N.after)
          (λ x.
          let t = within-again L 0 (n - 1) a x.0 x.1 N.after x.2 in
          after-t n x.0 x.1 gn (within-intro 0 (n - 1) x.0 t.sound.0 t.sound.1) t.after (rw t.written N.written) x.3)
          (bind-refused (take_within L 0 (n - 1) a) _ r e)

-- ════ Losses ════

-- The sets before the one that is refused.
record SetsFault (L : Limits) (n : ℕ) (sender : Seat) (left : ℕ) (bytes : List ℕ) (r : Refusal) : Type 0 where
  sets : List Seats
  rest : List ℕ
  sound : good_sets n sender sets ≡ true
  short : length sets < left
  written : loss_bytes L sets ++ rest ≡ bytes
  after : IsBytes rest
  fault : take_set L n (sender_on n sender sets) rest ≡ refused r

sets-found : (L : Limits) (n : ℕ) (sender : Seat) (left : ℕ) (bytes : List ℕ) (r : Refusal) → IsBytes bytes → take_sets L n sender left bytes ≡ refused r
    → SetsFault L n sender left bytes r
unfolding take_sets good_sets loss_bytes sender_on
sets-found L n sender zero bytes r h e = absurd (value-not-refused [] bytes r e)
sets-found L n sender (suc left) bytes r h e =
    by (λ rest. sets-found L n (sender_after n sender) left rest r) (bind-refused (take_set L n sender bytes) _ r e)
  where
    by : ((rest : List ℕ) → IsBytes rest → take_sets L n (sender_after n sender) left rest ≡ refused r → SetsFault L n (sender_after n sender) left rest r)
        → (take_set L n sender bytes ≡ refused r)
        ⊎ ((set : Seats) × (rest : List ℕ) × (take_set L n sender bytes ≡ value set rest)
        × (joined (set ∷ []) (take_sets L n (sender_after n sender) left rest) ≡ refused r))
        → SetsFault L n sender (suc left) bytes r
    by below (inl f) = record { sets = []; rest = bytes; sound = refl; short = omega arith; written = refl; after = h; fault = f }
    by below (inr x) =
        let s = set-again L n sender bytes x.0 x.1 h x.2 in
        let f = below x.1 s.after (joined-refused (x.0 ∷ []) _ r x.3) in
        record {
          sets = x.0 ∷ f.sets;
          rest = f.rest;
          sound = and_intro _ _ s.sound f.sound;
          short = let k = f.short in omega arith;
          written = rw (append_assoc, f.written) s.written;
          after = f.after;
          fault = f.fault;
        }

losses-found : (L : Limits) → Wide L → (bytes : List ℕ) (h : Header) (a : List ℕ) (r : Refusal) → Again (good_header L h ≡ true) (header_bytes L h) a bytes
    → take_rounds L h.seats h.rounds a ≡ refused r → Fault L bytes r
unfolding take_at fits refusal_at take_set up_to good_up_to
losses-found L wide bytes h a r g e =
    let f = sets-found L h.seats first_seat (h.seats * h.rounds) a r g.after (sym (rounds-are-flat L h.seats h.rounds a) ∙ e) in
    let some = positive (length f.sets) h.seats h.rounds f.short in
    at-fault L wide bytes (at_loss_set h f.sets) f.rest r
    (and3-intro _ _ _ g.sound (lt-ltb (length f.sets) (h.seats * h.rounds) f.short) f.sound)
    (rw (append_assoc, f.written) g.written) f.after
    (rw (← (sender-due h.seats f.sets some)) f.fault)

-- ════ Edits ════

-- The edits before the one that is refused, by a number of its own or by its order.
record EditsFault (L : Limits) (n R left : ℕ) (before : Option Edit) (bytes : List ℕ) (r : Refusal) : Type 0 where
  edits : List Edit
  rest : List ℕ
  sound : good_edits L n R before edits ≡ true
  short : length edits < left
  written : edits_bytes L edits ++ rest ≡ bytes
  after : IsBytes rest
  fault : (take_edit L n R rest ≡ refused r)
      ⊎ ((edit : Edit) × (end : List ℕ) × (take_edit L n R rest ≡ value edit end) × (follows (last_of before edits) edit ≡ false) × (BadOrder ≡ r))

edits-found : (L : Limits) (n R left : ℕ) (before : Option Edit) (bytes : List ℕ) (r : Refusal) → IsBytes bytes
    → take_edits L n R left before bytes ≡ refused r → EditsFault L n R left before bytes r
unfolding take_edits good_edits edits_bytes last_of
edits-found L n R zero before bytes r h e = absurd (value-not-refused [] bytes r e)
edits-found L n R (suc left) before bytes r h e =
    by (λ edit rest. edits-found L n R left (Some edit) rest r) (bind-refused (take_edit L n R bytes) _ r e)
  where
    later : (edit : Edit) (rest : List ℕ) → take_edit L n R bytes ≡ value edit rest
        → (IsBytes rest → take_edits L n R left (Some edit) rest ≡ refused r → EditsFault L n R left (Some edit) rest r)
        → ((follows before edit ≡ false) × (BadOrder ≡ r)) ⊎ ((follows before edit ≡ true) × (take_edits L n R left (Some edit) rest ≡ refused r))
        → EditsFault L n R (suc left) before bytes r
    later edit rest t below (inl o) = record {
      edits = [];
      rest = bytes;
      sound = refl;
      short = omega arith;
      written = refl;
      after = h;
      fault = inr (edit, rest, t, o.0, o.1);
    }
    later edit rest t below (inr o) =
        let s = edit-again L n R bytes edit rest h t in
        let f = below s.after o.1 in
        record {
          edits = edit ∷ f.edits;
          rest = f.rest;
          sound = and3-intro _ _ _ s.sound o.0 f.sound;
          short = let k = f.short in omega arith;
          written = rw (append_assoc, f.written) s.written;
          after = f.after;
          fault = f.fault;
        }

    by : ((edit : Edit) (rest : List ℕ) → IsBytes rest → take_edits L n R left (Some edit) rest ≡ refused r → EditsFault L n R left (Some edit) rest r)
        → (take_edit L n R bytes ≡ refused r)
        ⊎ ((edit : Edit) × (rest : List ℕ) × (take_edit L n R bytes ≡ value edit rest)
        × ((when (follows before edit) BadOrder (take_edits L n R left (Some edit) rest) >>= λ x. value (edit ∷ x.0) x.1) ≡ refused r))
        → EditsFault L n R (suc left) before bytes r
    by below (inl f) = record { edits = []; rest = bytes; sound = refl; short = omega arith; written = refl; after = h; fault = inl f }
    by below (inr x) =
        ⊎_elim
        (λ w. later x.0 x.1 x.2 (below x.0 x.1) (when-refused (follows before x.0) BadOrder _ r w))
        (λ y. absurd (value-not-refused _ y.1 r y.3))
        (bind-refused (when (follows before x.0) BadOrder (take_edits L n R left (Some x.0) x.1)) _ r x.3)

module _ (L : Limits) (wide : Wide L) (bytes : List ℕ) (p : Record) (g : good_so_far L p ≡ true) where
  seat-found : (rest : List ℕ) (r : Refusal) → bytes_of L p ++ rest ≡ bytes → IsBytes rest
      → take_within L 0 (p.header.seats - 1) rest ≡ refused r → Fault L bytes r
  unfolding take_at fits refusal_at take_within up_to good_up_to
  seat-found rest r w h e = at-fault L wide bytes (at_seat p) rest r g w h e

  time-found : (seat : ℕ) (rest : List ℕ) (r : Refusal) → within 0 (p.header.seats - 1) seat ≡ true
      → bytes_of L p ++ (number_bytes L seat ++ rest) ≡ bytes → IsBytes rest → take_within L 0 p.header.rounds rest ≡ refused r → Fault L bytes r
  unfolding take_at fits refusal_at take_within up_to good_up_to
  time-found seat rest r gs w h e = at-fault L wide bytes (at_time p (record { 0 = seat })) rest r (and_intro _ _ g gs) (simp append_assoc w) h e

  cell-found : (seat time : ℕ) (rest : List ℕ) (r : Refusal) → within 0 (p.header.seats - 1) seat ≡ true
      → within 0 p.header.rounds time ≡ true → bytes_of L p ++ (number_bytes L seat ++ (number_bytes L time ++ rest)) ≡ bytes → IsBytes rest
      → take_within L 0 L.largest_cell rest ≡ refused r → Fault L bytes r
  unfolding take_at fits refusal_at take_within up_to good_up_to
  cell-found seat time rest r gs gt w h e = at-fault L wide bytes (at_cell p (record { 0 = seat }) (record { 0 = time })) rest r (and3-intro _ _ _ g gs gt) (simp append_assoc w) h e

  change-found : (seat time cell : ℕ) (rest : List ℕ) (r : Refusal) → within 0 (p.header.seats - 1) seat ≡ true
      → within 0 p.header.rounds time ≡ true → within 0 L.largest_cell cell ≡ true
      → bytes_of L p ++ (number_bytes L seat ++ (number_bytes L time ++ (number_bytes L cell ++ rest))) ≡ bytes → IsBytes rest
      → take_within L 0 L.largest_mapped_change rest ≡ refused r → Fault L bytes r
  unfolding take_at fits refusal_at take_within up_to good_up_to
  change-found seat time cell rest r gs gt gc w h e =
      at-fault L wide bytes (at_change p (record { 0 = seat }) (record { 0 = time }) cell) rest r (and4-intro _ _ _ _ g gs gt gc) (simp append_assoc w) h e

  edit-found : (rest : List ℕ) (r : Refusal) → IsBytes rest → bytes_of L p ++ rest ≡ bytes
      → take_edit L p.header.seats p.header.rounds rest ≡ refused r → Fault L bytes r
  unfolding take_edit
  edit-found rest r h w e =
      ⊎_elim (seat-found rest r w h)
      (λ x. after-seat x.0 x.1 (within-again L 0 (p.header.seats - 1) rest x.0 x.1 h x.2) x.3)
      (bind-refused (take_within L 0 (p.header.seats - 1) rest) _ r e)
    where
      after-cell : (seat time cell : ℕ) (c : List ℕ) → within 0 (p.header.seats - 1) seat ≡ true → within 0 p.header.rounds time ≡ true
          → within 0 L.largest_cell cell ≡ true
          → bytes_of L p ++ (number_bytes L seat ++ (number_bytes L time ++ (number_bytes L cell ++ c))) ≡ bytes → IsBytes c
          → (take_within L 0 L.largest_mapped_change c >>= λ x. value (edit_of seat time cell (unmapped x.0)) x.1) ≡ refused r
          → Fault L bytes r
      after-cell seat time cell c gs gt gc v hc e =
          ⊎_elim (change-found seat time cell c r gs gt gc v hc) (λ x. absurd (value-not-refused _ x.1 r x.3))
          (bind-refused (take_within L 0 L.largest_mapped_change c) _ r e)

      after-time : (seat time : ℕ) (b : List ℕ) → within 0 (p.header.seats - 1) seat ≡ true → within 0 p.header.rounds time ≡ true
          → IsBytes b → bytes_of L p ++ (number_bytes L seat ++ (number_bytes L time ++ b)) ≡ bytes
          → (take_within L 0 L.largest_cell b >>= λ x.
          take_within L 0 L.largest_mapped_change x.1 >>= λ y. value (edit_of seat time x.0 (unmapped y.0)) y.1)
          ≡ refused r
          → Fault L bytes r
      after-time seat time b gs gt hb v e =
          ⊎_elim (cell-found seat time b r gs gt v hb)
          (λ x.
          let c = within-again L 0 L.largest_cell b x.0 x.1 hb x.2 in
          after-cell seat time x.0 x.1 gs gt (within-intro 0 L.largest_cell x.0 c.sound.0 c.sound.1) (rw c.written v) c.after x.3)
          (bind-refused (take_within L 0 L.largest_cell b) _ r e)

      after-seat : (seat : ℕ) (a : List ℕ) → Again ((0 ≤ seat) × (seat ≤ p.header.seats - 1)) (number_bytes L seat) a rest
          → (take_within L 0 p.header.rounds a >>= λ x.
          take_within L 0 L.largest_cell x.1 >>= λ y.
          take_within L 0 L.largest_mapped_change y.1 >>= λ z. value (edit_of seat x.0 y.0 (unmapped z.0)) z.1)
          ≡ refused r
          → Fault L bytes r
      after-seat seat a s e =
          let gs = within-intro 0 (p.header.seats - 1) seat s.sound.0 s.sound.1 in
          let v : bytes_of L p ++ (number_bytes L seat ++ a) ≡ bytes = rw s.written w in
          ⊎_elim (time-found seat a r gs v s.after)
          (λ x.
          let t = within-again L 0 p.header.rounds a x.0 x.1 s.after x.2 in
          after-time seat x.0 x.1 gs (within-intro 0 p.header.rounds x.0 t.sound.0 t.sound.1) t.after (rw t.written v) x.3)
          (bind-refused (take_within L 0 p.header.rounds a) _ r e)

-- ════ The record ════

module _ (L : Limits) (wide : Wide L) (bytes : List ℕ) where
  -- Header and losses were read, and the edits are refused.
  all-edits-found : (h : Header) (losses : List Seats) (a b : List ℕ) (r : Refusal) → Again (good_header L h ≡ true) (header_bytes L h) a bytes
      → Again ((length losses ≡ h.seats * h.rounds) × (good_sets h.seats first_seat losses ≡ true)) (loss_bytes L losses) b a
      → take_edits L h.seats h.rounds h.edits None b ≡ refused r → Fault L bytes r
  unfolding good_so_far good_rounds bytes_of
  all-edits-found h losses a b r H S e =
      let f = edits-found L h.seats h.rounds h.edits None b r S.after e in
      let p : Record = record { header = h; losses = losses; edits = f.edits } in
      let rounds = and_intro _ _ (eq-eqb (length losses) (h.seats * h.rounds) S.sound.0) S.sound.1 in
      let g : good_so_far L p ≡ true = and4-intro _ _ _ _ H.sound rounds (lt-ltb (length f.edits) h.edits f.short) f.sound in
      let w : bytes_of L p ++ f.rest ≡ bytes = simp append_assoc (rw (f.written, S.written) H.written) in
      ⊎_elim (edit-found L wide bytes p g f.rest r f.after w)
      (λ x.
      let s = edit-again L h.seats h.rounds f.rest x.0 x.1 f.after x.2 in
      let same = x.4 in
      rw (← same) (bad_order p x.0 x.1 g (rw (append_assoc (bytes_of L p) (edit_bytes L x.0) x.1, s.written) w) s.sound x.3))
      f.fault

  record-found : (r : Refusal) → IsBytes bytes → take_record L bytes ≡ refused r → Fault L bytes r
  unfolding take_record
  record-found r h e =
      ⊎_elim (header-found L wide bytes r h) (λ x. after-header x.0 x.1 (header-again L bytes x.0 x.1 h x.2) x.3)
      (bind-refused (take_header L bytes) _ r e)
    where
      after-losses : (header : Header) (a : List ℕ) (losses : List Seats) (b : List ℕ)
          → Again (good_header L header ≡ true) (header_bytes L header) a bytes
          → take_rounds L header.seats header.rounds a ≡ value losses b
          → (take_edits L header.seats header.rounds header.edits None b >>= λ x. value (record_of header losses x.0) x.1) ≡ refused r
          → Fault L bytes r
      after-losses header a losses b H q e =
          ⊎_elim
          (all-edits-found header losses a b r H (rounds-again L header.seats header.rounds a losses b H.after q))
          (λ x. absurd (value-not-refused _ x.1 r x.3))
          (bind-refused (take_edits L header.seats header.rounds header.edits None b) _ r e)

      after-header : (header : Header) (a : List ℕ) → Again (good_header L header ≡ true) (header_bytes L header) a bytes
          → (take_rounds L header.seats header.rounds a >>= λ x.
          take_edits L header.seats header.rounds header.edits None x.1 >>= λ y. value (record_of header x.0 y.0) y.1)
          ≡ refused r
          → Fault L bytes r
      after-header header a H e =
          ⊎_elim (losses-found L wide bytes header a r H) (λ x. after-losses header a x.0 x.1 H x.2 x.3)
          (bind-refused (take_rounds L header.seats header.rounds a) _ r e)

  pub refused-fault : (r : Refusal) → IsBytes bytes → reading_of L bytes ≡ bad r → Fault L bytes r
  unfolding reading_of whole
  refused-fault r h e = by (take_record L bytes) refl e
    where
      by : (t : Taken Record) → take_record L bytes ≡ t → whole t ≡ bad r → Fault L bytes r
      by (value x []) s f = cc
      by (value x (b ∷ rest)) s f =
          let a = record-again L bytes x (b ∷ rest) h s in
          let same : BytesLeft ≡ r = cc in
          rw (← same) (bytes_left x b rest a.sound a.written)
      by (refused q) s f = let same : q ≡ r = cc in record-found r h (s ∙ ap refused same)
