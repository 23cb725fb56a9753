-- Read then write: the own bytes of whatever is taken from bytes are those that it was taken from.
-- Assumes nothing.
use mathlib.Core.Path.{◌≡◌, refl, sym, ◌∙◌}
use mathlib.Core.Bool.{true}
use mathlib.Core.List.{List, [], ◌∷◌, ◌++◌, append_assoc, append-nil}
use Prim.Native.Nat.{ℕ, zero, suc, ◌+◌, ◌-◌, ◌*◌, ◌^◌, ◌<◌, ◌≤◌}
use native.Mathlib.Omega.{arith}
use lib.ListN.{length}
use lib.Seq.{get_or-append-add}
use Rattle.std.specs.Prelude.{Option, None, Some}
use Rattle.farm.specs.Limits.{Limits}
use Rattle.farm.specs.Sets.{Seats}
use Rattle.farm.specs.declared.places.Seat.{Seat}
use Rattle.farm.specs.declared.refusals.Refusal.TheVariants.{BadOrder}
use Rattle.record.specs.declared.header.Header.{Header}
use Rattle.record.specs.declared.edits.Edit.{Edit}
use Rattle.record.specs.Taking.{IsBytes, value, when}
use Rattle.record.specs.Numbers.{number_bytes, take_number, take_within}
use Rattle.record.specs.Header.{take_header, header_bytes}
use Rattle.record.specs.Losses.{first_seat, good_set, take_set, take_rounds, loss_bytes}
use Rattle.record.specs.Edits.{follows, take_edit, take_edits, edit_bytes, edits_bytes}
use Rattle.record.specs.Record.{Record, good, take_record, reading_of, bytes_of}
use Rattle.record.specs.Widths.{Wide}
use Rattle.record.specs.Good.{good_header, sender_after, good_sets, good_edit, good_edits, good_record}
use Rattle.record.proofs.TakingLaws.{bind-value, when-value}
use Rattle.record.proofs.NumberLaws.{took_number, within-value}
use Rattle.record.proofs.HeaderLaws.{header-took}
use Rattle.record.proofs.ChangeLaws.{mapped-unmapped}
use Rattle.record.proofs.FlatLosses.{take_sets, rounds-are-flat}
use Rattle.record.proofs.TakenGood.{joined-value, header-taken, set-taken, sets-taken, edit-took, edit-taken, edits-taken, record-taken, whole-good}

-- What is left of bytes is bytes.
pub bytes_after : (front rest bytes : List ℕ) → front ++ rest ≡ bytes → IsBytes bytes → IsBytes rest
bytes_after front rest bytes e h i =
    let below = h (length front + i) in
    rw (get_or-append-add front rest i 0) at (rw (← e) at below)

-- A part that was taken: it is good, and its bytes stood in front of the rest.
pub record Again (good : Type 0) (own rest bytes : List ℕ) : Type 0 where
  pub sound : good
  pub written : own ++ rest ≡ bytes
  pub after : IsBytes rest

again : {good : Type 0} (own rest bytes : List ℕ) → good → own ++ rest ≡ bytes → IsBytes bytes → Again good own rest bytes
again own rest bytes g e h = record { sound = g; written = e; after = bytes_after own rest bytes e h }

module _ (L : Limits) where
  pub number-again : Wide L → (bytes : List ℕ) (v : ℕ) (rest : List ℕ) → IsBytes bytes → take_number L bytes ≡ value v rest
      → (v < 128 ^ L.longest_number) × (number_bytes L v ++ rest ≡ bytes)
  number-again wide bytes v rest h e =
      let some = wide.some_byte in
      let same : suc (L.longest_number - 1) ≡ L.longest_number = omega arith in
      let took = took_number L bytes v rest h e in
      let low = took.0 in
      (rw same at low, took.1)

  pub within-again : (low high : ℕ) (bytes : List ℕ) (v : ℕ) (rest : List ℕ) → IsBytes bytes → take_within L low high bytes ≡ value v rest
      → Again ((low ≤ v) × (v ≤ high)) (number_bytes L v) rest bytes
  within-again low high bytes v rest h e =
      let x = within-value L low high bytes v rest e in
      again (number_bytes L v) rest bytes (x.1, x.2) (took_number L bytes v rest h x.0).1 h

  -- ════ The header ════

  pub header-again : (bytes : List ℕ) (x : Header) (rest : List ℕ) → IsBytes bytes → take_header L bytes ≡ value x rest
      → Again (good_header L x ≡ true) (header_bytes L x) rest bytes
  unfolding header_bytes
  header-again bytes x rest h e =
      let w = header-took L bytes x rest e in
      let n = within-again _ _ _ _ _ h w.n in
      let t = within-again _ _ _ _ _ n.after w.t in
      let R = within-again _ _ _ _ _ t.after w.R in
      let E = within-again _ _ _ _ _ R.after w.E in
      again _ rest bytes (header-taken L bytes x rest e)
      (simp append_assoc (rw (E.written, R.written, t.written, n.written))) h

  -- ════ Losses ════

  pub set-again : (n : ℕ) (sender : Seat) (bytes : List ℕ) (set : Seats) (rest : List ℕ) → IsBytes bytes → take_set L n sender bytes ≡ value set rest
      → Again (good_set n sender set ≡ true) (number_bytes L set) rest bytes
  set-again n sender bytes set rest h e =
      let x = set-taken L n sender bytes set rest e in
      again (number_bytes L set) rest bytes x.1 (took_number L bytes set rest h x.0).1 h

  pub sets-again : (n : ℕ) (sender : Seat) (left : ℕ) (bytes : List ℕ) (sets : List Seats) (rest : List ℕ) → IsBytes bytes
      → take_sets L n sender left bytes ≡ value sets rest
      → Again ((length sets ≡ left) × (good_sets n sender sets ≡ true)) (loss_bytes L sets) rest bytes
  unfolding take_sets good_sets loss_bytes
  sets-again n sender zero bytes sets rest h e =
      let none : [] ≡ sets = cc in
      let ends : bytes ≡ rest = cc in
      rw (← none, ← ends) (again [] bytes bytes (refl, refl) refl h)
  sets-again n sender (suc left) bytes sets rest h e =
      let x = bind-value (take_set L n sender bytes) _ sets rest e in
      let y = joined-value (x.0 ∷ []) sets (take_sets L n (sender_after n sender) left x.1) rest x.3 in
      let s = set-again n sender bytes x.0 x.1 h x.2 in
      let later = sets-again n (sender_after n sender) left x.1 y.0 rest s.after y.1 in
      let all = y.2 in
      again (loss_bytes L sets) rest bytes (sets-taken L n sender (suc left) bytes sets rest e)
      (rw (← all) (rw (append_assoc, later.written, s.written))) h

  pub rounds-again : (n R : ℕ) (bytes : List ℕ) (losses : List Seats) (rest : List ℕ) → IsBytes bytes
      → take_rounds L n R bytes ≡ value losses rest
      → Again ((length losses ≡ n * R) × (good_sets n first_seat losses ≡ true)) (loss_bytes L losses) rest bytes
  rounds-again n R bytes losses rest h e = sets-again n first_seat (n * R) bytes losses rest h (sym (rounds-are-flat L n R bytes) ∙ e)

  -- ════ Edits ════

  pub edit-again : (n R : ℕ) (bytes : List ℕ) (edit : Edit) (rest : List ℕ) → IsBytes bytes → take_edit L n R bytes ≡ value edit rest
      → Again (good_edit L n R edit ≡ true) (edit_bytes L edit) rest bytes
  unfolding edit_bytes
  edit-again n R bytes edit rest h e =
      let w = edit-took L n R bytes edit rest e in
      let s = within-again _ _ _ _ _ h w.took-seat in
      let t = within-again _ _ _ _ _ s.after w.took-time in
      let c = within-again _ _ _ _ _ t.after w.took-cell in
      let d = within-again _ _ _ _ _ c.after w.took-change in
      let number = mapped-unmapped w.change in
      again _ rest bytes (edit-taken L n R bytes edit rest e)
      (rw (← w.made) (simp append_assoc (rw (number, d.written, c.written, t.written, s.written)))) h

  pub edits-again : (n R left : ℕ) (before : Option Edit) (bytes : List ℕ) (edits : List Edit) (rest : List ℕ) → IsBytes bytes
      → take_edits L n R left before bytes ≡ value edits rest
      → Again ((length edits ≡ left) × (good_edits L n R before edits ≡ true)) (edits_bytes L edits) rest bytes
  unfolding take_edits good_edits edits_bytes
  edits-again n R zero before bytes edits rest h e =
      let none : [] ≡ edits = cc in
      let ends : bytes ≡ rest = cc in
      rw (← none, ← ends) (again [] bytes bytes (refl, refl) refl h)
  edits-again n R (suc left) before bytes edits rest h e =
      let x = bind-value (take_edit L n R bytes) _ edits rest e in
      let y = bind-value (when (follows before x.0) BadOrder (take_edits L n R left (Some x.0) x.1)) _ edits rest x.3 in
      let z = when-value (follows before x.0) BadOrder (take_edits L n R left (Some x.0) x.1) y.0 y.1 y.2 in
      let s = edit-again n R bytes x.0 x.1 h x.2 in
      let later = edits-again n R left (Some x.0) x.1 y.0 y.1 s.after z.1 in
      again (edits_bytes L edits) rest bytes (edits-taken L n R (suc left) before bytes edits rest e)
      (by x.0 x.1 y.0 y.1 s.written later.written y.3) h
    where
      by : (edit : Edit) (a : List ℕ) (more : List Edit) (b : List ℕ) → edit_bytes L edit ++ a ≡ bytes → edits_bytes L more ++ b ≡ a
          → value (edit ∷ more) b ≡ value edits rest → edits_bytes L edits ++ rest ≡ bytes
      by edit a more b first later same =
          let all : edit ∷ more ≡ edits = cc in
          let ends : b ≡ rest = cc in
          rw (← all, ← ends) (rw (append_assoc, later, first))

  -- ════ The record ════

  pub record-again : (bytes : List ℕ) (r : Record) (rest : List ℕ) → IsBytes bytes → take_record L bytes ≡ value r rest
      → Again (good_record L r ≡ true) (bytes_of L r) rest bytes
  unfolding take_record bytes_of
  record-again bytes r rest h e =
      let x = bind-value (take_header L bytes) _ r rest e in
      let y = bind-value (take_rounds L x.0.seats x.0.rounds x.1) _ r rest x.3 in
      let z = bind-value (take_edits L x.0.seats x.0.rounds x.0.edits None y.1) _ r rest y.3 in
      by x.0 x.1 y.0 y.1 z.0 z.1 x.2 y.2 z.2 z.3
    where
      by : (header : Header) (a : List ℕ) (losses : List Seats) (b : List ℕ) (edits : List Edit) (c : List ℕ)
          → take_header L bytes ≡ value header a
          → take_rounds L header.seats header.rounds a ≡ value losses b
          → take_edits L header.seats header.rounds header.edits None b ≡ value edits c
          → value (record { header = header; losses = losses; edits = edits }) c ≡ value r rest
          → Again (good_record L r ≡ true) (bytes_of L r) rest bytes
      by header a losses b edits c p q s same =
          let H = header-again bytes header a h p in
          let S = rounds-again header.seats header.rounds a losses b H.after q in
          let E = edits-again header.seats header.rounds header.edits None b edits c S.after s in
          let all : record { header = header; losses = losses; edits = edits } ≡ r = cc in
          let ends : c ≡ rest = cc in
          again _ rest bytes (record-taken L bytes r rest e)
          (rw (← all, ← ends) (simp append_assoc (rw (E.written, S.written, H.written)))) h

  pub reading-again : (bytes : List ℕ) (r : Record) → IsBytes bytes → reading_of L bytes ≡ good r → (bytes_of L r ≡ bytes) × (good_record L r ≡ true)
  unfolding reading_of
  reading-again bytes r h e =
      let a = record-again bytes r [] h (whole-good L (take_record L bytes) r e) in
      (sym (append-nil (bytes_of L r)) ∙ a.written, a.sound)
