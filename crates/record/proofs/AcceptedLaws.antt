-- What the answers of the judging code tell, what is known of accepted lists, and what the answer about length means.
-- Assumes nothing.
use mathlib.Core.Path.{◌≡◌, refl, ap}
use mathlib.Core.Bool.{true}
use mathlib.Core.List.{List, [], ◌∷◌}
use Prim.Native.Nat.{ℕ, zero, suc, ◌+◌, ◌*◌, ◌^◌, ◌<◌, ◌≤◌}
use native.Mathlib.Nat.{mul-le-mul}
use native.Mathlib.Omega.{arith}
use lib.ListN.{length, get_or, length-append}
use Rattle.std.specs.Prelude.{Option, None, Some, Ok, Err}
use Rattle.farm.specs.Limits.{Limits, limits}
use Rattle.farm.specs.declared.refusals.Refusal.{Refusal}
use Rattle.farm.specs.declared.refusals.Refusal.TheVariants.{OutOfRange, BadLengths}
use Rattle.record.specs.declared.edits.Edit.{Edit}
use Rattle.record.specs.Lengths.{numbers_length, changes_length}
use Rattle.record.specs.Header.{header_bytes}
use Rattle.record.specs.Losses.{first_seat, loss_bytes}
use Rattle.record.specs.Edits.{follows, edits_bytes}
use Rattle.record.specs.Record.{good, bytes_of}
use Rattle.record.specs.Good.{good_edit, good_edits}
use Rattle.record.specs.Tables.{Tables, cells_of}
use Rattle.record.specs.Writing.{Verdict, accepted, faulty, header_from, edits_in, judged_lists, record_from, judged, checked_lists, count, unwritten, needed, needed_by}
use Rattle.record.specs.Answers.{judged_in}
use Rattle.record.proofs.GoodLaws.{and3-elim, HeaderFacts, header-facts, edit-facts, RecordFacts, record-facts}
use Rattle.record.proofs.ColumnLaws.{columns-from-edits}
use Rattle.record.proofs.WritingLaws.{unless-accepted, fitting-elim, Fitting, lists-accepted}
use Rattle.record.proofs.LengthLaws.{record-length, record-most, sets-length, edits-exactly}

-- ════ The judging code's answers ════

pub answer-accepted : (v : Verdict) → judged_in v ≡ Ok tt → v ≡ accepted
unfolding judged_in
answer-accepted accepted e = refl
answer-accepted (faulty r) e = cc

pub answer-refused : (v : Verdict) (r : Refusal) → judged_in v ≡ Err r → v ≡ faulty r
unfolding judged_in
answer-refused accepted r e = cc
answer-refused (faulty q) r e = let same : q ≡ r = cc in ap faulty same

-- ════ Accepted lists ════

good-cells : (L : Limits) (n R : ℕ) (before : Option Edit) (edits : List Edit) → good_edits L n R before edits ≡ true
    → (i : ℕ) → get_or (cells_of edits) i 0 ≤ L.largest_cell
unfolding good_edits cells_of
good-cells L n R before [] g i = omega arith
good-cells L n R before (e ∷ edits) g zero =
    (edit-facts L n R e (and3-elim (good_edit L n R e) (follows before e) (good_edits L n R (Some e) edits) g).0).cell
good-cells L n R before (e ∷ edits) g (suc i) =
    good-cells L n R (Some e) edits (and3-elim (good_edit L n R e) (follows before e) (good_edits L n R (Some e) edits) g).2 i

module _ (n t R : ℕ) (lists : Tables) where
  abbrev pub size_of : ℕ
  size_of = length (bytes_of limits (record_from n t R lists))

  -- Header, losses and edits, one after the other.
  size-parts : size_of
      ≡ length (header_bytes limits (header_from n t R lists)) + length (loss_bytes limits lists.losses) + length (edits_bytes limits (edits_in lists))
  unfolding bytes_of record_from
  size-parts = simp length-append

  module _ (L : Limits) (v : judged_lists L n t R lists ≡ accepted) where
    pub checked-good : checked_lists L n t R lists ≡ good (record_from n t R lists)
    unfolding checked_lists judged
    checked-good = rw v

  module _ (v : judged_lists limits n t R lists ≡ accepted) where
    pub accepted-header : HeaderFacts limits (header_from n t R lists)
    unfolding judged_lists
    accepted-header = header-facts limits _ (unless-accepted _ OutOfRange _ v).0

    pub accepted-lengths : Fitting n R lists
    unfolding judged_lists
    accepted-lengths = fitting-elim n R lists (unless-accepted _ BadLengths _ (unless-accepted _ OutOfRange _ v).1).0

    pub accepted-cells : (i : ℕ) → get_or lists.cells i 0 < 128 ^ 3
    unfolding record_from
    accepted-cells i =
        let f = accepted-lengths in
        let same = (columns-from-edits lists.seats lists.times lists.cells lists.changes f.times f.cells f.changes).cells_same in
        let sound = (record-facts limits _ (lists-accepted limits n t R lists _ (checked-good limits v)).sound).edits in
        let small = rw same at (good-cells limits n R None (edits_in lists) sound i) in
        omega arith

    -- The good record that the lists are.
    accepted-facts : RecordFacts limits (record_from n t R lists)
    accepted-facts = record-facts limits _ (lists-accepted limits n t R lists _ (checked-good limits v)).sound

    accepted-sets : length (loss_bytes limits lists.losses) ≡ length lists.losses
    unfolding record_from
    accepted-sets = sets-length n first_seat lists.losses accepted-header.most accepted-facts.losses

    accepted-edits : length (edits_bytes limits (edits_in lists))
        ≡ 2 * length lists.seats + numbers_length limits lists.cells + changes_length limits lists.changes
    unfolding record_from
    accepted-edits =
        let f = accepted-lengths in
        let same = columns-from-edits lists.seats lists.times lists.cells lists.changes f.times f.cells f.changes in
        let parts = edits-exactly n R None (edits_in lists) accepted-header.most accepted-header.rounds accepted-facts.edits in
        rw (same.count, same.cells_same, same.changes-same) at parts

    pub accepted-sets-few : length lists.losses ≤ 889
    accepted-sets-few =
        let area : n * R ≤ 7 * 127 = mul-le-mul accepted-header.most accepted-header.rounds in
        omega (arith, accepted-lengths.losses)

    -- A byte for each loss set, seat and time, and what the other numbers take.
    pub accepted-parts : size_of
        ≡ length (header_bytes limits (header_from n t R lists)) + (length lists.losses + 2 * length lists.seats) + numbers_length limits lists.cells + changes_length limits lists.changes
    accepted-parts =
        let sets = accepted-sets in
        let edits = accepted-edits in
        omega (arith, size-parts)

    pub accepted-most : size_of ≤ 5 + length lists.losses + 8 * length lists.seats
    unfolding record_from
    accepted-most =
        let f = accepted-lengths in
        let same = columns-from-edits lists.seats lists.times lists.cells lists.changes f.times f.cells f.changes in
        let most = record-most (record_from n t R lists) (lists-accepted limits n t R lists _ (checked-good limits v)).sound in
        omega (arith, same.count)

    pub accepted-size : size_of ≤ 4990
    accepted-size = record-length (record_from n t R lists) (lists-accepted limits n t R lists _ (checked-good limits v)).sound

-- ════ The length that is needed ════

module _ (L : Limits) (n t R : ℕ) (lists : Tables) where
  pub needed-refused : (r : Refusal) → judged_lists L n t R lists ≡ faulty r → needed_by L n t R lists ≡ unwritten r
  unfolding needed_by needed checked_lists judged
  needed-refused r e = rw e

  pub needed-accepted : judged_lists L n t R lists ≡ accepted → needed_by L n t R lists ≡ count (length (bytes_of L (record_from n t R lists)))
  unfolding needed_by needed checked_lists judged
  needed-accepted e = rw e
