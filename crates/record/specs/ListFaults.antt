-- Why lists are refused for writing, in document 01's order: 3 for the header's numbers, 10 for the lengths, 4 for the loss sets,
-- then edit by edit 3 and 5. Refusal 7 is not the lists' fault and comes after all of these.
use Rattle.std.specs.Prelude.{◌≡◌, true, false, List, ◌∷◌, ◌++◌, ℕ, None}
use Rattle.farm.specs.Limits.{Limits}
use Rattle.farm.specs.declared.refusals.Refusal.{Refusal}
use Rattle.farm.specs.declared.refusals.Refusal.TheVariants.{OutOfRange, BadLossSet, BadOrder, BadLengths}
use Rattle.record.specs.declared.edits.Edit.{Edit}
use Rattle.record.specs.Losses.{first_seat}
use Rattle.record.specs.Edits.{follows}
use Rattle.record.specs.Good.{good_header, good_sets, good_edit, good_edits}
use Rattle.record.specs.Faults.{last_of}
use Rattle.record.specs.Tables.{Tables}
use Rattle.record.specs.Writing.{header_from, edits_in, fitting}

-- The lists are cut before an edit, and everything in front of it is good.
pub record ReachedEdit (L : Limits) (n t R : ℕ) (lists : Tables) (front : List Edit) (e : Edit) (rest : List Edit) : Type 0 where
  pub header : good_header L (header_from n t R lists) ≡ true
  pub lengths : fitting n R lists ≡ true
  pub losses : good_sets n first_seat lists.losses ≡ true
  pub cut : front ++ e ∷ rest ≡ edits_in lists
  pub edits : good_edits L n R None front ≡ true

pub data ListFault (L : Limits) (n t R : ℕ) (lists : Tables) : Refusal → Type 0 where
  -- 3: n, t, R or the number of edits is out of range.
  bad_header : good_header L (header_from n t R lists) ≡ false → ListFault L n t R lists OutOfRange
  -- 10: those are good, and the lengths do not fit.
  bad_lengths : good_header L (header_from n t R lists) ≡ true → fitting n R lists ≡ false → ListFault L n t R lists BadLengths
  -- 4: those are good, and some loss set is not.
  bad_losses : good_header L (header_from n t R lists) ≡ true → fitting n R lists ≡ true → good_sets n first_seat lists.losses ≡ false
      → ListFault L n t R lists BadLossSet
  -- 3: all that and the edits in front are good, and a field of the next edit is out of range.
  bad_field : (front : List Edit) (e : Edit) (rest : List Edit) → ReachedEdit L n t R lists front e rest → good_edit L n R e ≡ false
      → ListFault L n t R lists OutOfRange
  -- 5: its fields are good too, and it is not after the one before.
  bad_place : (front : List Edit) (e : Edit) (rest : List Edit) → ReachedEdit L n t R lists front e rest → good_edit L n R e ≡ true
      → follows (last_of None front) e ≡ false → ListFault L n t R lists BadOrder
