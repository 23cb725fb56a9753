-- Lists are refused for writing for a fault, and for that fault alone.
-- Assumes nothing.
use mathlib.Core.Path.{◌≡◌, refl, sym, ◌∙◌, ap}
use mathlib.Core.Logic.{◌⊎◌, inl, inr, ⊎_elim}
use mathlib.Core.Bool.{Bool, true, false}
use mathlib.Core.List.{List, [], ◌∷◌, ◌++◌}
use Prim.Native.Nat.{ℕ}
use Rattle.std.specs.Prelude.{Option, None, Some}
use Rattle.farm.specs.Limits.{Limits}
use Rattle.farm.specs.declared.refusals.Refusal.{Refusal}
use Rattle.farm.specs.declared.refusals.Refusal.TheVariants.{OutOfRange, BadLossSet, BadOrder, BadLengths}
use Rattle.record.specs.declared.edits.Edit.{Edit}
use Rattle.record.specs.Edits.{follows}
use Rattle.record.specs.Record.{Record, bad}
use Rattle.record.specs.Losses.{first_seat}
use Rattle.record.specs.Good.{good_header, good_sets, good_edit, good_edits}
use Rattle.record.specs.Faults.{last_of}
use Rattle.record.specs.Tables.{Tables}
use Rattle.record.specs.Writing.{Verdict, accepted, faulty, unless, judged_edits, header_from, edits_in, fitting, judged_lists, record_from, judged, checked_lists}
use Rattle.record.specs.ListFaults.{ReachedEdit, ListFault, bad_header, bad_lengths, bad_losses, bad_field, bad_place}
use Rattle.record.proofs.GoodLaws.{and3-elim, and3-intro}

pub unless-faulty : (t : Bool) (r : Refusal) (later : Verdict) (f : Refusal) → unless t r later ≡ faulty f
    → ((t ≡ false) × (r ≡ f)) ⊎ ((t ≡ true) × (later ≡ faulty f))
unfolding unless
unless-faulty true r later f e = inr (refl, e)
unless-faulty false r later f e = inl (refl, (cc))

judged-bad : (x : Record) (v : Verdict) (f : Refusal) → judged x v ≡ bad f → v ≡ faulty f
unfolding judged
judged-bad x accepted f e = cc
judged-bad x (faulty g) f e = ap faulty (cc)

-- ════ Edits ════

-- The edits in front of the one that is refused, and why it is.
record EditFault (L : Limits) (n R : ℕ) (before : Option Edit) (edits : List Edit) (f : Refusal) : Type 0 where
  front : List Edit
  edit : Edit
  rest : List Edit
  cut : front ++ edit ∷ rest ≡ edits
  sound : good_edits L n R before front ≡ true
  why : ((good_edit L n R edit ≡ false) × (OutOfRange ≡ f))
      ⊎ ((good_edit L n R edit ≡ true) × (follows (last_of before front) edit ≡ false) × (BadOrder ≡ f))

edits-faulty : (L : Limits) (n R : ℕ) (before : Option Edit) (edits : List Edit) (f : Refusal) → judged_edits L n R before edits ≡ faulty f
    → EditFault L n R before edits f
unfolding judged_edits good_edits last_of
edits-faulty L n R before [] f e = cc
edits-faulty L n R before (edit ∷ edits) f e =
    by (edits-faulty L n R (Some edit) edits f) (unless-faulty (good_edit L n R edit) OutOfRange _ f e)
  where
    placed : (judged_edits L n R (Some edit) edits ≡ faulty f → EditFault L n R (Some edit) edits f) → good_edit L n R edit ≡ true
        → ((follows before edit ≡ false) × (BadOrder ≡ f)) ⊎ ((follows before edit ≡ true) × (judged_edits L n R (Some edit) edits ≡ faulty f))
        → EditFault L n R before (edit ∷ edits) f
    placed below g (inl x) = record { front = []; edit = edit; rest = edits; cut = refl; sound = refl; why = inr (g, x.0, x.1) }
    placed below g (inr x) =
        let later = below x.1 in
        record {
          front = edit ∷ later.front;
          edit = later.edit;
          rest = later.rest;
          cut = ap (λ (l : List Edit). edit ∷ l) later.cut;
          sound = and3-intro _ _ _ g x.0 later.sound;
          why = later.why;
        }

    by : (judged_edits L n R (Some edit) edits ≡ faulty f → EditFault L n R (Some edit) edits f)
        → ((good_edit L n R edit ≡ false) × (OutOfRange ≡ f))
        ⊎ ((good_edit L n R edit ≡ true) × (unless (follows before edit) BadOrder (judged_edits L n R (Some edit) edits) ≡ faulty f))
        → EditFault L n R before (edit ∷ edits) f
    by below (inl x) = record { front = []; edit = edit; rest = edits; cut = refl; sound = refl; why = inl (x.0, x.1) }
    by below (inr x) = placed below x.0 (unless-faulty (follows before edit) BadOrder _ f x.1)

-- Good edits in front change nothing.
edits-past : (L : Limits) (n R : ℕ) (before : Option Edit) (front rest : List Edit) → good_edits L n R before front ≡ true
    → judged_edits L n R before (front ++ rest) ≡ judged_edits L n R (last_of before front) rest
unfolding judged_edits good_edits last_of unless
edits-past L n R before [] rest g = refl
edits-past L n R before (e ∷ front) rest g =
    let x = and3-elim (good_edit L n R e) (follows before e) (good_edits L n R (Some e) front) g in
    rw (x.0, x.1) (edits-past L n R (Some e) front rest x.2)

-- ════ Lists ════

module _ (L : Limits) (n t R : ℕ) (lists : Tables) where
  pub lists-faulty : (f : Refusal) → checked_lists L n t R lists ≡ bad f → ListFault L n t R lists f
  unfolding checked_lists judged_lists
  lists-faulty f e = header (unless-faulty _ OutOfRange _ f (judged-bad _ _ f e))
    where
      edit : good_header L (header_from n t R lists) ≡ true → fitting n R lists ≡ true → good_sets n first_seat lists.losses ≡ true
          → EditFault L n R None (edits_in lists) f → ListFault L n t R lists f
      edit h l s x =
          let reached : ReachedEdit L n t R lists x.front x.edit x.rest =
          record { header = h; lengths = l; losses = s; cut = x.cut; edits = x.sound }
          in
          ⊎_elim
          (λ y. let same = y.1 in rw (← same) (bad_field x.front x.edit x.rest reached y.0))
          (λ y. let same = y.2 in rw (← same) (bad_place x.front x.edit x.rest reached y.0 y.1))
          x.why

      sets : good_header L (header_from n t R lists) ≡ true → fitting n R lists ≡ true
          → ((good_sets n first_seat lists.losses ≡ false) × (BadLossSet ≡ f))
          ⊎ ((good_sets n first_seat lists.losses ≡ true) × (judged_edits L n R None (edits_in lists) ≡ faulty f))
          → ListFault L n t R lists f
      sets h l (inl x) = let same = x.1 in rw (← same) (bad_losses h l x.0)
      sets h l (inr x) = edit h l x.0 (edits-faulty L n R None (edits_in lists) f x.1)

      lengths : good_header L (header_from n t R lists) ≡ true
          → ((fitting n R lists ≡ false) × (BadLengths ≡ f))
          ⊎ ((fitting n R lists ≡ true) × (unless (good_sets n first_seat lists.losses) BadLossSet (judged_edits L n R None (edits_in lists)) ≡ faulty f))
          → ListFault L n t R lists f
      lengths h (inl x) = let same = x.1 in rw (← same) (bad_lengths h x.0)
      lengths h (inr x) = sets h x.0 (unless-faulty _ BadLossSet _ f x.1)

      header : ((good_header L (header_from n t R lists) ≡ false) × (OutOfRange ≡ f))
          ⊎ ((good_header L (header_from n t R lists) ≡ true)
          × (unless (fitting n R lists) BadLengths (unless (good_sets n first_seat lists.losses) BadLossSet (judged_edits L n R None (edits_in lists)))
          ≡ faulty f))
          → ListFault L n t R lists f
      header (inl x) = let same = x.1 in rw (← same) (bad_header x.0)
      header (inr x) = lengths x.0 (unless-faulty _ BadLengths _ f x.1)

  -- Everything in front is good, so the edit decides.
  reached-edit : (front : List Edit) (e : Edit) (rest : List Edit) → ReachedEdit L n t R lists front e rest
      → judged_lists L n t R lists ≡ judged_edits L n R (last_of None front) (e ∷ rest)
  unfolding judged_lists unless
  reached-edit front e rest x =
      rw (x.header, x.lengths, x.losses) (ap (judged_edits L n R None) (sym x.cut) ∙ edits-past L n R None front (e ∷ rest) x.edits)

  pub fault-of-lists : {f : Refusal} → ListFault L n t R lists f → checked_lists L n t R lists ≡ bad f
  unfolding checked_lists judged_lists unless judged judged_edits
  fault-of-lists (bad_header h) = rw h
  fault-of-lists (bad_lengths h l) = rw (h, l)
  fault-of-lists (bad_losses h l s) = rw (h, l, s)
  fault-of-lists (bad_field front e rest x g) = ap (judged (record_from n t R lists)) (reached-edit front e rest x) ∙ rw g
  fault-of-lists (bad_place front e rest x g o) = ap (judged (record_from n t R lists)) (reached-edit front e rest x) ∙ rw (g, o)
