-- Condition 2: what the questions answer about a good record is what the rules say.
-- Assumes nothing.
use mathlib.Core.Path.{◌≡◌, refl, sym, ◌∙◌, ap, subst}
use mathlib.Core.Logic.{◌↔◌}
use mathlib.Core.Bool.{Bool, true, false, cond, true≢false}
use mathlib.Core.List.{List, [], ◌∷◌}
use Prim.Native.Nat.{ℕ, suc, ◌+◌, ◌-◌, ◌≤◌, ◌<◌}
use native.Mathlib.Omega.{arith}
use lib.ListN.{length}
use borrow.Author.Tests.{ltb-true, lt-ltb}
use Rattle.farm.specs.Sets.{bit, size}
use Rattle.farm.specs.declared.places.Seat.{Seat}
use Rattle.farm.specs.declared.places.Time.{Time}
use Rattle.knowledge.specs.Farm.{Farm, Place, time, place, losers}
use Rattle.knowledge.specs.Views.{View, InView, InViews, view_of, views_of, latest_times}
use Rattle.knowledge.specs.Known.{Known, known_of}
use Rattle.knowledge.specs.Chain.{stage}
use Rattle.knowledge.specs.Settled.{Settled, Outcome, over_bound, settled, IsSettled, IsOutcome, outcome_of, has_place}
use Rattle.knowledge.specs.Promises.{BoundFits}
use Rattle.knowledge.proofs.ChainLaws.{stage-start}
use Rattle.knowledge.proofs.KnownTheory.{known-below}
use Rattle.knowledge.proofs.ViewLaws.{in-view-sound, in-view-complete}
use Rattle.knowledge.proofs.Promises.{known-of-a-place-is-computed, loser-is-computed, core-is-computed, outcome-is-computed, steps-are-counted}
use Rattle.record.specs.declared.edits.Edit.{Edit}
use Rattle.record.specs.Record.{Record, good}
use Rattle.questions.specs.Question.{Asked, found, provided, Lent, by_value, fits, is_place, of_outcome, looking, farm_of_record, in_core, marks_of, count_of, view_in, known_in, settled_in, loser_in, on_record, view_asked, known_asked, settled_asked, loser_asked}
use Rattle.conditions.specs.Good.{GoodRecord}
use Rattle.conditions.specs.Rules.{IsSet, IsView, Marked, end, within, without, Answer, Ruled}
use Rattle.conditions.specs.Refusals.{Room}
use Rattle.conditions.specs.Answers.{IsPlace, EachSeenByTheRules, Told, EachAgreedByTheRules}
use Rattle.conditions.proofs.QuestionRefusals.{place-fits, room_fits, known-few}
use Rattle.conditions.proofs.RuleLaws.{set-unique, view-is, view-unique, stage-is-chain, chain-unique}

-- ════ At a place of the record, with room ════

same-found : {A : Type 0} (a b : A) → found a ≡ found b → a ≡ b
same-found a b e = cc

-- Something found is the one thing that the words allow.
found-iff : {A : Type 0} (words : A → Type 0) (asked : Asked A) (own : A) → asked ≡ found own → words own → ((b : A) → words b → b ≡ own)
    → (b : A) → (asked ≡ found b) ↔ words b
found-iff words asked own e holds unique b = (λ f. rw (sym (same-found own b (sym e ∙ f))) holds, λ w. rw (unique b w) e)

module _ (r : Record) (sound : GoodRecord r) (p : Seat) (ℓ : Time) (here : IsPlace r p ℓ) where
  abbrev farm : Farm
  farm = farm_of_record r

  placed : is_place farm p ℓ ≡ true
  placed = (place-fits farm p ℓ).1 here

  bound-fits : BoundFits farm
  bound-fits = sound.numbers.bound

  -- ════ Rules 1 and 2 ════

  view-found : (lent : Lent) → Room lent r.header.seats → view_asked lent (good r) p ℓ ≡ found (latest_times r.header.seats (view_of farm p ℓ))
  unfolding on_record view_in provided
  view-found lent room = rw (placed, (room_fits lent r.header.seats).1 room)

  known-found : known_asked (good r) p ℓ ≡ found (known_of farm p ℓ)
  unfolding on_record known_in provided
  known-found = rw placed

  loser-found : loser_asked (good r) p ≡ found (bit (losers farm) p.0)
  unfolding on_record loser_in provided
  loser-found = rw (lt-ltb p.0 r.header.seats here.0)

  known-is-set : IsSet r.header.seats (Known farm (λ x. InView farm x p ℓ)) (known_of farm p ℓ)
  known-is-set = record {
    small = known-below farm (view_of farm p ℓ);
    exact = λ z h. let same = known-of-a-place-is-computed farm p ℓ z h in (same.1, same.0);
  }

  view-is-view : IsView r.header.seats (λ x. InView farm x p ℓ) (latest_times r.header.seats (view_of farm p ℓ))
  view-is-view =
      view-is r.header.seats _ (view_of farm p ℓ) (λ x. (in-view-sound farm x, in-view-complete farm p.0 ℓ.0 x.seat.0 x.time.0))

pub seen-by-the-rules : EachSeenByTheRules
seen-by-the-rules r sound p ℓ here =
    let farm = farm_of_record r in
    let n = r.header.seats in
    let found-lost = loser-found r sound p ℓ here in
    let same = loser-is-computed farm (time r.header.rounds) p here.0 in
    record {
      view = λ lent room.
          found-iff (IsView n (λ x. InView farm x p ℓ)) (view_asked lent (good r) p ℓ) _ (view-found r sound p ℓ here lent room) (view-is-view r sound p ℓ here)
          (λ b w. view-unique n _ b _ w (view-is-view r sound p ℓ here));
      known =
          found-iff (IsSet n (Known farm (λ x. InView farm x p ℓ))) (known_asked (good r) p ℓ) _ (known-found r sound p ℓ here) (known-is-set r sound p ℓ here)
          (λ b w. set-unique n _ b _ w (known-is-set r sound p ℓ here));
      loser = (λ f. same.1 (same-found _ _ (sym found-lost ∙ f)), λ l. found-lost ∙ ap found (same.0 l));
      clean = (
        λ f l. true≢false (sym (same.0 l) ∙ same-found _ _ (sym found-lost ∙ f)),
        λ c. found-lost ∙ ap found (not_so (bit (losers farm) p.0) (λ e. c (same.1 e))),
      );
    }
  where
    not_so : (b : Bool) → ¬ (b ≡ true) → b ≡ false
    not_so true h = absurd (h refl)
    not_so false h = refl

-- ════ Edits in the core ════

-- Marks and their count, where the core has an edit exactly if it is inside.
marked : (core : View) (inside : Edit → Type 0) → ((e : Edit) → (in_core core e ≡ true) ↔ inside e) → (edits : List Edit)
    → Marked inside edits (marks_of core edits) (count_of core edits)
unfolding marks_of count_of
marked core inside same [] = end
marked core inside same (e ∷ edits) = by (in_core core e) refl (marked core inside same edits)
  where
    by : (b : Bool) → in_core core e ≡ b → Marked inside edits (marks_of core edits) (count_of core edits)
        → Marked inside (e ∷ edits) (cond b 1 0 ∷ marks_of core edits) (cond b 1 0 + count_of core edits)
    by true h rest = let one : 1 + count_of core edits ≡ suc (count_of core edits) = omega arith in rw one (within ((same e).0 h) rest)
    by false h rest = let as_many : 0 + count_of core edits ≡ count_of core edits = omega arith in rw as_many (without (λ w. true≢false (sym ((same e).1 w) ∙ h)) rest)

marked-unique : (inside : Edit → Type 0) (edits : List Edit) (a b : List ℕ) (j k : ℕ) → Marked inside edits a j → Marked inside edits b k
    → (a ≡ b) × (j ≡ k)
marked-unique inside _ a b j k end end = (refl, refl)
marked-unique inside _ a b j k (within x m) (within y l) = let e = marked-unique inside _ _ _ _ _ m l in (ap (λ (t : List ℕ). 1 ∷ t) e.0, ap suc e.1)
marked-unique inside _ a b j k (within x m) (without y l) = absurd (y x)
marked-unique inside _ a b j k (without x m) (within y l) = absurd (x y)
marked-unique inside _ a b j k (without x m) (without y l) = let e = marked-unique inside _ _ _ _ _ m l in (ap (λ (t : List ℕ). 0 ∷ t) e.0, e.1)

-- ════ Rules 3 to 6 ════

-- All that follows from what is settled.
unfoldable pub answer_of : Record → Settled → Answer
answer_of r s = record {
  steps = s.steps;
  critical = s.critical;
  kept = s.kept;
  core = latest_times r.header.seats s.core;
  marks = marks_of s.core r.edits;
  count = count_of s.core r.edits;
}

module _ (r : Record) (sound : GoodRecord r) (p : Seat) (ℓ : Time) (here : IsPlace r p ℓ) where
  -- What is settled is told.
  pub told_of : (s : Settled) → outcome_of (farm_of_record r) p ℓ ≡ settled s → Told r p ℓ (answer_of r s)
  unfolding answer_of on_record settled_in provided of_outcome looking fits
  told_of s o = record {
    what = s;
    settled = rw (placed r sound p ℓ here, o);
    steps = refl;
    critical = refl;
    kept = refl;
    core = λ lent room. rw (placed r sound p ℓ here, (room_fits lent r.header.seats).1 room, o);
    marks = λ lent room. rw (placed r sound p ℓ here, (room_fits lent (length r.edits)).1 room, o);
    count = rw (placed r sound p ℓ here, o);
  }

  found-outcome : (s : Settled) → settled_asked (good r) p ℓ ≡ found s → outcome_of (farm_of_record r) p ℓ ≡ settled s
  unfolding on_record settled_in provided of_outcome fits
  found-outcome s e = by (outcome_of (farm_of_record r) p ℓ) (rw (placed r sound p ℓ here) at e)
    where
      by : (o : Outcome) → of_outcome o ≡ found s → o ≡ settled s
      by over_bound f = let z : ◌≡◌ {A = ℕ} 0 1 = cc in absurd (omega arith)
      by (settled u) f = ap settled (same-found u s f)

  told-unique : (a : Answer) (t : Told r p ℓ a) → answer_of r t.what ≡ a
  unfolding answer_of
  told-unique a t =
      let u = told_of t.what (found-outcome t.what t.settled) in
      let core = same-found _ _ (sym (u.core by_value tt) ∙ t.core by_value tt) in
      let marks = same-found _ _ (sym (u.marks by_value tt) ∙ t.marks by_value tt) in
      let count = same-found _ _ (sym u.count ∙ t.count) in
      λ i. record { steps = t.steps i; critical = t.critical i; kept = t.kept i; core = core i; marks = marks i; count = count i }

  -- What is settled follows the rules.
  inside-core : (s : Settled) → IsSettled (farm_of_record r) p ℓ s → (x : Place)
      → InViews (farm_of_record r) (stage (farm_of_record r) p ℓ s.steps).seats (stage (farm_of_record r) p ℓ s.steps).time x
      ↔ (x.time.0 < s.core x.seat.0)
  unfolding has_place
  inside-core s is x =
      let same = core-is-computed (farm_of_record r) p ℓ s is x in
      (λ w. ltb-true _ _ (same.0 w), λ l. same.1 (lt-ltb _ _ l))

  pub ruled-of : (s : Settled) → IsOutcome (farm_of_record r) p ℓ (settled s) → Ruled r p ℓ (answer_of r s)
  unfolding answer_of in_core
  ruled-of s (few, is) = record {
    S = λ i. (stage (farm_of_record r) p ℓ i).seats;
    k = λ i. (stage (farm_of_record r) p ℓ i).time;
    B = λ i. (stage (farm_of_record r) p ℓ i).known;
    chain = stage-is-chain (farm_of_record r) p ℓ;
    few = few;
    steps = record { begun = is.steps.begun; still = is.steps.still; first = is.steps.first };
    critical = is.critical;
    kept = is.kept;
    core = view-is r.header.seats _ s.core (inside-core s is);
    marks =
        marked s.core _
        (λ e. let same = core-is-computed (farm_of_record r) p ℓ s is (place e.seat e.time) in (same.1, same.0)) r.edits;
  }

  -- What follows the rules is settled.
  settled-by : (h : ℕ) → Settled
  settled-by h = record {
    steps = h;
    critical = (stage (farm_of_record r) p ℓ h).time;
    kept = (stage (farm_of_record r) p ℓ h).known;
    core = views_of (farm_of_record r) (stage (farm_of_record r) p ℓ h).seats (stage (farm_of_record r) p ℓ h).time;
  }

  ruled-outcome : (a : Answer) → Ruled r p ℓ a → IsOutcome (farm_of_record r) p ℓ (settled (settled-by a.steps))
  unfolding settled-by
  ruled-outcome a u =
      let same = chain-unique (farm_of_record r) p ℓ u.S u.k u.B u.chain in (
        rw (sym (same 0).known) u.few,
        record {
          steps = record {
            begun = u.steps.begun;
            still = sym (same a.steps).known ∙ u.steps.still ∙ (same (a.steps - 1)).known;
            first = λ j l m e. u.steps.first j l m ((same j).known ∙ e ∙ sym (same (j - 1)).known);
          };
          kept = refl;
          critical = refl;
          core = refl;
        },
      )

  ruled-unique : (a : Answer) → Ruled r p ℓ a → answer_of r (settled-by a.steps) ≡ a
  unfolding answer_of settled-by ruled-of stage
  ruled-unique a u =
      let h = a.steps in
      let farm = farm_of_record r in
      let same = chain-unique farm p ℓ u.S u.k u.B u.chain h in
      let own = ruled-of (settled-by h) (ruled-outcome a u) in
      let core : IsView r.header.seats (InViews farm (stage farm p ℓ h).seats (stage farm p ℓ h).time) a.core
      = rw (same.seats, same.time) at u.core in
      let marks : Marked (λ e. InViews farm (stage farm p ℓ h).seats (stage farm p ℓ h).time (place e.seat e.time)) r.edits a.marks a.count
      = rw (same.seats, same.time) at u.marks in
      let list = view-unique r.header.seats _ _ _ own.core core in
      let counted = marked-unique _ r.edits _ _ _ _ own.marks marks in
      λ i. record {
        steps = h;
        critical = (sym same.time ∙ sym u.critical) i;
        kept = (sym same.known ∙ sym u.kept) i;
        core = list i;
        marks = counted.0 i;
        count = counted.1 i;
      }

  computed : (o : Outcome) → IsOutcome (farm_of_record r) p ℓ o ↔ (o ≡ outcome_of (farm_of_record r) p ℓ)
  computed o = outcome-is-computed (farm_of_record r) (bound-fits r sound p ℓ here) p ℓ here.0 o

  told-ruled : (a : Answer) → Told r p ℓ a → Ruled r p ℓ a
  told-ruled a t = subst (Ruled r p ℓ) (told-unique a t) (ruled-of t.what ((computed _).1 (sym (found-outcome t.what t.settled))))

  ruled-told : (a : Answer) → Ruled r p ℓ a → Told r p ℓ a
  ruled-told a u = subst (Told r p ℓ) (ruled-unique a u) (told_of (settled-by a.steps) (sym ((computed _).0 (ruled-outcome a u))))

  -- Where few seats are known, the construction does not refuse.
  settles : size r.header.seats (known_of (farm_of_record r) p ℓ) ≤ r.header.bound
      → (s : Settled) × IsOutcome (farm_of_record r) p ℓ (settled s)
  settles few = by (outcome_of (farm_of_record r) p ℓ) ((computed _).1 refl)
    where
      by : (o : Outcome) → IsOutcome (farm_of_record r) p ℓ o → (s : Settled) × IsOutcome (farm_of_record r) p ℓ (settled s)
      by over_bound many = let e = ap (size r.header.seats) (stage-start (farm_of_record r) p ℓ here.0) in absurd (omega arith)
      by (settled s) is = (s, is)

  few-steps : (s : Settled) → IsOutcome (farm_of_record r) p ℓ (settled s) → s.steps ≤ r.header.bound + 1
  few-steps s (few, is) =
      let counted = steps-are-counted (farm_of_record r) (bound-fits r sound p ℓ here) p ℓ here.0 few in
      let e = counted.4 s.steps is.steps in
      omega (arith, counted.2)

pub agreed-by-the-rules : EachAgreedByTheRules
unfolding answer_of
agreed-by-the-rules r sound p ℓ here = record {
  told = λ a. (told-ruled r sound p ℓ here a, ruled-told r sound p ℓ here a);
  some = λ most.
      let s = settles r sound p ℓ here ((known-few (farm_of_record r) p ℓ).1 most) in
      (answer_of r s.0, ruled-of r sound p ℓ here s.0 s.1, few-steps r sound p ℓ here s.0 s.1);
}
