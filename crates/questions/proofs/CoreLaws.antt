-- The settled answer as the construction's code gives it, and what a core can hold: no place later than the time that was asked
-- about, and no place of a seat that does not play.
-- Assumes nothing.
use mathlib.Core.Path.{◌≡◌, refl, sym, ◌∙◌, ap, fun_ext}
use mathlib.Core.Logic.{⊎_elim}
use mathlib.Core.List.{List}
use Prim.Native.Nat.{ℕ, ◌<◌, ◌≤◌}
use native.Mathlib.Nat.{le_antisymm}
use native.Mathlib.Omega.{arith}
use lib.ListN.{length}
use Rattle.farm.specs.Sets.{size}
use Rattle.farm.specs.declared.places.Seat.{Seat}
use Rattle.farm.specs.declared.places.Time.{Time}
use Rattle.farm.specs.declared.refusals.Refusal.{Refusal}
use Rattle.farm.specs.declared.refusals.Refusal.TheVariants.{OverBound}
use Rattle.farm.proofs.Cases.{less-or-not}
use Rattle.knowledge.specs.Farm.{Farm, Place, IsSeat, seat, time, place}
use Rattle.knowledge.specs.Views.{View, InView, itself, remembered, received, latest_times}
use Rattle.knowledge.specs.Settled.{Settled, Outcome, over_bound, settled, IsOutcome, core_view, outcome_of}
use Rattle.knowledge.proofs.ViewLaws.{le-of-below, in-view-complete}
use Rattle.knowledge.proofs.ViewTheory.{view-past}
use Rattle.knowledge.proofs.CriticalTime.{core-from}
use Rattle.knowledge.proofs.ChainTheory.{stage-falls}
use Rattle.knowledge.proofs.OutcomeTheory.{outcome-exists, answer-fixed}
use Rattle.viewing.specs.Counts.{counts, held, below, filled}
use Rattle.construction.specs.Answers.{answer_for, settled_for}
use Rattle.construction.specs.declared.settled.Settled as construction
use Rattle.std.specs.Prelude.{Result, Ok, Err}
use Rattle.viewing.proofs.CountLaws.{get_or-filled, below_out, get_d_past}
use Rattle.viewing.proofs.ViewSteps.{held-counts}
use Rattle.questions.specs.Question.{Asked, found, refused, Lent, looking, of_outcome, settled_in}
use Rattle.telling.specs.Laid.{InTime}
use Rattle.questions.specs.Accepted.{Found, Settles, core_in}
use Rattle.telling.proofs.TimeLaws.{counts-bound, length-counts}

-- ════ What a core can hold ════

-- A view has places of seats that play, and of none else.
seen-plays : (farm : Farm) (x : Place) {p : Seat} {k : Time} → InView farm x p k → IsSeat farm p → IsSeat farm x.seat
seen-plays farm x itself h = h
seen-plays farm x (remembered v) h = seen-plays farm x v h
seen-plays farm x (received q arrived v) h = seen-plays farm x v q

module _ (farm : Farm) (fits : farm.bound < farm.seats) (p : Seat) (ℓ : Time) (here : IsSeat farm p) (s : Settled)
    (was : outcome_of farm p ℓ ≡ settled s) where
  outcome-was : IsOutcome farm p ℓ (settled s)
  outcome-was = rw was at (outcome-exists farm fits p ℓ here)

  kept-within : size farm.seats s.kept ≤ farm.bound
  kept-within =
      let o = outcome-was in
      rw o.1.kept (stage-falls farm fits p ℓ here o.0 s.steps).within

  core-was : (q j : ℕ) → j < s.core q → (q < farm.seats) × (j < ℓ.0)
  core-was q j h =
      let o = outcome-was in
      let same : s.core ≡ core_view farm ℓ.0 s.kept = (answer-fixed farm p ℓ s o.1).2 in
      let w = core-from farm ℓ.0 s.kept kept-within q j (rw same at h) in
      let early = view-past farm w.0 w.1 q j w.5 in
      let g = w.2 in
      let m = w.4 in
      let small = kept-within in
      (seen-plays farm (place (seat q) (time j)) (in-view-complete farm w.0 w.1 q j w.5) g, omega arith)

  core-in-time : (q : ℕ) → s.core q ≤ ℓ.0
  core-in-time q = le-of-below (s.core q) ℓ.0 (λ j h. (core-was q j h).1)

  core-of-none : (q : ℕ) → farm.seats ≤ q → s.core q ≡ 0
  core-of-none q h =
      le_antisymm (le-of-below (s.core q) 0 (λ j l. let w = (core-was q j l).0 in let no : ⊥ = omega arith in absurd no)) (omega arith)

-- ════ What the construction answers ════

-- A settled answer in the code's numbers.
record Answered (farm : Farm) (p : Seat) (ℓ : Time) (s : construction.Settled) : Type 0 where
  pub what : Settled
  pub was : outcome_of farm p ℓ ≡ settled what
  pub is : s ≡ settled_for farm.seats what

refused-was : (n : ℕ) (o : Outcome) (x : Refusal) → answer_for n o ≡ Err x → of_outcome o ≡ refused x
unfolding of_outcome
refused-was n over_bound x e = let which : OverBound ≡ x = cc in ap refused which
refused-was n (settled s) x e = absurd cc

answered-was : (n : ℕ) (o : Outcome) (s : construction.Settled) → answer_for n o ≡ Ok s → (what : Settled) × (o ≡ settled what) × (s ≡ settled_for n what)
answered-was n over_bound s e = absurd cc
answered-was n (settled what) s e = let same : settled_for n what ≡ s = cc in (what, refl, sym same)

-- The code's core, as an array.
core-array : (farm : Farm) (p : Seat) (ℓ : Time) (s : construction.Settled) (r : Answered farm p ℓ s) → s.core.of ≡ counts farm.seats r.what.core
core-array farm p ℓ s r = ap (λ (x : construction.Settled). x.core.of) r.is

core-in-limits : (farm : Farm) → farm.bound < farm.seats → (p : Seat) (ℓ : Time) → IsSeat farm p → ℓ.0 ≤ 127
    → (s : construction.Settled) (r : Answered farm p ℓ s) → InTime s.core.of
core-in-limits farm fits p ℓ here early s r =
    counts-bound farm.seats r.what.core s.core.of 128 (core-array farm p ℓ s r)
    (λ q. let e = core-in-time farm fits p ℓ here r.what r.was q in omega arith)

-- ════ In a core that the code holds as an array ════

held-past : (n : ℕ) (v : View) (q : ℕ) → n ≤ q → held (counts n v) q ≡ 0
unfolding held counts filled
held-past n v q h =
    ⊎_elim (λ i. get_or-filled 7 n v q i ∙ below_out n v q h) (λ o. get_d_past 7 (below n v) q o) (less-or-not q 7)

core-held : (farm : Farm) → farm.bound < farm.seats → farm.seats ≤ 7 → (p : Seat) (ℓ : Time) → IsSeat farm p
    → (s : construction.Settled) (r : Answered farm p ℓ s) → held s.core.of ≡ r.what.core
core-held farm fits small p ℓ here s r =
    fun_ext (λ q.
    ap (λ (l : List ℕ). held l q) (core-array farm p ℓ s r)
    ∙ ⊎_elim (held-counts farm.seats r.what.core q small)
    (λ o. held-past farm.seats r.what.core q o ∙ sym (core-of-none farm fits p ℓ here r.what r.was q o))
    (less-or-not q farm.seats))

outcome-found : (o : Outcome) (s : Settled) → o ≡ settled s → of_outcome o ≡ found s
unfolding of_outcome
outcome-found o s e = rw e

-- ════ What is settled at a place ════

pub settled-so : (farm : Farm) → farm.bound < farm.seats → farm.seats ≤ 7 → (p : Seat) (ℓ : Time) → IsSeat farm p → ℓ.0 ≤ 127
    → (answer : Result construction.Settled Refusal) → answer ≡ answer_for farm.seats (outcome_of farm p ℓ)
    → (asked : Asked Settled) → asked ≡ of_outcome (outcome_of farm p ℓ) → Settles farm.seats asked answer
settled-so farm fits small p ℓ here early answer e asked same = record {
  refuses = λ x f. same ∙ refused-was farm.seats (outcome_of farm p ℓ) x (sym e ∙ f);
  answers = λ s f.
      let w = answered-was farm.seats (outcome_of farm p ℓ) s (sym e ∙ f) in
      let r : Answered farm p ℓ s = record { what = w.0; was = w.1; is = w.2 } in
      record {
        what = r.what;
        is = same ∙ outcome-found _ r.what r.was;
        coded = r.is;
        core = core-held farm fits small p ℓ here s r;
        early = core-in-limits farm fits p ℓ here early s r;
      };
}

-- The core fills its array.
pub core-long : (n : ℕ) (asked : Asked Settled) (s : construction.Settled) → Found n asked s → length s.core.of ≡ 7
core-long n asked s f = length-counts n f.what.core s.core.of (ap (λ (x : construction.Settled). x.core.of) f.coded)

-- ════ What is looked at in a settled answer ════

pub looked-refused : {A B : Type 0} (f : A → B) (asked : Asked A) (r : Refusal) → asked ≡ refused r → looking f asked ≡ refused r
unfolding looking
looked-refused f asked r e = rw e

pub looked-found : {A B : Type 0} (f : A → B) (asked : Asked A) (a : A) → asked ≡ found a → looking f asked ≡ found (f a)
unfolding looking
looked-found f asked a e = rw e

module _ (lent : Lent) (farm : Farm) (p : Seat) (ℓ : Time) where
  pub core-refused : (r : Refusal) → settled_in lent farm.seats farm p ℓ ≡ refused r → core_in lent farm p ℓ ≡ refused r
  unfolding core_in
  core-refused r e = looked-refused _ _ r e

  pub core-found : (s : Settled) → settled_in lent farm.seats farm p ℓ ≡ found s
      → core_in lent farm p ℓ ≡ found (latest_times farm.seats s.core)
  unfolding core_in
  core-found s e = looked-found _ _ s e
