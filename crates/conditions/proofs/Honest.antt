-- Condition 3: what the rules give honest seats agrees, and the rules give each of them something.
-- Assumes nothing.
use mathlib.Core.Path.{◌≡◌, refl, sym}
use native.Mathlib.Nat.{le_trans}
use lib.IntN.{negsuc}
use borrow.Author.Tests.{ltb-true}
use Rattle.farm.specs.declared.places.Seat.{Seat}
use Rattle.farm.specs.declared.places.Time.{Time}
use Rattle.farm.proofs.SetLaws.{size_mono}
use Rattle.knowledge.specs.Farm.{Farm, Place, seat, time, place, IsSeat, losers_by}
use Rattle.knowledge.specs.Views.{InView, itself, remembered, received}
use Rattle.knowledge.specs.Settled.{Settled, Outcome, over_bound, settled, IsOutcome, outcome_of, has_place}
use Rattle.knowledge.specs.Promises.{BoundFits, FewLosersBy, Alike as SameOutcome, InCore}
use Rattle.knowledge.proofs.ViewLaws.{at-most-latest}
use Rattle.knowledge.proofs.Promises.{loser-is-computed, outcome-is-computed, clean-seats-agree, clean-edits-arrive}
use Rattle.record.specs.Record.{Record}
use Rattle.questions.specs.Question.{farm_of_record}
use Rattle.telling.proofs.TimeLaws.{get_or-times}
use Rattle.conditions.specs.Rules.{InNumbers, Answer}
use Rattle.conditions.specs.Answers.{IsPlace}
use Rattle.conditions.specs.Honest.{WithinBound, Gets, Alike, HonestSeatsAreToldAlike, SeenEditsAreAgreed}
use Rattle.conditions.proofs.AnswerLaws.{answer_of, told_of, ruled-of}

-- ════ The premise ════

few-losers : (r : Record) → WithinBound r → FewLosersBy (farm_of_record r) (time r.header.rounds)
few-losers r w =
    le_trans
    (size_mono r.header.seats (losers_by (farm_of_record r) (time r.header.rounds)) w.few_losers.set (λ q h b.
    w.few_losers.all (seat q) h ((loser-is-computed (farm_of_record r) (time r.header.rounds) (seat q) h).1 b)))
    w.few_losers.few

bound-fits : (r : Record) → WithinBound r → BoundFits (farm_of_record r)
bound-fits r w = w.is_good.numbers.bound

is-outcome : (r : Record) → WithinBound r → (p : Seat) (ℓ : Time) → IsSeat (farm_of_record r) p → (o : Outcome) → outcome_of (farm_of_record r) p ℓ ≡ o
    → IsOutcome (farm_of_record r) p ℓ o
is-outcome r w p ℓ hp o e = (outcome-is-computed (farm_of_record r) (bound-fits r w) p ℓ hp o).1 (sym e)

gets : (r : Record) → WithinBound r → (p : Seat) (ℓ : Time) → IsPlace r p ℓ → (s : Settled) → outcome_of (farm_of_record r) p ℓ ≡ settled s
    → Gets r p ℓ (answer_of r s)
gets r w p ℓ here s e = record {
  ruled = ruled-of r w.is_good p ℓ here s (is-outcome r w p ℓ here.0 (settled s) e);
  told = told_of r w.is_good p ℓ here s e;
}

-- ════ Agreement ════

alike : (r : Record) → WithinBound r → (ℓ : Time) (p q : Seat) → IsPlace r p ℓ → IsPlace r q ℓ → (o u : Outcome)
    → outcome_of (farm_of_record r) p ℓ ≡ o → outcome_of (farm_of_record r) q ℓ ≡ u → SameOutcome o u → Alike r ℓ p q
unfolding answer_of
alike r w ℓ p q hp hq over_bound u eo eu a = absurd a
alike r w ℓ p q hp hq (settled s) over_bound eo eu a = absurd a
alike r w ℓ p q hp hq (settled s) (settled u) eo eu (critical, kept, core) = record {
  first = answer_of r s;
  second = answer_of r u;
  first_gets = gets r w p ℓ hp s eo;
  second_gets = gets r w q ℓ hq u eu;
  critical = critical;
  kept = kept;
  core = rw core;
  marks = rw core;
  count = rw core;
}

pub honest-seats-are-told-alike : HonestSeatsAreToldAlike
honest-seats-are-told-alike r w p q hp hq ℓ h =
    alike r w ℓ p q (hp.is_seat, h) (hq.is_seat, h) _ _ refl refl
    (clean-seats-agree (farm_of_record r) (bound-fits r w) (few-losers r w) ℓ h p q hp.is_seat hq.is_seat hp.is_clean hq.is_clean
    (outcome_of (farm_of_record r) p ℓ) (outcome_of (farm_of_record r) q ℓ) (is-outcome r w p ℓ hp.is_seat _ refl) (is-outcome r w q ℓ hq.is_seat _ refl))

-- ════ An edit that was seen ════

-- A seat's view has places of seats alone.
seen-seat : (farm : Farm) (x : Place) {p : Seat} {k : Time} → InView farm x p k → IsSeat farm p → IsSeat farm x.seat
seen-seat farm x itself h = h
seen-seat farm x (remembered v) h = seen-seat farm x v h
seen-seat farm x (received hq a v) h = seen-seat farm x v hq

in-core : (r : Record) → WithinBound r → (q : Seat) (ℓ : Time) → IsPlace r q ℓ → (x : Place) → IsSeat (farm_of_record r) x.seat → (o : Outcome)
    → outcome_of (farm_of_record r) q ℓ ≡ o → InCore x o → (a : Answer) × Gets r q ℓ a × InNumbers a.core x
unfolding answer_of has_place
in-core r w q ℓ here x hx over_bound e c = absurd c
in-core r w q ℓ here x hx (settled s) e c = (
  answer_of r s,
  gets r w q ℓ here s e,
  rw (get_or-times r.header.seats s.core x.seat.0 (negsuc 0) hx) ((at-most-latest x.time (s.core x.seat.0)).0 (ltb-true _ _ c)),
)

pub seen-edits-are-agreed : SeenEditsAreAgreed
seen-edits-are-agreed r w p q hp hq edit e v ℓ late h =
    let x = place edit.seat edit.time in
    in-core r w q ℓ (hq.is_seat, h) x (seen-seat (farm_of_record r) x v hp.is_seat) _ refl
    (clean-edits-arrive (farm_of_record r) (bound-fits r w) (few-losers r w) p q hp.is_seat hq.is_seat hp.is_clean hq.is_clean e x v ℓ late h
    (outcome_of (farm_of_record r) q ℓ) (is-outcome r w q ℓ hq.is_seat _ refl))
