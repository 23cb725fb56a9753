-- The promises of specs/Promises.antt, each proved under its own name.
-- Assumes nothing.
use mathlib.Core.Path.{◌≡◌, ◌∙◌, ap}
use mathlib.Core.Logic.Iff
use mathlib.Core.Logic.{⊎_elim}
use mathlib.Core.Bool.{false}
use Prim.Native.Nat.{zero, suc, ◌≤◌}
use native.Mathlib.Nat.{lt_of_le_of_lt, lt_of_lt_of_le, le_trans}
use native.Mathlib.Numerals.{add-one}
use native.Mathlib.Omega.{arith}
use borrow.Author.Tests.{lt-ltb, ltb-true}
use Rattle.farm.specs.Sets.{bit}
use Rattle.farm.proofs.Cases.{true-or-false}
use Rattle.farm.proofs.SetLaws.{size_mono}
use Rattle.farm.specs.declared.places.Seat.{Seat}
use Rattle.farm.specs.declared.places.Time.{Time}
use Rattle.knowledge.specs.Farm.{Farm, seat, time, after, place, IsSeat, CleanBy, losers_by}
use Rattle.knowledge.specs.Views.{InView, received, InViews, view_of, views_of}
use Rattle.knowledge.specs.Known.{known_in}
use Rattle.knowledge.specs.Settled.{outcome_of, next, has_place}
use Rattle.knowledge.specs.Promises.{FewLosersBy, ViewIsComputed, ViewsAreComputed, ViewHoldsEarlierTimes, KnownIsComputed, KnownOfAPlaceIsComputed, LoserIsComputed, CoreIsComputed, OutcomeIsComputed, ViewGrows, ViewIsClosed, ViewIsPast, KnownStaysKnown, KnownHasLost, UnknownHasDelivered, ChainShrinks, ChainFalls, ChainStaysInView, StepsAreCounted, AnswerStandsStill, Agreement, Deadline, CleanSeatsAgree, CleanEditsArrive}
use Rattle.knowledge.proofs.ViewLaws.{in-view-sound, in-view-complete, in-views-sound, in-views-complete, at-most-latest}
use Rattle.knowledge.proofs.KnownLaws.{known-of-counted, loser-intro, loser-elim}
use Rattle.knowledge.proofs.ChainLaws.{stage-known}
use Rattle.knowledge.proofs.ViewTheory.{view-grows as count-grows, view-past, view-closed}
use Rattle.knowledge.proofs.KnownTheory.{losers-grow}
use Rattle.knowledge.proofs.ChainTheory.{stage-falls, stage-inside}
use Rattle.knowledge.proofs.StepTheory.{steps-unique, steps-end, steps-fall}
use Rattle.knowledge.proofs.OutcomeTheory.{outcome-unique, outcome-exists, answer-fixed}
use Rattle.knowledge.proofs.Agreement.{outcomes-agree}
use Rattle.knowledge.proofs.Deadline.{place-in-time}

-- ════ The rules in their own words and the computed forms say the same ════

pub view-is-computed : ViewIsComputed
view-is-computed farm p k x =
    Iff.trans (in-view-sound farm x, in-view-complete farm p.0 k.0 x.seat.0 x.time.0) (at-most-latest x.time _)

pub views-are-computed : ViewsAreComputed
views-are-computed farm set k x =
    Iff.trans (in-views-sound farm set k x, in-views-complete farm set k x) (at-most-latest x.time _)

pub view-holds-earlier-times : ViewHoldsEarlierTimes
view-holds-earlier-times farm p q k j i l v =
    in-view-complete farm p.0 k.0 q.0 i.0 (lt_of_le_of_lt l (in-view-sound farm _ v))

pub known-is-computed : KnownIsComputed
known-is-computed farm set k z h =
    known-of-counted farm (InViews farm set k) (views_of farm set k) (λ x. (in-views-sound farm set k x, in-views-complete farm set k x)) z h

pub known-of-a-place-is-computed : KnownOfAPlaceIsComputed
known-of-a-place-is-computed farm p k z h =
    known-of-counted farm (λ x. InView farm x p k) (view_of farm p k)
    (λ x. (in-view-sound farm x, in-view-complete farm p.0 k.0 x.seat.0 x.time.0)) z h

pub loser-is-computed : LoserIsComputed
loser-is-computed farm ℓ z h = (
  λ l. loser-intro farm ℓ.0 z.0 l.receiver.0 l.round.0 h l.real l.begun l.done l.lost,
  λ e.
      let w = loser-elim farm ℓ.0 z.0 h e in
      record { round = time w.1; receiver = seat w.0; begun = w.3; done = w.4; real = w.2; lost = w.5 },
)

pub core-is-computed : CoreIsComputed
unfolding has_place
core-is-computed farm p ℓ s a x =
    rw a.core
    (λ v. lt-ltb _ _ (in-views-sound farm _ _ x v), λ e. in-views-complete farm _ _ x (ltb-true _ _ e))

pub outcome-is-computed : OutcomeIsComputed
outcome-is-computed farm fits p ℓ hp o = (
  λ a. outcome-unique farm p ℓ o (outcome_of farm p ℓ) a (outcome-exists farm fits p ℓ hp),
  λ e. rw e (outcome-exists farm fits p ℓ hp),
)

-- ════ Views ════

pub view-grows : ViewGrows
view-grows farm p j k h x v =
    in-view-complete farm p.0 k.0 x.seat.0 x.time.0
    (lt_of_lt_of_le (in-view-sound farm x v) (count-grows farm p.0 j.0 k.0 x.seat.0 h))

pub view-is-closed : ViewIsClosed
view-is-closed farm p q j k w x v =
    in-view-complete farm p.0 k.0 x.seat.0 x.time.0
    (lt_of_lt_of_le (in-view-sound farm x v) (view-closed farm p.0 k.0 q.0 j.0 (in-view-sound farm (place q j) w) x.seat.0))

pub view-is-past : ViewIsPast
view-is-past farm p q j k w = view-past farm p.0 k.0 q.0 j.0 (in-view-sound farm (place q j) w)

-- ════ Known seats ════

pub known-stays-known : KnownStaysKnown
known-stays-known farm p j k h z w = record {
  at = w.at;
  real = w.real;
  begun = w.begun;
  seen = view-grows farm p j k h w.at w.seen;
  lost = w.lost;
}

pub known-has-lost : KnownHasLost
known-has-lost farm p k z w = record {
  round = w.at.time;
  receiver = w.at.seat;
  begun = w.begun;
  done = view-is-past farm p w.at.seat w.at.time k w.seen;
  real = w.real;
  lost = w.lost;
}

pub unknown-has-delivered : UnknownHasDelivered
unknown-has-delivered farm p q g j k hq hg w unknown x v =
    ⊎_elim
    (λ e. absurd (unknown (record { at = place q (after j); real = hq; begun = omega arith; seen = w; lost = e })))
    (λ e. view-is-closed farm p q (after j) k w x (received hg e v))
    (true-or-false (farm.lost (suc j.0) g.0 q.0))

-- ════ The chain of an answered seat ════

pub chain-shrinks : ChainShrinks
chain-shrinks farm fits p ℓ hp within i z hz e =
    (stage-falls farm fits p ℓ hp within i).falls z.0 hz (rw (add-one i, stage-known farm p ℓ i) at e)

pub chain-falls : ChainFalls
chain-falls farm fits p ℓ hp within zero i steps l = let none : ⊥ = omega arith in absurd none
chain-falls farm fits p ℓ hp within (suc h) i steps l = rw (add-one i) (steps-fall farm fits p ℓ hp within h i steps (omega arith))

pub chain-stays-in-view : ChainStaysInView
chain-stays-in-view farm fits p ℓ hp within i x w =
    in-view-complete farm p.0 ℓ.0 x.seat.0 x.time.0
    (stage-inside farm fits p ℓ hp within i x.seat.0 x.time.0 (in-views-sound farm _ _ x w))

pub steps-are-counted : StepsAreCounted
steps-are-counted farm fits p ℓ hp within =
    let w = steps-end farm fits p ℓ hp within in
    (suc w.0, w.2, omega (arith, w.1), omega (arith, w.1), λ j steps. steps-unique farm p ℓ j (suc w.0) steps w.2)

pub answer-stands-still : AnswerStandsStill
unfolding next
answer-stands-still farm p ℓ s a =
    let f = answer-fixed farm p ℓ s a in
    (f.1, f.2, ap (known_in farm) f.2 ∙ f.0)

-- ════ Agreement and deadline ════

pub agreement : Agreement
agreement farm fits ℓ few p q hp hq o r a b = outcomes-agree farm fits ℓ.0 few p q hp hq o r a b

-- A clean seat's bit is not set.
clean-bit : (farm : Farm) (ℓ : Time) (z : Seat) → IsSeat farm z → CleanBy farm ℓ z → bit (losers_by farm ℓ) z.0 ≡ false
clean-bit farm ℓ z hz clean = ⊎_elim (λ e. absurd (clean ((loser-is-computed farm ℓ z hz).1 e))) (λ e. e) (true-or-false _)

pub deadline : Deadline
deadline farm fits ℓ few p q hp hq clean e late x v o a =
    place-in-time farm fits ℓ.0 few p q hp hq (clean-bit farm ℓ p hp clean) e.0 late x (in-view-sound farm x v) o a

-- ════ Condition 3 ════

-- Few losers in the whole record are few at each of its times, and a clean seat is clean up to each of them.
few-by : (farm : Farm) (ℓ : Time) → ℓ.0 ≤ farm.rounds → FewLosersBy farm (time farm.rounds) → FewLosersBy farm ℓ
few-by farm ℓ h few = le_trans (size_mono farm.seats (losers_by farm ℓ) (losers_by farm (time farm.rounds)) (losers-grow farm ℓ.0 farm.rounds h)) few

clean-by : (farm : Farm) (ℓ : Time) (z : Seat) → ℓ.0 ≤ farm.rounds → CleanBy farm (time farm.rounds) z → CleanBy farm ℓ z
clean-by farm ℓ z h clean l = clean (record {
  round = l.round;
  receiver = l.receiver;
  begun = l.begun;
  done = le_trans l.done h;
  real = l.real;
  lost = l.lost;
})

pub clean-seats-agree : CleanSeatsAgree
clean-seats-agree farm fits few ℓ h p q hp hq cp cq = agreement farm fits ℓ (few-by farm ℓ h few) p q hp hq

pub clean-edits-arrive : CleanEditsArrive
clean-edits-arrive farm fits few p q hp hq cp cq e x v ℓ late h =
    deadline farm fits ℓ (few-by farm ℓ h few) p q hp hq (clean-by farm ℓ p h cp) e late x v
