-- What is proved of the construction, as statements with names. Each has its proof under the same name in proofs/Promises.antt.
use Rattle.std.specs.Prelude.{◌≡◌, ◌↔◌, true, ℕ, ◌+◌, ◌≤◌, ◌<◌, ℤ}
use Rattle.farm.specs.Sets.{Seats, bit, size}
use Rattle.farm.specs.declared.places.Seat.{Seat}
use Rattle.farm.specs.declared.places.Time.{Time}
use Rattle.knowledge.specs.Farm.{Farm, Place, time, place, after, IsSeat, LoserBy, CleanBy, Clean, losers_by}
use Rattle.knowledge.specs.Views.{InView, InViews, view_of, views_of, latest, AtMost}
use Rattle.knowledge.specs.Known.{Known, known_in, known_of}
use Rattle.knowledge.specs.Chain.{stage, IsSteps}
use Rattle.knowledge.specs.Settled.{Settled, Outcome, over_bound, settled, IsSettled, IsOutcome, critical_time, core_view, outcome_of, has_place}

-- Every good record has this: the bound t is at most n − 1.
abbrev pub BoundFits : Farm → Type 0
BoundFits farm = farm.bound < farm.seats

-- The premise of condition 3: at most t seats have lost a send in the rounds 1 to ℓ.
abbrev pub FewLosersBy : Farm → Time → Type 0
FewLosersBy farm ℓ = size farm.seats (losers_by farm ℓ) ≤ farm.bound

-- Rule 6: the seat is answered at the time, as its view shows at most t known seats.
abbrev pub Answered : Farm → Seat → Time → Type 0
Answered farm p ℓ = size farm.seats (stage farm p ℓ 0).known ≤ farm.bound

-- Neither outcome is a refusal, and critical time, kept set and core are the same.
abbrev pub Alike : Outcome → Outcome → Type 0
Alike over_bound r = ⊥
Alike (settled s) over_bound = ⊥
Alike (settled s) (settled r) = (s.critical ≡ r.critical) × (s.kept ≡ r.kept) × (s.core ≡ r.core)

-- The outcome is no refusal, and its core has the place.
abbrev pub InCore : Place → Outcome → Type 0
InCore x over_bound = ⊥
InCore x (settled s) = has_place s.core x ≡ true

-- ════ The rules in their own words and the computed forms say the same ════

-- Rule 1: a place is in the view of a place exactly when its time is at most the computed latest one.
abbrev pub ViewIsComputed : Type 0
ViewIsComputed =
    (farm : Farm) (p : Seat) (k : Time) (x : Place)
    → InView farm x p k ↔ AtMost x.time (latest (view_of farm p k x.seat.0))

-- The same for the view of a set of seats, at a time that may be below 0.
abbrev pub ViewsAreComputed : Type 0
ViewsAreComputed =
    (farm : Farm) (set : Seats) (k : ℤ) (x : Place)
    → InViews farm set k x ↔ AtMost x.time (latest (views_of farm set k x.seat.0))

-- Rule 1: where a view has a time of a seat, it has the earlier ones too.
abbrev pub ViewHoldsEarlierTimes : Type 0
ViewHoldsEarlierTimes =
    (farm : Farm) (p q : Seat) (k j i : Time) → i.0 ≤ j.0 → InView farm (place q j) p k → InView farm (place q i) p k

-- Rule 2: a seat is known in the view of a set of seats exactly when its bit is set.
abbrev pub KnownIsComputed : Type 0
KnownIsComputed =
    (farm : Farm) (set : Seats) (k : ℤ) (z : Seat) → IsSeat farm z
    → Known farm (InViews farm set k) z ↔ (bit (known_in farm (views_of farm set k)) z.0 ≡ true)

-- The same for the view of one place.
abbrev pub KnownOfAPlaceIsComputed : Type 0
KnownOfAPlaceIsComputed =
    (farm : Farm) (p : Seat) (k : Time) (z : Seat) → IsSeat farm z
    → Known farm (λ x. InView farm x p k) z ↔ (bit (known_of farm p k) z.0 ≡ true)

-- A seat is a loser by a time exactly when its bit is set; at the last time that is a loser of the record.
abbrev pub LoserIsComputed : Type 0
LoserIsComputed =
    (farm : Farm) (ℓ : Time) (z : Seat) → IsSeat farm z → LoserBy farm ℓ z ↔ (bit (losers_by farm ℓ) z.0 ≡ true)

-- Rule 5: a place is in the core exactly when it is in the view of Sₕ at kₕ, with h the count of steps.
abbrev pub CoreIsComputed : Type 0
CoreIsComputed =
    (farm : Farm) (p : Seat) (ℓ : Time) (s : Settled) → IsSettled farm p ℓ s → (x : Place)
    → InViews farm (stage farm p ℓ s.steps).seats (stage farm p ℓ s.steps).time x ↔ (has_place s.core x ≡ true)

-- Rules 3 to 6: the rules allow one outcome and no other, and it is the computed one.
abbrev pub OutcomeIsComputed : Type 0
OutcomeIsComputed =
    (farm : Farm) → BoundFits farm → (p : Seat) (ℓ : Time) → IsSeat farm p → (o : Outcome)
    → IsOutcome farm p ℓ o ↔ (o ≡ outcome_of farm p ℓ)

-- ════ Views ════

-- A view holds all that it held before.
abbrev pub ViewGrows : Type 0
ViewGrows = (farm : Farm) (p : Seat) (j k : Time) → j.0 ≤ k.0 → (x : Place) → InView farm x p j → InView farm x p k

-- With each of its places a view holds the whole view of that place.
abbrev pub ViewIsClosed : Type 0
ViewIsClosed = (farm : Farm) (p q : Seat) (j k : Time) → InView farm (place q j) p k → (x : Place) → InView farm x q j → InView farm x p k

-- A view holds nothing from the future.
abbrev pub ViewIsPast : Type 0
ViewIsPast = (farm : Farm) (p q : Seat) (j k : Time) → InView farm (place q j) p k → j.0 ≤ k.0

-- ════ Known seats ════

-- Who is known stays known.
abbrev pub KnownStaysKnown : Type 0
KnownStaysKnown =
    (farm : Farm) (p : Seat) (j k : Time) → j.0 ≤ k.0 → (z : Seat)
    → Known farm (λ x. InView farm x p j) z → Known farm (λ x. InView farm x p k) z

-- Only losers are known.
abbrev pub KnownHasLost : Type 0
KnownHasLost = (farm : Farm) (p : Seat) (k : Time) (z : Seat) → Known farm (λ x. InView farm x p k) z → LoserBy farm k z

-- Who is not known in a view has delivered to each of its places: the view holds what that seat saw before it sent.
abbrev pub UnknownHasDelivered : Type 0
UnknownHasDelivered =
    (farm : Farm) (p q g : Seat) (j k : Time) → IsSeat farm q → IsSeat farm g → InView farm (place q (after j)) p k
    → ¬ Known farm (λ x. InView farm x p k) g → (x : Place) → InView farm x g j → InView farm x p k

-- ════ The chain of an answered seat ════

-- Each known set lies inside the one before.
abbrev pub ChainShrinks : Type 0
ChainShrinks =
    (farm : Farm) → BoundFits farm → (p : Seat) (ℓ : Time) → IsSeat farm p → Answered farm p ℓ → (i : ℕ) (z : Seat) → IsSeat farm z
    → bit (stage farm p ℓ (i + 1)).known z.0 ≡ true → bit (stage farm p ℓ i).known z.0 ≡ true

-- Each step before the last takes a seat out.
abbrev pub ChainFalls : Type 0
ChainFalls =
    (farm : Farm) → BoundFits farm → (p : Seat) (ℓ : Time) → IsSeat farm p → Answered farm p ℓ → (h i : ℕ) → IsSteps farm p ℓ h → i + 1 < h
    → size farm.seats (stage farm p ℓ (i + 1)).known < size farm.seats (stage farm p ℓ i).known

-- Every view that the chain looks at lies inside the asking seat's own view.
abbrev pub ChainStaysInView : Type 0
ChainStaysInView =
    (farm : Farm) → BoundFits farm → (p : Seat) (ℓ : Time) → IsSeat farm p → Answered farm p ℓ → (i : ℕ) (x : Place)
    → InViews farm (stage farm p ℓ i).seats (stage farm p ℓ i).time x → InView farm x p ℓ

-- Rule 4: the count of steps exists, is at most t + 1 and at most |B₀| + 1, and no other number is the count.
abbrev pub StepsAreCounted : Type 0
StepsAreCounted =
    (farm : Farm) → BoundFits farm → (p : Seat) (ℓ : Time) → IsSeat farm p → Answered farm p ℓ
    → (h : ℕ) × IsSteps farm p ℓ h × (h ≤ farm.bound + 1) × (h ≤ size farm.seats (stage farm p ℓ 0).known + 1)
    × ((j : ℕ) → IsSteps farm p ℓ j → j ≡ h)

-- The answer stands still: critical time and core follow from the kept set, and what is known in that core is the kept set.
abbrev pub AnswerStandsStill : Type 0
AnswerStandsStill =
    (farm : Farm) (p : Seat) (ℓ : Time) (s : Settled) → IsSettled farm p ℓ s
    → (s.critical ≡ critical_time farm ℓ.0 s.kept) × (s.core ≡ core_view farm ℓ.0 s.kept) × (known_in farm s.core ≡ s.kept)

-- ════ Agreement and deadline, at one time and for losers too ════

-- Where at most t seats have lost a send by now, all seats are answered, and alike.
abbrev pub Agreement : Type 0
Agreement =
    (farm : Farm) → BoundFits farm → (ℓ : Time) → FewLosersBy farm ℓ → (p q : Seat) → IsSeat farm p → IsSeat farm q
    → (o r : Outcome) → IsOutcome farm p ℓ o → IsOutcome farm q ℓ r → Alike o r

-- Then a place in the view, at time e, of a seat clean up to now is in every seat's core once t + 1 rounds have passed.
abbrev pub Deadline : Type 0
Deadline =
    (farm : Farm) → BoundFits farm → (ℓ : Time) → FewLosersBy farm ℓ → (p q : Seat) → IsSeat farm p → IsSeat farm q → CleanBy farm ℓ p
    → (e : Time) → e.0 + farm.bound + 1 ≤ ℓ.0 → (x : Place) → InView farm x p e → (o : Outcome) → IsOutcome farm q ℓ o → InCore x o

-- ════ Condition 3, of a whole record with no more losers than its bound ════

-- First part: whatever the rules answer two seats that never lose a send, at any time of the record, is alike.
abbrev pub CleanSeatsAgree : Type 0
CleanSeatsAgree =
    (farm : Farm) → BoundFits farm → FewLosersBy farm (time farm.rounds)
    → (ℓ : Time) → ℓ.0 ≤ farm.rounds → (p q : Seat) → IsSeat farm p → IsSeat farm q → Clean farm p → Clean farm q
    → (o r : Outcome) → IsOutcome farm p ℓ o → IsOutcome farm q ℓ r → Alike o r

-- Second part: a place, such as an edit's, that one of them sees at time e is in all their cores from e + t + 1 to the end.
abbrev pub CleanEditsArrive : Type 0
CleanEditsArrive =
    (farm : Farm) → BoundFits farm → FewLosersBy farm (time farm.rounds)
    → (p q : Seat) → IsSeat farm p → IsSeat farm q → Clean farm p → Clean farm q → (e : Time) (x : Place) → InView farm x p e
    → (ℓ : Time) → e.0 + farm.bound + 1 ≤ ℓ.0 → ℓ.0 ≤ farm.rounds → (o : Outcome) → IsOutcome farm q ℓ o → InCore x o
