-- The recursion of the construction, each law over plain values: the time that lies back, the view that is looked at, and a
-- step with the size of the known set as what is left of the steps.
-- Assumes nothing.
use mathlib.Core.Path.{◌≡◌, refl, sym, ◌∙◌, ap}
use mathlib.Core.Logic.{◌⊎◌, inl, inr, ◌≢◌, ⊎_elim}
use Prim.Native.Nat.{ℕ, zero, suc, ◌+◌, ◌-◌, ◌≤◌, ◌<◌}
use native.Mathlib.Nat.{not-suc-le-zero, lt_irrefl}
use native.Mathlib.Numerals.{add-one}
use native.Mathlib.Omega.{arith}
use lib.IntN.{pos, negsuc, ◌-ℤ◌}
use lib.ListN.{replicate}
use borrow.Author.Tests.{le-ltb, lt-ltb}
use Rattle.farm.specs.Sets.{Seats, size, outside}
use Rattle.farm.specs.declared.places.Seat.{Seat}
use Rattle.farm.specs.declared.places.Time.{Time}
use Rattle.knowledge.specs.Farm.{Farm, IsSeat, time}
use Rattle.knowledge.specs.Views.{views_of}
use Rattle.knowledge.specs.Settled.{critical_time, core_view, next, reached, settle_from}
use Rattle.viewing.specs.Counts.{room, counts, held}
use Rattle.construction.specs.Answers.{Shrinks, counts_for, settled_for}
use Rattle.knowledge.specs.Known.{known_in, known_of}
use Rattle.construction.proofs.KnownSteps.{known_in-counts}
use Rattle.knowledge.proofs.ChainLaws.{stage-start, settle-stops, settle-goes-on, settle-over, settle-within}
use Rattle.knowledge.proofs.ChainTheory.{Falling, change-falls, next-falls, stage-falls}
use Rattle.viewing.proofs.CountLaws.{filled_none, filled-skip}

-- ════ A time that lies back ════

pub minus-at : (a b : ℕ) → b ≤ a → pos a -ℤ pos b ≡ pos (a - b)
minus-at a zero h = ap pos (omega arith)
minus-at a (suc b) h = rw (le-ltb a (suc b) h)

pub minus-below : (a b : ℕ) → a < b → pos a -ℤ pos b ≡ negsuc (b - suc a)
minus-below a zero h = absurd (not-suc-le-zero h)
minus-below a (suc b) h = rw (lt-ltb a (suc b) h)

-- ════ The view that is looked at ════

-- Rule 3: k = ℓ − (t + 1 − |B|).
pub critical-is : (farm : Farm) (ℓ : ℕ) (known : Seats) → size farm.seats known ≤ farm.bound
    → pos ℓ -ℤ pos (farm.bound + 1 - size farm.seats known) ≡ critical_time farm ℓ known
unfolding critical_time
critical-is farm ℓ known within = rw (minus-at (farm.bound + 1) (size farm.seats known) (omega arith)) refl

pub counts_zero : (n : ℕ) → replicate room 0 ≡ counts n (λ q. 0)
unfolding counts
counts_zero n = filled_none room (λ q. 0) ∙ filled-skip room 0 n (λ q. 0) (omega arith) (λ j low high. refl)

pub counts-core_early : (farm : Farm) (n ℓ : ℕ) (known : Seats) → n ≡ farm.seats → size n known ≤ farm.bound
    → ℓ < farm.bound + 1 - size n known → counts n (core_view farm ℓ known) ≡ replicate room 0
unfolding core_view views_of
counts-core_early farm n ℓ known e within early =
    let w = rw e at within in
    rw (e, ← critical-is farm ℓ known w, minus-below ℓ (farm.bound + 1 - size farm.seats known) (rw e at early)) (sym (counts_zero farm.seats))

pub counts-core_late : (farm : Farm) (n ℓ : ℕ) (known : Seats) → n ≡ farm.seats → size n known ≤ farm.bound
    → farm.bound + 1 - size n known ≤ ℓ
    → counts n (core_view farm ℓ known) ≡ counts n (views_of farm (outside n known) (pos (ℓ - (farm.bound + 1 - size n known))))
unfolding core_view
counts-core_late farm n ℓ known e within late =
    let w = rw e at within in
    rw (e, ← critical-is farm ℓ known w, minus-at ℓ (farm.bound + 1 - size farm.seats known) (rw e at late)) refl

-- ════ A step ════

pub shrinks-falling : (farm : Farm) (ℓ : ℕ) (known : Seats) → Shrinks farm (time ℓ) known → Falling farm ℓ known
shrinks-falling farm ℓ known s = record { real = s.real; within = s.within; falls = s.falls }

pub falling-shrinks : (farm : Farm) (ℓ : ℕ) (known : Seats) → Falling farm ℓ known → Shrinks farm (time ℓ) known
falling-shrinks farm ℓ known f = record { real = f.real; within = f.within; falls = f.falls }

-- No change: the steps end.
pub settle-ends : (farm : Farm) (ℓ left steps : ℕ) (known : Seats) → next farm ℓ known ≡ known
    → settle_from farm ℓ left steps known ≡ reached farm ℓ steps known
unfolding settle_from
settle-ends farm ℓ zero steps known e = refl
settle-ends farm ℓ (suc left) steps known e = settle-stops farm ℓ left steps known e

-- A set of another size is another set.
changed : (farm : Farm) (ℓ : ℕ) (known : Seats) → size farm.seats (next farm ℓ known) < size farm.seats known → next farm ℓ known ≢ known
changed farm ℓ known less same = lt_irrefl (size farm.seats known) (rw same at less)

-- As many steps as the set has seats are enough, and more change nothing.
settle-enough : (farm : Farm) → farm.bound < farm.seats → (ℓ a b steps : ℕ) (known : Seats) → Falling farm ℓ known
    → size farm.seats known ≤ a → size farm.seats known ≤ b → settle_from farm ℓ a steps known ≡ settle_from farm ℓ b steps known
settle-enough farm fits ℓ zero b steps known f ha hb =
    ⊎_elim (λ same. settle-ends farm ℓ zero steps known same ∙ sym (settle-ends farm ℓ b steps known same))
    (λ less. let no : ⊥ = omega arith in absurd no) (change-falls farm ℓ known f)
settle-enough farm fits ℓ (suc a) zero steps known f ha hb =
    ⊎_elim (λ same. settle-ends farm ℓ (suc a) steps known same ∙ sym (settle-ends farm ℓ zero steps known same))
    (λ less. let no : ⊥ = omega arith in absurd no) (change-falls farm ℓ known f)
settle-enough farm fits ℓ (suc a) (suc b) steps known f ha hb =
    by (settle-enough farm fits ℓ a b (suc steps) (next farm ℓ known) (next-falls farm fits ℓ known f)) (change-falls farm ℓ known f)
  where
    by : (size farm.seats (next farm ℓ known) ≤ a → size farm.seats (next farm ℓ known) ≤ b
        → settle_from farm ℓ a (suc steps) (next farm ℓ known) ≡ settle_from farm ℓ b (suc steps) (next farm ℓ known))
        → (next farm ℓ known ≡ known) ⊎ (size farm.seats (next farm ℓ known) < size farm.seats known)
        → settle_from farm ℓ (suc a) steps known ≡ settle_from farm ℓ (suc b) steps known
    by later (inl same) = settle-stops farm ℓ a steps known same ∙ sym (settle-stops farm ℓ b steps known same)
    by later (inr less) =
        settle-goes-on farm ℓ a steps known (changed farm ℓ known less)
        ∙ later (omega arith) (omega arith)
        ∙ sym (settle-goes-on farm ℓ b steps known (changed farm ℓ known less))

-- ════ The recursion at its two ends ════

-- The next known set, as the code finds it.
pub next-is : (farm : Farm) (n ℓ : ℕ) (known : Seats) → n ≡ farm.seats → n ≤ room
    → known_in farm (held (counts n (core_view farm ℓ known))) ≡ next farm ℓ known
unfolding next
next-is farm n ℓ known e small = known_in-counts farm n (core_view farm ℓ known) e small

pub next-shrinks : (farm : Farm) (ℓ : ℕ) (known : Seats) → farm.bound < farm.seats → Shrinks farm (time ℓ) known
    → Shrinks farm (time ℓ) (next farm ℓ known)
next-shrinks farm ℓ known fits s = falling-shrinks farm ℓ (next farm ℓ known) (next-falls farm fits ℓ known (shrinks-falling farm ℓ known s))

-- A change makes the set smaller.
pub next_less : (farm : Farm) (n ℓ : ℕ) (known : Seats) → n ≡ farm.seats → Shrinks farm (time ℓ) known → next farm ℓ known ≢ known
    → size n (next farm ℓ known) < size n known
next_less farm n ℓ known e s moved =
    rw e (⊎_elim (λ same. absurd (moved same)) (λ less. less) (change-falls farm ℓ known (shrinks-falling farm ℓ known s)))

-- A change: the steps go on from the next set.
pub settle-continues : (farm : Farm) (n ℓ left steps : ℕ) (known : Seats) → n ≡ farm.seats → farm.bound < n → left ≡ size n known
    → Shrinks farm (time ℓ) known → next farm ℓ known ≢ known
    → settle_from farm ℓ left steps known ≡ settle_from farm ℓ (size n (next farm ℓ known)) (steps + 1) (next farm ℓ known)
settle-continues farm n ℓ left steps known e fits el s moved =
    rw e (by left (rw e at el) (rw e at (next_less farm n ℓ known e s moved)))
  where
    by : (left : ℕ) → left ≡ size farm.seats known → size farm.seats (next farm ℓ known) < size farm.seats known
        → settle_from farm ℓ left steps known
        ≡ settle_from farm ℓ (size farm.seats (next farm ℓ known)) (steps + 1) (next farm ℓ known)
    by zero e less = let no : ⊥ = omega arith in absurd no
    by (suc left) same less =
        let fits-seats = rw e at fits in
        let f = next-falls farm fits-seats ℓ known (shrinks-falling farm ℓ known s) in
        rw add-one
        (settle-goes-on farm ℓ left steps known moved
        ∙ settle-enough farm fits-seats ℓ left (size farm.seats (next farm ℓ known)) (suc steps) (next farm ℓ known) f (omega arith) (omega arith))

-- No change: rule 5.
pub settled-here : (farm : Farm) (n ℓ left steps : ℕ) (known : Seats) → Shrinks farm (time ℓ) known → next farm ℓ known ≡ known
    → settled_for n (settle_from farm ℓ left steps known)
    ≡ (record { steps = steps; critical = pos ℓ -ℤ pos (farm.bound + 1 - size farm.seats known); kept = known; core = counts_for n (core_view farm ℓ known) })
unfolding reached
settled-here farm n ℓ left steps known s same =
    rw (settle-ends farm ℓ left steps known same, ← critical-is farm ℓ known s.within) refl

-- ════ The asking seat's own known set ════

pub own-shrinks : (farm : Farm) → farm.bound < farm.seats → (p : Seat) (ℓ : Time) → IsSeat farm p → (known : Seats)
    → known ≡ known_of farm p ℓ → size farm.seats known ≤ farm.bound → Shrinks farm ℓ known
own-shrinks farm fits p ℓ hp known e within =
    let same = stage-start farm p ℓ hp ∙ sym e in
    falling-shrinks farm ℓ.0 known (rw same at (stage-falls farm fits p ℓ hp (rw same within) 0))

-- By these the check proves the construction by itself, but for what `settle` says of the seat's own known set.
pub ruleset settle_steps = (counts-core_early, counts-core_late, next-is, next-shrinks, next_less, settle-continues, settled-here, settle-over, settle-within)
