-- Known sets and losers: the words of document 01 and the bits say the same.
-- Assumes nothing.
use mathlib.Core.Path.{◌≡◌, sym, ◌∙◌}
use mathlib.Core.Logic.{◌↔◌}
use mathlib.Core.Bool.{true, ◌&&◌}
use Prim.Native.Nat.{ℕ, zero, suc, ◌≤◌, ◌<◌}
use native.Mathlib.Nat.{not-suc-le-zero}
use native.Mathlib.Omega.{arith}
use lib.Dec.{ltb}
use borrow.Author.Tests.{lt-ltb, ltb-true}
use Rattle.farm.specs.Sets.{bit}
use Rattle.farm.proofs.Cases.{and_intro, and-elim}
use Rattle.farm.proofs.SetLaws.{any-intro, any-elim, bit-collect}
use Rattle.farm.specs.declared.places.Seat.{Seat}
use Rattle.knowledge.specs.Farm.{Farm, Place, IsSeat, seat, time, place, loses_in, loses_by, losers_by}
use Rattle.knowledge.specs.Views.{View}
use Rattle.knowledge.specs.Known.{Known, missed_at, missed, known_in}

-- ════ Known ════

-- A send into a place of the view, lost, makes its sender known.
pub known_intro : (farm : Farm) (v : View) (z q r : ℕ) → z < farm.seats → q < farm.seats → 1 ≤ r → r < v q
    → farm.lost r z q ≡ true → bit (known_in farm v) z ≡ true
unfolding known_in missed missed_at
known_intro farm v z q r hz hq begun h e =
    bit-collect farm.seats (missed farm v) z hz
    ∙ any-intro farm.seats (missed_at farm v z) q hq
    (any-intro (v q) (λ s. ltb 0 s && farm.lost s z q) r h (and_intro _ _ (lt-ltb 0 r begun) e))

-- Whoever is known lost such a send.
pub known_elim : (farm : Farm) (v : View) (z : ℕ) → z < farm.seats → bit (known_in farm v) z ≡ true
    → (q : ℕ) × (r : ℕ) × (q < farm.seats) × (1 ≤ r) × (r < v q) × (farm.lost r z q ≡ true)
unfolding known_in missed missed_at
known_elim farm v z hz e =
    let a = any-elim farm.seats (missed_at farm v z) (sym (bit-collect farm.seats (missed farm v) z hz) ∙ e) in
    let b = any-elim (v a.0) (λ s. ltb 0 s && farm.lost s z a.0) a.2 in
    let c = and-elim _ _ b.2 in
    (a.0, b.0, a.1, ltb-true 0 b.0 c.0, b.1, c.1)

-- Rule 2 for any set of places that a view counts.
pub known-of-counted : (farm : Farm) (W : Place → Type 0) (v : View) → ((x : Place) → W x ↔ (x.time.0 < v x.seat.0))
    → (z : Seat) → IsSeat farm z → Known farm W z ↔ (bit (known_in farm v) z.0 ≡ true)
known-of-counted farm W v counted z hz = (sound, complete)
  where
    sound : Known farm W z → bit (known_in farm v) z.0 ≡ true
    sound k = known_intro farm v z.0 k.at.seat.0 k.at.time.0 hz k.real k.begun ((counted k.at).0 k.seen) k.lost

    complete : bit (known_in farm v) z.0 ≡ true → Known farm W z
    complete e =
        let w = known_elim farm v z.0 hz e in
        let x = place (seat w.0) (time w.1) in
        record { at = x; real = w.2; begun = w.3; seen = (counted x).1 w.4; lost = w.5 }

-- ════ Losers ════

pub loser-intro : (farm : Farm) (ℓ z q r : ℕ) → z < farm.seats → q < farm.seats → 1 ≤ r → r ≤ ℓ → farm.lost r z q ≡ true
    → bit (losers_by farm (time ℓ)) z ≡ true
unfolding losers_by loses_by loses_in
loser-intro farm ℓ z q zero hz hq begun done e = absurd (not-suc-le-zero begun)
loser-intro farm ℓ z q (suc r) hz hq begun done e =
    bit-collect farm.seats (loses_by farm ℓ) z hz
    ∙ any-intro ℓ (λ s. loses_in farm (suc s) z) r done (any-intro farm.seats (farm.lost (suc r) z) q hq e)

pub loser-elim : (farm : Farm) (ℓ z : ℕ) → z < farm.seats → bit (losers_by farm (time ℓ)) z ≡ true
    → (q : ℕ) × (r : ℕ) × (q < farm.seats) × (1 ≤ r) × (r ≤ ℓ) × (farm.lost r z q ≡ true)
unfolding losers_by loses_by loses_in
loser-elim farm ℓ z hz e =
    let a = any-elim ℓ (λ s. loses_in farm (suc s) z) (sym (bit-collect farm.seats (loses_by farm ℓ) z hz) ∙ e) in
    let b = any-elim farm.seats (farm.lost (suc a.0) z) a.2 in
    (b.0, suc a.0, b.1, omega arith, a.1, b.2)
