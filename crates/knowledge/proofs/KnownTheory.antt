-- What a known set says about deliveries: each law takes a lost send from one place to another, by known_elim and known_intro.
-- Assumes nothing.
use mathlib.Core.Path.{◌≡◌}
use mathlib.Core.Bool.{false}
use Prim.Native.Nat.{ℕ, suc, ◌^◌, ◌≤◌, ◌<◌}
use native.Mathlib.Nat.{le_trans}
use native.Mathlib.Omega.{arith}
use Rattle.farm.specs.Sets.{bit}
use Rattle.farm.proofs.Cases.{false-back}
use Rattle.farm.proofs.SetLaws.{Subset, collect-below}
use Rattle.knowledge.specs.Farm.{Farm, time, losers_by}
use Rattle.knowledge.specs.Views.{View, view}
use Rattle.knowledge.specs.Known.{missed, known_in}
use Rattle.knowledge.proofs.ViewLaws.{view-receives}
use Rattle.knowledge.proofs.KnownLaws.{known_intro, known_elim, loser-intro, loser-elim}
use Rattle.knowledge.proofs.ViewTheory.{view-grows, view-past, Closed}

-- A known set is one of seats below n.
pub known-below : (farm : Farm) (v : View) → known_in farm v < 2 ^ farm.seats
unfolding known_in
known-below farm v = collect-below farm.seats (missed farm v)

-- A larger view knows more.
pub known-grows : (farm : Farm) (v w : View) → ((q j : ℕ) → j < v q → j < w q) → Subset farm.seats (known_in farm v) (known_in farm w)
known-grows farm v w inside z hz e =
    let k = known_elim farm v z hz e in
    known_intro farm w z k.0 k.1 hz k.2 k.3 (inside k.0 k.1 k.4) k.5

-- Whoever is known is a loser by then.
pub known-lost : (farm : Farm) (p ℓ : ℕ) → Subset farm.seats (known_in farm (view farm p ℓ)) (losers_by farm (time ℓ))
known-lost farm p ℓ z hz e =
    let k = known_elim farm (view farm p ℓ) z hz e in
    loser-intro farm ℓ z k.0 k.1 hz k.2 k.3 (view-past farm p ℓ k.0 k.1 k.4) k.5

pub losers-grow : (farm : Farm) (k ℓ : ℕ) → k ≤ ℓ → Subset farm.seats (losers_by farm (time k)) (losers_by farm (time ℓ))
losers-grow farm k ℓ h z hz e =
    let w = loser-elim farm k z hz e in
    loser-intro farm ℓ z w.0 w.1 hz w.2 w.3 (le_trans w.4 h) w.5

-- Who is not known in a closed view has delivered to each of its places.
pub unknown-delivers : (farm : Farm) (v : View) → Closed farm v → (q g j x : ℕ) → q < farm.seats → g < farm.seats
    → suc j < v q → bit (known_in farm v) g ≡ false → view farm g j x ≤ v x
unknown-delivers farm v closed q g j x hq hg seen f =
    let arrived : farm.lost (suc j) g q ≡ false =
    false-back (farm.lost (suc j) g q) (bit (known_in farm v) g) (known_intro farm v g q (suc j) hg hq (omega arith) seen) f in
    le_trans (view-receives farm q g j x hg arrived) (closed q (suc j) seen x)

-- A clean seat delivers to everyone.
pub clean-delivers : (farm : Farm) (ℓ q g j x : ℕ) → q < farm.seats → g < farm.seats → suc j ≤ ℓ
    → bit (losers_by farm (time ℓ)) g ≡ false → view farm g j x ≤ view farm q (suc j) x
clean-delivers farm ℓ q g j x hq hg done f =
    let arrived : farm.lost (suc j) g q ≡ false =
    false-back (farm.lost (suc j) g q) (bit (losers_by farm (time ℓ)) g) (loser-intro farm ℓ g q (suc j) hg hq (omega arith) done) f in
    view-receives farm q g j x hg arrived

-- So everyone's view has the views of a clean seat, the last round apart.
pub clean-seen : (farm : Farm) (ℓ q g j x : ℕ) → q < farm.seats → g < farm.seats → j < ℓ
    → bit (losers_by farm (time ℓ)) g ≡ false → view farm g j x ≤ view farm q ℓ x
clean-seen farm ℓ q g j x hq hg done f = le_trans (clean-delivers farm ℓ q g j x hq hg done f) (view-grows farm q (suc j) ℓ x done)
