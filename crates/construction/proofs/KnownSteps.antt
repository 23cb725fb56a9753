-- Known sets: they depend on the counts of the seats alone, so arrays of counts give the same. Each law over plain values.
-- Assumes nothing.
use mathlib.Core.Path.{◌≡◌, refl, sym, ap, ap₂}
use mathlib.Core.Bool.{Bool, ◌&&◌, ◌||◌}
use mathlib.Core.List.{List}
use Prim.Native.Nat.{ℕ, zero, suc, ◌≤◌, ◌<◌}
use native.Mathlib.Omega.{arith}
use lib.Dec.{ltb}
use Rattle.farm.specs.Sets.{Seats, any}
use Rattle.farm.specs.declared.places.Time.{Time}
use Rattle.farm.proofs.SetLaws.{collect-equal, bit-collect}
use Rattle.knowledge.specs.Farm.{Farm}
use Rattle.knowledge.specs.Views.{View, view}
use Rattle.knowledge.specs.Known.{missed_at, missed, known_in}
use Rattle.viewing.specs.Counts.{room, counts, held, view_in, views_to, all_counts}
use Rattle.construction.specs.KnownSets.{known_sets}
use Rattle.construction.proofs.Turns.{turns}
use Rattle.viewing.proofs.ViewSteps.{view-in-all, counts-equal, held-counts}

pub any-equal : (n : ℕ) (f g : ℕ → Bool) → ((i : ℕ) → i < n → f i ≡ g i) → any n f ≡ any n g
unfolding any
any-equal zero f g h = refl
any-equal (suc n) f g h = ap₂ (λ (a b : Bool). a || b) (any-equal n f g (λ i l. h i (omega arith))) (h n (omega arith))

-- A known set depends on the counts of the seats alone.
pub known-equal : (farm : Farm) (v w : View) → ((q : ℕ) → q < farm.seats → v q ≡ w q) → known_in farm v ≡ known_in farm w
unfolding known_in missed missed_at
known-equal farm v w h =
    collect-equal farm.seats (missed farm v) (missed farm w)
    (λ z l. any-equal farm.seats (missed_at farm v z) (missed_at farm w z)
    (λ q g. ap (λ (count : ℕ). any count (λ r. ltb 0 r && farm.lost r z q)) (h q g)))

pub known-held : (farm : Farm) (v : View) (view : List ℕ) → farm.seats ≤ room → view ≡ counts farm.seats v
    → known_in farm (held view) ≡ known_in farm v
known-held farm v view small e = known-equal farm (held view) v (λ q h. rw e (held-counts farm.seats v q small h))

pub known_in-counts : (farm : Farm) (n : ℕ) (v : View) → n ≡ farm.seats → n ≤ room → known_in farm (held (counts n v)) ≡ known_in farm v
known_in-counts farm n v e small = known-held farm v (counts n v) (rw e at small) (ap (λ (m : ℕ). counts m v) e)

-- The table of all views has the known set of each seat's view.
abbrev pub known_from : Farm → (table : List ℕ) → ℕ → Seats
known_from farm table p = known_in farm (view_in table p)

pub counts-known_sets : (farm : Farm) (n : ℕ) (ℓ : Time) → n ≡ farm.seats → n ≤ room
    → counts n (known_sets farm ℓ) ≡ counts n (known_from farm (views_to farm ℓ.0 n))
unfolding known_sets
counts-known_sets farm n ℓ e large =
    let small = rw e at large in
    rw e
    (counts-equal farm.seats (known_sets farm ℓ) (known_from farm (all_counts farm ℓ.0))
    (λ p l. known-equal farm (view farm p ℓ.0) (view_in (all_counts farm ℓ.0) p) (λ q h. sym (view-in-all farm ℓ.0 p q small l h))))

-- By these the check proves the functions on known sets and losers by itself.
pub ruleset known_steps = (turns, bit-collect, known_in-counts, counts-known_sets)
