-- The losses as one flat list: taking round by round is taking set by set, with the sender going round.
-- Assumes nothing.
use mathlib.Core.Path.{◌≡◌, refl, sym, ◌∙◌, ap}
use mathlib.Core.Bool.{Bool, true, false, cond}
use mathlib.Core.List.{List, [], ◌∷◌, ◌++◌, append_assoc}
use Prim.Native.Nat.{ℕ, zero, suc, ◌+◌, ◌*◌}
use native.Mathlib.Nat.{add-zero, add-suc, mul-zero, mul-suc}
use native.Mathlib.Omega.{arith}
use lib.Dec.{eqb}
use borrow.Author.Tests.{eq-eqb, ne_eqb}
use Rattle.farm.specs.Limits.{Limits}
use Rattle.farm.specs.Sets.{Seats}
use Rattle.farm.specs.declared.places.Seat.{Seat}
use Rattle.record.specs.Taking.{Taken, value, refused, ◌>>=◌}
use Rattle.record.specs.Losses.{first_seat, seat_after, take_set, take_round, take_rounds}
use Rattle.record.specs.Good.{sender_after}

-- A list that was taken goes in front of what is taken after it.
unfoldable pub joined : {A : Type 0} → List A → Taken (List A) → Taken (List A)
joined front (value more end) = value (front ++ more) end
joined front (refused r) = refused r

-- As many sets as are left, the first of them sent by the sender.
unfoldable pub take_sets : Limits → (n : ℕ) (sender : Seat) (left : ℕ) → List ℕ → Taken (List Seats)
take_sets L n sender zero bytes = value [] bytes
take_sets L n sender (suc left) bytes = do
  (set, rest) ← take_set L n sender bytes
  joined (set ∷ []) (take_sets L n (sender_after n sender) left rest)

pub bind-equal : {A B : Type 0} (t : Taken A) (f g : A × List ℕ → Taken B) → ((a : A) (rest : List ℕ) → f (a, rest) ≡ g (a, rest))
    → (t >>= f) ≡ (t >>= g)
unfolding ◌>>=◌
bind-equal (value a rest) f g e = e a rest
bind-equal (refused r) f g e = refl

pub joined-bind : {A : Type 0} (front : List A) (t : Taken (List A)) → (t >>= λ x. value (front ++ x.0) x.1) ≡ joined front t
unfolding ◌>>=◌ joined
joined-bind front (value more end) = refl
joined-bind front (refused r) = refl

pub joined-joined : {A : Type 0} (a b : List A) (t : Taken (List A)) → joined a (joined b t) ≡ joined (a ++ b) t
unfolding joined
joined-joined a b (value more end) = ap (λ (l : List _). value l end) (sym (append_assoc a b more))
joined-joined a b (refused r) = refl

pub joined-nil : {A : Type 0} (t : Taken (List A)) → joined [] t ≡ t
unfolding joined
joined-nil (value more end) = refl
joined-nil (refused r) = refl

module _ (L : Limits) (n : ℕ) where
  -- The sets of the rounds to come, after those of the round at hand.
  unfoldable and_then : ℕ → List Seats × List ℕ → Taken (List Seats)
  and_then k x = joined x.0 (take_sets L n first_seat k x.1)

  -- One set more in front of a round.
  moved : (set : Seats) (k : ℕ) (t : Taken (List Seats))
      → ((t >>= λ x. value (set ∷ x.0) x.1) >>= and_then k) ≡ joined (set ∷ []) (t >>= and_then k)
  unfolding ◌>>=◌ and_then joined
  moved set k (value sets end) = sym (joined-joined (set ∷ []) sets (take_sets L n first_seat k end))
  moved set k (refused r) = refl

  moved-set : (k : ℕ) (t : Taken Seats) (round flat : List ℕ → Taken (List Seats))
      → ((rest : List ℕ) → (round rest >>= and_then k) ≡ flat rest)
      → ((t >>= λ x. round x.1 >>= λ y. value (x.0 ∷ y.0) y.1) >>= and_then k) ≡ (t >>= λ x. joined (x.0 ∷ []) (flat x.1))
  unfolding ◌>>=◌
  moved-set k (value set rest) round flat e = moved set k (round rest) ∙ ap (joined (set ∷ [])) (e rest)
  moved-set k (refused r) round flat e = refl

  -- The rounds from the middle of one on.
  round-is-flat : (sender : Seat) (left k : ℕ) (bytes : List ℕ) → sender.0 + left ≡ n
      → (take_round L n sender left bytes >>= and_then k) ≡ take_sets L n (cond (eqb sender.0 n) first_seat sender) (k + left) bytes
  unfolding take_round take_sets ◌>>=◌ and_then sender_after
  round-is-flat sender zero k bytes h = rw (eq-eqb sender.0 n (omega arith), add-zero k) (joined-nil (take_sets L n first_seat k bytes))
  round-is-flat sender (suc left) k bytes h =
      rw (ne_eqb sender.0 n (omega arith), add-suc k left)
      (moved-set k (take_set L n sender bytes) (take_round L n (seat_after sender) left) (take_sets L n (sender_after n sender) (k + left))
      (λ rest. round-is-flat (seat_after sender) left k rest (omega arith)))

  pub rounds-are-flat : (R : ℕ) (bytes : List ℕ) → take_rounds L n R bytes ≡ take_sets L n first_seat (n * R) bytes
  unfolding take_rounds take_sets and_then
  rounds-are-flat zero bytes = rw (mul-zero n)
  rounds-are-flat (suc R) bytes =
      bind-equal (take_round L n first_seat n bytes) _ (and_then (n * R))
      (λ sets rest. joined-bind sets (take_rounds L n R rest) ∙ ap (joined sets) (rounds-are-flat R rest))
      ∙ round-is-flat first_seat n (n * R) bytes (omega arith)
      ∙ rw (first (eqb 0 n), mul-suc n R)
    where
      first : (t : Bool) → cond t first_seat first_seat ≡ first_seat
      first true = refl
      first false = refl
