-- The table of all views: what stands where in it, how it is filled in, and the views that it gives. Each law over plain values.
-- Assumes nothing.
use mathlib.Core.Path.{◌≡◌, refl, sym, ◌∙◌, ap, ap₂}
use mathlib.Core.Logic.{◌⊎◌, inl, inr, ⊎_elim, ◌≢◌}
use mathlib.Core.Bool.{Bool, true, false, cond}
use mathlib.Core.List.{List, []}
use Prim.Native.Nat.{ℕ, zero, suc, ◌+◌, ◌*◌, ◌/◌, ◌%◌, ◌≤◌, ◌<◌, max}
use native.Mathlib.Nat.{eq-or-lt_of_le}
use native.Mathlib.Numerals.{add-one}
use native.Mathlib.Omega.{arith}
use lib.IntN.{pos}
use lib.ListN.{length, get_or, set, replicate, length-set}
use lib.Seq.{get_or-set_same, get_or-set_other}
use borrow.Author.Tests.{eq-eqb, ne_eqb}
use Rattle.farm.specs.Sets.{Seats, bit}
use Rattle.farm.proofs.Cases.{less-or-not, equal_or_not}
use Rattle.farm.proofs.SetLaws.{bit-collect}
use Rattle.knowledge.specs.Farm.{Farm, farm_of}
use Rattle.knowledge.specs.Views.{View, up_to, joined, view, views_of}
use Rattle.viewing.specs.Counts.{room, below, filled, counts, held, both, view_in, arrives, arrivals, count_at, counts_to, views_to, all_counts, first_counts}
use Rattle.viewing.proofs.CountLaws.{below_in, below_out, filled_none, filled_more, filled-skip, filled-equal, get_or-filled, is-tabulated, length-filled}
use Rattle.viewing.proofs.Turns.{turns, joined-zero, joined_next}

-- ════ Places in the table of all views ════

-- What stands at p * room + q.
pub count-at : (farm : Farm) (k p q : ℕ) → q < room → count_at farm k (p * room + q) ≡ below farm.seats (view farm p k) q
unfolding count_at
count-at farm k p q h =
    let row : (p * room + q) / room ≡ p = omega arith in
    let column : (p * room + q) % room ≡ q = omega arith in
    rw (row, column) refl

pub count-at-seat : (farm : Farm) (k p q : ℕ) → farm.seats ≤ room → q < farm.seats → count_at farm k (p * room + q) ≡ view farm p k q
count-at-seat farm k p q small h = count-at farm k p q (omega arith) ∙ below_in farm.seats (view farm p k) q h

-- Between the last seat and the end of p's part stands 0.
pub count_past : (farm : Farm) (k p j : ℕ) → p * room + farm.seats ≤ j → j < p * room + room → count_at farm k j ≡ 0
unfolding count_at
count_past farm k p j low high =
    let column : farm.seats ≤ j % room = omega arith in
    below_out farm.seats (view farm (j / room) k) (j % room) column

-- The table of all views has each seat's view.
pub view-in-all : (farm : Farm) (k p q : ℕ) → farm.seats ≤ room → p < farm.seats → q < farm.seats
    → view_in (all_counts farm k) p q ≡ view farm p k q
unfolding view_in counts_to
view-in-all farm k p q small hp hq =
    get_or-filled (room * room) (farm.seats * room) (count_at farm k) (p * room + q) (omega arith)
    ∙ below_in (farm.seats * room) (count_at farm k) (p * room + q) (omega arith)
    ∙ count-at-seat farm k p q small hq

pub counts-zero : (farm : Farm) (k : ℕ) → counts_to farm k 0 ≡ replicate (room * room) 0
unfolding counts_to
counts-zero farm k = sym (filled_none (room * room) (count_at farm k))

-- ════ Filling in p's view ════

pub joined-equal : (n : ℕ) (f g : ℕ → Bool) (u v : ℕ → View) (q : ℕ) → ((s : ℕ) → s < n → f s ≡ g s)
    → ((s : ℕ) → s < n → u s q ≡ v s q) → joined n f u q ≡ joined n g v q
unfolding joined
joined-equal zero f g u v q e h = refl
joined-equal (suc n) f g u v q e h =
    ap₂ max (joined-equal n f g u v q (λ s l. e s (omega arith)) (λ s l. h s (omega arith)))
    (ap₂ (λ (b : Bool) (x : ℕ). cond b x 0) (e n (omega arith)) (h n (omega arith)))

-- The count that `next_count` finds is the one of rule 1.
pub next-is-view : (farm : Farm) (k p q : ℕ) → farm.seats ≤ room → p < farm.seats → q < farm.seats
    → max (max (up_to p (suc k) q) (view_in (all_counts farm k) p q))
    (joined farm.seats (bit (arrivals farm (suc k) p)) (view_in (all_counts farm k)) q)
    ≡ view farm p (suc k) q
unfolding view arrivals
next-is-view farm k p q small hp hq =
    ap₂ (λ (x y : ℕ). max (max (up_to p (suc k) q) x) y) (view-in-all farm k p q small hp hq)
    (joined-equal farm.seats (bit (arrivals farm (suc k) p)) (arrives farm (suc k) p) (view_in (all_counts farm k)) (λ s. view farm s k) q
    (λ s l. bit-collect farm.seats (arrives farm (suc k) p) s l) (λ s l. view-in-all farm k s q small l hq))

pub fill_next : (farm : Farm) (k p q : ℕ) → farm.seats ≤ room → p < farm.seats → q < farm.seats
    → counts_to farm (suc k) (p * room + (q + 1))
    ≡ set (counts_to farm (suc k) (p * room + q)) (p * room + q)
    (max (max (up_to p (suc k) q) (view_in (all_counts farm k) p q)) (joined farm.seats (bit (arrivals farm (suc k) p)) (view_in (all_counts farm k)) q))
unfolding counts_to
fill_next farm k p q small hp hq =
    let one_more : p * room + (q + 1) ≡ suc (p * room + q) = omega arith in
    rw one_more
    (sym (filled_more (room * room) (p * room + q) (count_at farm (suc k)) _ (omega arith)
    (next-is-view farm k p q small hp hq ∙ sym (count-at-seat farm (suc k) p q small hq))))

pub fill_end : (farm : Farm) (k p q : ℕ) → farm.seats ≤ room → q ≡ farm.seats → counts_to farm k (p * room + q) ≡ views_to farm k (suc p)
unfolding counts_to
fill_end farm k p q small e =
    let next-part : suc p * room ≡ p * room + room = omega arith in
    rw (e, next-part)
    (filled-skip (room * room) (p * room + farm.seats) (p * room + room) (count_at farm k) (omega arith) (λ j low high. count_past farm k p j low high))

-- ════ Time 0 ════

pub first-zero : (n p j : ℕ) → p * room ≤ j → j < p * room + room → j ≢ p * room + p → count_at (farm_of n 0 0 []) 0 j ≡ 0
unfolding count_at view up_to
first-zero n p j low high other = by (less-or-not (j % room) n)
  where
    elsewhere : j % room ≢ j / room
    elsewhere e = other (omega arith)

    by : (j % room < n) ⊎ (n ≤ j % room) → below n (view (farm_of n 0 0 []) (j / room) 0) (j % room) ≡ 0
    by (inl h) = below_in n (view (farm_of n 0 0 []) (j / room) 0) (j % room) h ∙ (rw (ne_eqb (j % room) (j / room) elsewhere) refl)
    by (inr h) = below_out n (view (farm_of n 0 0 []) (j / room) 0) (j % room) h

pub first_one : (n p : ℕ) → n ≤ room → p < n → 1 ≡ count_at (farm_of n 0 0 []) 0 (p * room + p)
unfolding view up_to
first_one n p small h = sym (count-at-seat (farm_of n 0 0 []) 0 p p small h ∙ (rw (eq-eqb p p refl) refl))

pub first_next : (n p : ℕ) → n ≤ room → p < n
    → views_to (farm_of n 0 0 []) 0 (p + 1) ≡ set (views_to (farm_of n 0 0 []) 0 p) (p * room + p) 1
unfolding counts_to
first_next n p small h =
    sym (ap (λ (l : List ℕ). set l (p * room + p) 1) (filled-skip (room * room) (p * room) (p * room + p) f (omega arith) before)
    ∙ filled_more (room * room) (p * room + p) f 1 (omega arith) (first_one n p small h)
    ∙ filled-skip (room * room) (suc (p * room + p)) ((p + 1) * room) f (omega arith) after)
  where
    f : ℕ → ℕ
    f = count_at (farm_of n 0 0 []) 0

    before : (j : ℕ) → p * room ≤ j → j < p * room + p → f j ≡ 0
    before j low high = first-zero n p j low (omega arith) (λ same. let no : ⊥ = omega arith in absurd no)

    after : (j : ℕ) → suc (p * room + p) ≤ j → j < (p + 1) * room → f j ≡ 0
    after j low high = first-zero n p j (omega arith) (omega arith) (λ same. let no : ⊥ = omega arith in absurd no)

-- The same for every table of losses.
pub first-all : (farm : Farm) (n : ℕ) → n ≡ farm.seats → views_to farm 0 n ≡ first_counts n
unfolding first_counts counts_to count_at below view
first-all farm n e =
    rw e
    (filled-equal (room * room) (farm.seats * room) (farm.seats * room) (count_at farm 0) (count_at (farm_of farm.seats 0 0 []) 0) (λ j h. refl))

-- ════ Views out of the table ════

pub counts-equal : (n : ℕ) (v w : View) → ((q : ℕ) → q < n → v q ≡ w q) → counts n v ≡ counts n w
unfolding counts
counts-equal n v w same = filled-equal room n n v w (λ q h. by q (less-or-not q n))
  where
    by : (q : ℕ) → (q < n) ⊎ (n ≤ q) → below n v q ≡ below n w q
    by q (inl l) = below_in n v q l ∙ same q l ∙ sym (below_in n w q l)
    by q (inr l) = below_out n v q l ∙ sym (below_out n w q l)

pub counts-view : (farm : Farm) (n k p : ℕ) → n ≡ farm.seats → n ≤ room → p < n
    → counts n (view farm p k) ≡ counts n (view_in (views_to farm k n) p)
counts-view farm n k p e small hp =
    rw e
    (counts-equal farm.seats (view farm p k) (view_in (all_counts farm k) p)
    (λ q h. sym (view-in-all farm k p q (rw e at small) (rw e at hp) h)))

pub counts-views_of : (farm : Farm) (n k : ℕ) (set : Seats) → n ≡ farm.seats → n ≤ room
    → counts n (views_of farm set (pos k)) ≡ counts n (joined n (bit set) (view_in (views_to farm k n)))
unfolding views_of
counts-views_of farm n k set e large =
    let small = rw e at large in
    rw e (counts-equal farm.seats (views_of farm set (pos k)) (joined farm.seats (bit set) (view_in (all_counts farm k)))
    (λ q h. joined-equal farm.seats (bit set) (bit set) (λ p. view farm p k) (view_in (all_counts farm k)) q (λ s l. refl) (λ s l. sym (view-in-all farm k s q small l h))))

-- An array of counts holds the view.
pub held-counts : (n : ℕ) (v : View) (q : ℕ) → n ≤ room → q < n → held (counts n v) q ≡ v q
unfolding held counts
held-counts n v q small h = get_or-filled room n v q (omega arith) ∙ below_in n v q h

pub counts-at : (n : ℕ) (v : View) (q : ℕ) → n ≤ room → q < n → get_or (counts n v) q 0 ≡ v q
unfolding held
counts-at n v q small h = held-counts n v q small h

-- ════ Rows joined one by one ════

-- With no row joined every count is 0.
pub rows-none : (n : ℕ) (test : ℕ → Bool) (views : ℕ → View) → counts n (joined 0 test views) ≡ replicate room 0
unfolding counts
rows-none n test views =
    filled-equal room n 0 nothing nothing (λ j h. by j (less-or-not j n)) ∙ sym (filled_none room nothing)
  where
    nothing : View
    nothing = joined 0 test views

    by : (j : ℕ) → (j < n) ⊎ (n ≤ j) → below n nothing j ≡ below 0 nothing j
    by j (inl l) = below_in n nothing j l ∙ joined-zero test views j ∙ sym (below_out 0 nothing j (omega arith))
    by j (inr l) = below_out n nothing j l ∙ sym (below_out 0 nothing j (omega arith))

-- A row joins where its seat passes the test, and changes nothing where it does not.
pub rows_more : (n p : ℕ) (test : ℕ → Bool) (views : ℕ → View) → n ≤ room → test p ≡ true
    → counts n (joined (p + 1) test views) ≡ counts n (both (held (counts n (joined p test views))) (views p))
unfolding both
rows_more n p test views small e =
    counts-equal n (joined (p + 1) test views) (both (held (counts n (joined p test views))) (views p))
    (λ q h. joined_next p test views q ∙ (rw (e, held-counts n (joined p test views) q small h) refl))

pub rows_same : (n p : ℕ) (test : ℕ → Bool) (views : ℕ → View) → test p ≡ false
    → counts n (joined (p + 1) test views) ≡ counts n (joined p test views)
rows_same n p test views e =
    counts-equal n (joined (p + 1) test views) (joined p test views)
    (λ q h. joined_next p test views q ∙ (rw e (omega arith)))

-- A list of as many counts as there is room for is a view's, where it has the view's count of each seat.
pub is-counts : (v : View) (l : List ℕ) → length l ≡ room → ((q : ℕ) → q < room → get_or l q 0 ≡ v q) → l ≡ counts room v
unfolding counts filled
is-counts v l e same = is-tabulated room (below room v) l e (λ q h. same q h ∙ sym (below_in room v q h))

pub length-counts : (v : View) → length (counts room v) ≡ room
unfolding counts
length-counts v = length-filled room room v

-- A view while a row joins it: the counts below q are joined.
pub row-none : (l : List ℕ) (w : View) → length l ≡ room → counts room (both (held l) (below 0 w)) ≡ l
unfolding both held
row-none l w e = sym (is-counts (both (held l) (below 0 w)) l e (λ q h. stays q))
  where
    stays : (q : ℕ) → get_or l q 0 ≡ both (held l) (below 0 w) q
    stays q = rw (below_out 0 w q (omega arith)) (omega arith)

pub row_next : (v w : View) (q : ℕ) → q < room
    → counts room (both v (below (q + 1) w)) ≡ set (counts room (both v (below q w))) q (max (get_or (counts room (both v (below q w))) q 0) (w q))
unfolding both
row_next v w q h =
    sym (is-counts (both v (below (q + 1) w)) (set (counts room before) q x)
    (length-set (counts room before) q x ∙ length-counts before)
    (λ j g. by j g (equal_or_not j q)))
  where
    before : View
    before = both v (below q w)

    x : ℕ
    x = max (get_or (counts room before) q 0) (w q)

    here : q < length (counts room before)
    here = rw (length-counts before) h

    joins : x ≡ both v (below (q + 1) w) q
    joins = rw (counts-at room before q (omega arith) h, below_out q w q (omega arith), below_in (q + 1) w q (omega arith)) (omega arith)

    past : (j : ℕ) → j ≢ q → q ≤ j → q + 1 ≤ j
    past j other l = ⊎_elim (λ same. absurd (other (sym same))) (λ more. rw add-one more) (eq-or-lt_of_le l)

    kept : (j : ℕ) → j ≢ q → (j < q) ⊎ (q ≤ j) → both v (below q w) j ≡ both v (below (q + 1) w) j
    kept j other (inl l) = rw (below_in q w j l, below_in (q + 1) w j (omega arith)) refl
    kept j other (inr l) = rw (below_out q w j l, below_out (q + 1) w j (past j other l)) refl

    by : (j : ℕ) → j < room → (j ≡ q) ⊎ (j ≢ q) → get_or (set (counts room before) q x) j 0 ≡ both v (below (q + 1) w) j
    by j g (inl same) = rw same (get_or-set_same (counts room before) q x 0 here ∙ joins)
    by j g (inr other) = get_or-set_other (counts room before) q j x 0 other ∙ counts-at room before j (omega arith) g ∙ kept j other (less-or-not j q)

pub row_end : (v w : View) (q : ℕ) → q ≡ room → counts room (both v (below q w)) ≡ counts room (both v w)
unfolding both
row_end v w q e = rw e (counts-equal room (both v (below room w)) (both v w) (λ j h. rw (below_in room w j h) refl))

-- By these the check proves the loops over the table of all views by itself.
pub ruleset view_steps = (turns, counts-zero, fill_next, fill_end, first_next, first-all, counts-view, counts-views_of, counts-at, rows-none, rows_more, rows_same, row-none, row_next, row_end)
