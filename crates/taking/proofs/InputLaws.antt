-- What follows an answer of `read`, by the cases of the code. Assumes nothing.
use Rattle.std.proofs.Common.{◌≡◌, refl, ap, ℕ, zero, suc, ◌+◌, ◌-◌, ◌≤◌, Bool, true, false, cond, ltb, ◌<◌, ◌⊎◌, inl, inr, add-zero, arith, Result, Ok, Err, ControlFlow, Continue, Break}
use Rattle.std.specs.declared.io.Error.{Error}
use borrow.Author.Tests.{le-ltb, lt-ltb}
use Rattle.record.proofs.LengthLaws.{longest-length}
use Rattle.taking.specs.Input.{Within, input_room, next_of}

-- Document 01's number: the longest good record has 4,990 bytes.
pub room-is : input_room ≡ 4991
room-is = ap suc longest-length

pub failed : (taken : ℕ) {got : Result ℕ Error} {failure : Error} → got ≡ Err failure → Err failure ≡ next_of taken got
unfolding next_of
failed taken e = rw e

pub over : (taken count : ℕ) {got : Result ℕ Error} → got ≡ Ok count → (count ≡ 0) ⊎ ((count ≡ 0 → ⊥) × (4991 ≤ taken + count))
    → Ok (Break (taken + count)) ≡ next_of taken got
unfolding next_of
over taken zero e last = rw e (ap (λ now. Ok (Break now)) (add-zero taken))
over taken (suc n) e (inl none) = absurd (cc)
over taken (suc n) e (inr full) = rw (e, le-ltb (taken + suc n) input_room (omega (arith, room-is, full.1))) refl

pub more : (taken count : ℕ) {got : Result ℕ Error} → got ≡ Ok count → (count ≡ 0 → ⊥) → taken + count < 4991
    → Ok (Continue (taken + count)) ≡ next_of taken got
unfolding next_of
more taken zero e some room = absurd (some refl)
more taken (suc n) e some room = rw (e, lt-ltb (taken + suc n) input_room (omega (arith, room-is))) refl

-- By these the check proves what follows each answer of `read` by itself.
pub ruleset read_steps = (room-is, failed, over, more)

-- ════ How many bytes are taken then ════

module _ (taken : ℕ) (room : taken ≤ input_room) where
  -- Where it goes on, more bytes are taken, and no more than there is room for.
  pub goes_on : (now : ℕ) (got : Result ℕ Error) → Within (input_room - taken) got → next_of taken got ≡ Ok (Continue now)
      → (taken < now) × (now ≤ input_room)
  unfolding next_of
  goes_on now (Err failure) few e = absurd (cc)
  goes_on now (Ok zero) few e = absurd (cc)
  goes_on now (Ok (suc k)) few e = by (ltb (taken + suc k) input_room) e
    where
      by : (b : Bool) → ◌≡◌ {A = Result (ControlFlow ℕ ℕ) Error} (Ok (cond b (Continue (taken + suc k)) (Break (taken + suc k)))) (Ok (Continue now))
          → (taken < now) × (now ≤ input_room)
      by true is = let same : now ≡ taken + suc k = cc in (omega arith, omega arith)
      by false is = absurd (cc)

  -- Where it ends, no more are taken either.
  pub over-within : (all : ℕ) (got : Result ℕ Error) → Within (input_room - taken) got → next_of taken got ≡ Ok (Break all) → all ≤ input_room
  unfolding next_of
  over-within all (Err failure) few e = absurd (cc)
  over-within all (Ok zero) few e = let same : all ≡ taken = cc in omega arith
  over-within all (Ok (suc k)) few e = by (ltb (taken + suc k) input_room) e
    where
      by : (b : Bool) → ◌≡◌ {A = Result (ControlFlow ℕ ℕ) Error} (Ok (cond b (Continue (taken + suc k)) (Break (taken + suc k)))) (Ok (Break all)) → all ≤ input_room
      by true is = absurd (cc)
      by false is = let same : all ≡ taken + suc k = cc in omega arith
