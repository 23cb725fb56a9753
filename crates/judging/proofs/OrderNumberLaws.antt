-- Where an edit stands in the order, as one number; and what a loop knows that carries the least number of the next edit.
-- Assumes nothing.
use mathlib.Core.Path.{◌≡◌, refl, sym, ◌∙◌}
use mathlib.Core.Logic.{inl, inr, ⊎_elim}
use mathlib.Core.Bool.{Bool, true, false, not, true≢false}
use mathlib.Core.List.{List, ◌∷◌}
use Prim.Native.Nat.{ℕ, ◌+◌, ◌*◌, ◌<◌, ◌≤◌}
use native.Mathlib.Omega.{arith}
use lib.Dec.{ltb}
use borrow.Author.Tests.{lt-ltb, le-ltb, not-true, not-false}
use Rattle.std.specs.Prelude.{Option, None, Some}
use Rattle.farm.specs.Limits.{limits}
use Rattle.farm.specs.declared.refusals.Refusal.TheVariants.{BadOrder}
use Rattle.farm.proofs.Cases.{less-or-not}
use Rattle.record.specs.declared.edits.Edit.{Edit}
use Rattle.record.specs.Edits.{rises, follows}
use Rattle.record.specs.Good.{IsAfter, good_edit}
use Rattle.record.specs.Writing.{faulty, judged_edits}
use Rattle.record.proofs.GoodLaws.{edit-facts}
use Rattle.record.proofs.OrderLaws.{rises-elim, rises-intro}
use Rattle.judging.proofs.JudgingLaws.{order-stops, edit-on}

-- ════ The number ════

abbrev order_number : Edit → ℕ
order_number e = (e.time.0 * 256 + e.seat.0) * 4294967296 + e.cell

-- A seat and a cell as their types hold them.
abbrev Held : Edit → Type 0
Held e = (e.seat.0 < 256) × (e.cell < 4294967296)

module _ (a b : Edit) (ha : Held a) (hb : Held b) where
  less-after : IsAfter a b → order_number a < order_number b
  less-after (inl t) = omega (arith, ha.0, ha.1)
  less-after (inr (t, inl s)) = omega (arith, ha.1)
  less-after (inr (t, inr (s, c))) = omega arith

  after-less : order_number a < order_number b → IsAfter a b
  after-less h =
      ⊎_elim
      inl
      (λ t. inr (
        omega (arith, hb.0, hb.1),
        ⊎_elim inl (λ s. inr (omega (arith, hb.0, hb.1), omega (arith, hb.0, hb.1))) (less-or-not a.seat.0 b.seat.0),
      ))
      (less-or-not a.time.0 b.time.0)

  number-tells : ltb (order_number b) (order_number a + 1) ≡ not (rises a b)
  number-tells = by (rises a b) refl
    where
      by : (t : Bool) → rises a b ≡ t → ltb (order_number b) (order_number a + 1) ≡ not t
      by true e = let less = less-after (rises-elim a b e) in le-ltb _ _ (omega arith)
      by false e =
          ⊎_elim
          (λ h. absurd (true≢false (sym (rises-intro a b (after-less h)) ∙ e)))
          (λ h. lt-ltb _ _ (omega arith))
          (less-or-not (order_number a) (order_number b))

-- ════ The loop ════

-- For some edit before, the edits that are left decide as all do, and the least number tells which may follow.
pub record Walked (n R least : ℕ) (left all : List Edit) : Type 0 where
  pub before : Option Edit
  pub told : (e : Edit) → Held e → ltb (order_number e) least ≡ not (follows before e)
  pub same : judged_edits limits n R before left ≡ judged_edits limits n R None all

-- At first any edit may come.
pub walked-none : (n R : ℕ) (all : List Edit) → Walked n R 0 all all
unfolding follows
walked-none n R all = record { before = None; told = λ e h. le-ltb _ _ (omega arith); same = refl }

-- The first one that is left has a number below the least, which ends it, or it is the edit before from then on.
module _ {n R least number : ℕ} {e : Edit} {left edits all : List Edit} (next : left ≡ e ∷ edits) (is : number ≡ order_number e) (few : n < 256)
    (w : Walked n R least left all) (sound : good_edit limits n R e ≡ true) where
  held : Held e
  held = let f = edit-facts limits n R e sound in (omega (arith, f.seat), omega (arith, f.cell))

  pub number-stops : number < least → judged_edits limits n R None all ≡ faulty BadOrder
  number-stops h =
      let early = not-true _ (sym (w.told e held) ∙ lt-ltb _ _ (omega (arith, is))) in
      sym w.same ∙ rw next (order-stops limits n R w.before e edits sound early)

  pub number-on : {now : ℕ} → least ≤ number → now ≡ number + 1 → Walked n R now edits all
  unfolding follows
  number-on h step =
      let late = not-false _ (sym (w.told e held) ∙ le-ltb _ _ (omega (arith, is))) in
      record {
        before = Some e;
        told = λ after kept. rw (step, is) (number-tells e after held kept);
        same = edit-on limits n R w.before e edits sound late ∙ rw (← next) w.same;
      }
