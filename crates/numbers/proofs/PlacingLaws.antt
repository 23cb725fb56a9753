-- Bytes put into a buffer one run after the other are put there as one run.
-- Assumes nothing.
use mathlib.Core.Path.{◌≡◌, sym, ◌∙◌, ap, ap₂}
use mathlib.Core.List.{List, [], ◌∷◌, ◌++◌, append_assoc}
use Prim.Native.Nat.{ℕ, ◌+◌, ◌/◌, ◌%◌, ◌<◌, ◌≤◌}
use native.Mathlib.Numerals.{add-one}
use native.Mathlib.Nat.{add-zero, add_assoc}
use native.Mathlib.Omega.{arith}
use lib.ListN.{length, take, drop, set, length-append, length-take}
use lib.Seq.{take_at, drop-append-add, drop-drop, sets, sets-eq}
use Rattle.farm.specs.Limits.{limits}
use Rattle.record.specs.Numbers.{number_bytes}
use Rattle.record.specs.Tables.{over}
use Rattle.numbers.specs.Placing.{Put}
use Rattle.record.proofs.TableLaws.{over_none, length_over}
use Rattle.numbers.proofs.ByteLaws.{one_byte, two_bytes, three-bytes}

-- ════ One run after the other ════

pub over-sets : (at : ℕ) (new old : List ℕ) → at + length new ≤ length old → sets old at new ≡ over at new old
unfolding over
over-sets at new old h = sets-eq new old at h ∙ append_assoc (take at old) new (drop (at + length new) old)

pub over-on : (at : ℕ) (a b old : List ℕ) → at + length a ≤ length old → over (at + length a) b (over at a old) ≡ over at (a ++ b) old
unfolding over
over-on at a b old h =
    ap₂ (λ (x y : List ℕ). x ++ (b ++ y)) front back
    ∙ rw (append_assoc (take at old) a (b ++ drop (at + length a + length b) old), append_assoc a b, length-append a b, add_assoc)
  where
    whole : take at old ++ (a ++ drop (at + length a) old) ≡ take at old ++ a ++ drop (at + length a) old
    whole = sym (append_assoc (take at old) a (drop (at + length a) old))

    long : length (take at old ++ a) ≡ at + length a
    long = simp (length-append, length-take) (omega arith)

    front : take (at + length a) (take at old ++ (a ++ drop (at + length a) old)) ≡ take at old ++ a
    front = rw whole (take_at (take at old ++ a) (drop (at + length a) old) (at + length a) long)

    back : drop (at + length a + length b) (take at old ++ (a ++ drop (at + length a) old)) ≡ drop (at + length a + length b) old
    back =
        rw whole
        (rw long at (drop-append-add (take at old ++ a) (drop (at + length a) old) (length b)) ∙ drop-drop (length b) (at + length a) old)

module _ (at : ℕ) (a old : List ℕ) (m : ℕ) (mid : List ℕ) (first : Put at a old m mid) where
  pub put-long : at + length a ≤ length old → length mid ≡ length old
  put-long h = ap length first.holds ∙ length_over at a old h

  pub put-room : (b : List ℕ) → at + length (a ++ b) ≤ length old → m + length b ≤ length mid
  put-room b h =
      let parts = length-append a b in
      let long = put-long (omega arith) in
      let ends = first.ends in
      omega arith

  pub put_then : (b : List ℕ) (k : ℕ) (new : List ℕ) → Put m b mid k new → at + length (a ++ b) ≤ length old → Put at (a ++ b) old k new
  put_then b k new second h =
      let parts = length-append a b in
      let first-end = first.ends in
      let second-end = second.ends in
      record {
        ends = omega arith;
        holds = second.holds ∙ rw (first.ends, first.holds) (over-on at a b old (omega arith));
      }

-- ════ What a loop still owes ════

-- The rest put at the present place of the present buffer is the whole put at the first place of the old one.
pub record Owed (at : ℕ) (rest present : List ℕ) (from : ℕ) (all old : List ℕ) : Type 0 where
  pub ends : at + length rest ≡ from + length all
  pub holds : over at rest present ≡ over from all old
  pub long : length present ≡ length old

module _ (at : ℕ) (rest present : List ℕ) (from : ℕ) (all old : List ℕ) (owed : Owed at rest present from all old) where
  pub owed-done : rest ≡ [] → Put from all old at present
  owed-done e =
      let ends = rw e at owed.ends in
      record { ends = sym (add-zero at) ∙ ends; holds = sym (over_none at present) ∙ rw e at owed.holds }

  module _ (a b : List ℕ) (parts : rest ≡ a ++ b) (room : from + length all ≤ length old) where
    pub owed-room : at + length a ≤ length present
    owed-room =
        let sizes = ap length parts ∙ length-append a b in
        let ends = owed.ends in
        let long = owed.long in
        omega arith

    pub owed-next : (m : ℕ) (new : List ℕ) → Put at a present m new → Owed m b new from all old
    owed-next m new put =
        let sizes = ap length parts ∙ length-append a b in
        let ends = owed.ends in
        let next = put.ends in
        record {
          ends = omega arith;
          holds = rw (put.ends, put.holds) (over-on at a b present owed-room) ∙ ap (λ (x : List ℕ). over at x present) (sym parts) ∙ owed.holds;
          long = put-long at a present m new put owed-room ∙ owed.long;
        }

-- ════ A number ════

module _ (at v : ℕ) (old : List ℕ) (room : at + length (number_bytes limits v) ≤ length old) where
  pub put_one : v < 128 → Put at (number_bytes limits v) old (at + 1) (set old at v)
  put_one small =
      let same = one_byte v small in
      let size = ap length same in
      record { ends = omega arith; holds = rw same (over-sets at (v ∷ []) old (omega arith)) }

  pub put_two : 128 ≤ v → v / 128 < 128
      → Put at (number_bytes limits v) old (at + 1 + 1) (set (set old at (128 + v % 128)) (at + 1) (v / 128))
  put_two large small =
      let same = two_bytes v large small in
      let size = ap length same in
      record { ends = omega arith; holds = rw (same, add-one) (over-sets at ((128 + v % 128) ∷ v / 128 ∷ []) old (omega arith)) }

  pub put_three : 128 ≤ v → 128 ≤ v / 128
      → Put at (number_bytes limits v) old (at + 1 + 1 + 1)
      (set (set (set old at (128 + v % 128)) (at + 1) (128 + v / 128 % 128)) (at + 1 + 1) (v / 128 / 128))
  put_three large larger =
      let same = three-bytes v large larger in
      let size = ap length same in
      record {
        ends = omega arith;
        holds = rw (same, add-one (at + 1), add-one at)
            (over-sets at ((128 + v % 128) ∷ (128 + v / 128 % 128) ∷ v / 128 / 128 ∷ []) old (omega arith));
      }

-- ════ Three runs, and a fourth ════

module _ (at : ℕ) (a b c old : List ℕ) (room : at + length (a ++ b ++ c) ≤ length old) where
  room-two : at + length (a ++ b) ≤ length old
  room-two = let parts = length-append (a ++ b) c in omega arith

  pub first-room : at + length a ≤ length old
  first-room = let parts = length-append a b in let h = room-two in omega arith

  module _ (i : ℕ) (one : List ℕ) (first : Put at a old i one) where
    pub second-room : i + length b ≤ length one
    second-room = put-room at a old i one first b room-two

    module _ (j : ℕ) (two : List ℕ) (second : Put i b one j two) where
      both : Put at (a ++ b) old j two
      both = put_then at a old i one first b j two second room-two

      pub third-room : j + length c ≤ length two
      third-room = put-room at (a ++ b) old j two both c room

      pub all_three : (k : ℕ) (three : List ℕ) → Put j c two k three → Put at (a ++ b ++ c) old k three
      all_three k three third = put_then at (a ++ b) old j two both c k three third room

pub front-room : (at : ℕ) (a b c d old : List ℕ) → at + length (a ++ b ++ c ++ d) ≤ length old → at + length (a ++ b ++ c) ≤ length old
front-room at a b c d old room = let parts = length-append (a ++ b ++ c) d in omega arith
