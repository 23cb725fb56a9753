-- The edits as they are looked through: edit by edit, and where the next one begins.
-- Assumes nothing.
use Rattle.std.specs.Prelude.{Ok, Err, Option, Some}
use mathlib.Core.Path.{◌≡◌, sym}
use mathlib.Core.Bool.{true, false}
use mathlib.Core.List.{List, ◌∷◌}
use Prim.Native.Nat.{ℕ, suc, ◌+◌, ◌-◌, ◌<◌, ◌≤◌}
use native.Mathlib.Omega.{arith}
use lib.ListN.{length, drop}
use Rattle.farm.specs.Limits.{Limits, limits}
use Rattle.farm.specs.declared.refusals.Refusal.{Refusal}
use Rattle.farm.specs.declared.refusals.Refusal.TheVariants.{BadOrder}
use Rattle.record.specs.declared.edits.Edit.{Edit}
use Rattle.numbers.specs.declared.read.Cursor.{Cursor}
use Rattle.record.specs.Taking.{value, refused, ◌>>=◌, when}
use Rattle.record.specs.Edits.{follows, take_edit, take_edits}
use Rattle.numbers.specs.Cursors.{read_in, passed_in}
use Rattle.record.proofs.TakingLaws.{tail-trans, tail-of-drop}
use Rattle.record.proofs.EditLaws.{edit-tail}
use Rattle.numbers.proofs.CursorLaws.{cursor-drop, Placed, read-was, passed-mapped}

-- ════ Edits, as far as they are only looked through ════

-- A loop over the edits: one edit further, stopped by a refusal, out of order, and done.
module _ (L : Limits) (all : List ℕ) (n R edits done : ℕ) (before : Option Edit) (bytes : List ℕ) (here : done < edits) where
  left : edits - done ≡ suc (edits - (done + 1))
  left = omega arith

  pub edits-on : (e : Edit) (rest : List ℕ) → take_edit L n R bytes ≡ value e rest → follows before e ≡ true
      → passed_in all (take_edits L n R (edits - (done + 1)) (Some e) rest) ≡ passed_in all (take_edits L n R (edits - done) before bytes)
  unfolding take_edits ◌>>=◌ when
  edits-on e rest q f = rw (left, q, f) (sym (passed-mapped all (take_edits L n R (edits - (done + 1)) (Some e) rest) (λ later. e ∷ later)))

  pub edits-stop : (r : Refusal) → take_edit L n R bytes ≡ refused r
      → passed_in all (take_edits L n R (edits - done) before bytes) ≡ Err r
  unfolding take_edits passed_in ◌>>=◌
  edits-stop r q = rw (left, q)

  pub edits-disorder : (e : Edit) (rest : List ℕ) → take_edit L n R bytes ≡ value e rest → follows before e ≡ false
      → passed_in all (take_edits L n R (edits - done) before bytes) ≡ Err BadOrder
  unfolding take_edits passed_in ◌>>=◌ when
  edits-disorder e rest q f = rw (left, q, f)

pub edits-end : (L : Limits) (all : List ℕ) (n R edits done : ℕ) (before : Option Edit) (at : ℕ) → edits ≤ done → at ≤ length all
    → passed_in all (take_edits L n R (edits - done) before (drop at all)) ≡ Ok (record { at = at })
unfolding take_edits passed_in
edits-end L all n R edits done before at h l = let none : edits - done ≡ 0 = omega arith in rw (none, cursor-drop all at l)

-- ════ At a cursor ════

pub edit-was : (n R : ℕ) (bytes : List ℕ) (at : ℕ) (e : Edit) (next : Cursor) → read_in bytes (take_edit limits n R (drop at bytes)) ≡ Ok (e, next)
    → Placed bytes (take_edit limits n R (drop at bytes)) e next.at
edit-was n R bytes at e next p =
    read-was bytes (take_edit limits n R (drop at bytes)) e next
    (λ w rest f. tail-trans (edit-tail limits n R (drop at bytes) w rest f) (tail-of-drop at bytes)) p
