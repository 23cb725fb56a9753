-- The last of the edits held is the entry at the last place.
-- Assumes nothing.
use mathlib.Core.Path.{◌≡◌, refl, sym, ◌∙◌}
use mathlib.Core.List.{List, [], ◌∷◌, ◌++◌}
use Prim.Native.Nat.{ℕ, zero, suc, ◌-◌, ◌<◌, ◌≤◌}
use native.Mathlib.Omega.{arith}
use lib.IntN.{ℤ, pos}
use lib.ListN.{take, get_or}
use lib.Seq.{length-take-le, take-suc}
use Rattle.std.specs.Prelude.{Option, Some, None}
use Rattle.record.specs.Faults.{last_of}
use Rattle.record.specs.Tables.{edit_of, edits_from}
use Rattle.record.specs.declared.edits.Edit.{Edit}
use Rattle.live_table.proofs.ListLaws.{edits-from-append}
use Rattle.live_table.specs.Used.{used_record}
use Rattle.live_table.specs.declared.table.Table.{Table}
use Rattle.live_table.proofs.SoundLaws.{Arrays}
use Rattle.live_entries.specs.Held.{Held}

last-append : (before : Option Edit) (edits : List Edit) (e : Edit) → last_of before (edits ++ (e ∷ [])) ≡ Some e
unfolding last_of
last-append before [] e = refl
last-append before (x ∷ edits) e = last-append (Some x) edits e

module _ (who when where' : List ℕ) (heights : List ℤ) where
  pub last-of-none : None ≡ last_of None (edits_from (take 0 who) (take 0 when) (take 0 where') (take 0 heights))
  unfolding last_of edits_from
  last-of-none = refl

  pub last-of-some : (held : ℕ) → 0 < held → Held held who when where' heights
      → Some (edit_of (get_or who (held - 1) 0) (get_or when (held - 1) 0) (get_or where' (held - 1) 0) (get_or heights (held - 1) (pos 0)))
      ≡ last_of None (edits_from (take held who) (take held when) (take held where') (take held heights))
  last-of-some zero z h = absurd (omega arith)
  last-of-some (suc k) z h =
      let one : suc k - 1 ≡ k = omega arith in
      let a = length-take-le k who (omega arith) in
      let b = length-take-le k when (omega arith) in
      let c = length-take-le k where' (omega arith) in
      let d = length-take-le k heights (omega arith) in
      rw (
        one,
        take-suc who k 0 (omega arith),
        take-suc when k 0 (omega arith),
        take-suc where' k 0 (omega arith),
        take-suc heights k (pos 0) (omega arith),
        edits-from-append (take k who) (take k when) (take k where') (take k heights) (get_or who k 0) (get_or when k 0) (get_or where' k 0) (get_or heights k (pos 0)) (b ∙ sym a) (c ∙ sym a) (d ∙ sym a),
        last-append None (edits_from (take k who) (take k when) (take k where') (take k heights)) (edit_of (get_or who k 0) (get_or when k 0) (get_or where' k 0) (get_or heights k (pos 0))),
      )

-- The same of the edits that a table holds.
module _ (t : Table) where
  pub table-last-of-none : t.edits ≡ 0 → None ≡ last_of None (used_record t).edits
  unfolding used_record
  table-last-of-none e = rw e (last-of-none t.editors t.times t.cells t.changes)

  pub table-last-of-some : Arrays t → (at : ℕ) → t.edits ≡ suc at → t.edits ≤ 512
      → Some (edit_of (get_or t.editors at 0) (get_or t.times at 0) (get_or t.cells at 0) (get_or t.changes at (pos 0)))
      ≡ last_of None (used_record t).edits
  unfolding used_record
  table-last-of-some arrays at e held =
      let last : t.edits - 1 ≡ at = omega arith in
      let within : Held t.edits t.editors t.times t.cells t.changes = record { editors = omega arith; times = omega arith; cells = omega arith; changes = omega arith } in
      rw last at (last-of-some t.editors t.times t.cells t.changes t.edits (omega arith) within)
