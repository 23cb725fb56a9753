-- The laws of edits: the four fields of one, and a list of them, edit by edit.
-- Assumes nothing.
use mathlib.Core.Path.{◌≡◌, sym, ◌∙◌, ap}
use mathlib.Core.List.{List}
use Prim.Native.Nat.{ℕ, zero, suc, ◌-◌}
use Rattle.std.specs.Prelude.{Option, Some}
use Rattle.farm.specs.Limits.{Limits}
use Rattle.farm.specs.declared.refusals.Refusal.TheVariants.{BadOrder}
use Rattle.record.specs.declared.edits.Edit.{Edit}
use Rattle.record.specs.Taking.{value, when}
use Rattle.record.specs.Numbers.{take_within}
use Rattle.record.specs.Changes.{mapped, unmapped}
use Rattle.record.specs.Edits.{follows, take_edit, take_edits}
use Rattle.record.proofs.TakingLaws.{bind-value, when-value, Tail, tail_all, tail-trans}
use Rattle.record.proofs.NumberLaws.{within-tail}
use Rattle.record.proofs.ChangeLaws.{mapped-unmapped}

-- ════ One edit ════

module _ (L : Limits) where
  -- The four numbers of an edit, one after the other.
  pub record EditTook (n R : ℕ) (bytes : List ℕ) (e : Edit) (rest : List ℕ) : Type 0 where
    pub after-seat : List ℕ
    pub after-time : List ℕ
    pub after-cell : List ℕ
    pub seat : take_within L 0 (n - 1) bytes ≡ value e.seat.0 after-seat
    pub time : take_within L 0 R after-seat ≡ value e.time.0 after-time
    pub cell : take_within L 0 L.largest_cell after-time ≡ value e.cell after-cell
    pub change : take_within L 0 L.largest_mapped_change after-cell ≡ value (mapped e.change) rest

  pub edit-took : (n R : ℕ) (bytes : List ℕ) (e : Edit) (rest : List ℕ) → take_edit L n R bytes ≡ value e rest → EditTook n R bytes e rest
  unfolding take_edit
  edit-took n R bytes e rest q =
      let s = bind-value (take_within L 0 (n - 1) bytes) _ e rest q in
      let t = bind-value (take_within L 0 R s.1) _ e rest s.3 in
      let c = bind-value (take_within L 0 L.largest_cell t.1) _ e rest t.3 in
      let d = bind-value (take_within L 0 L.largest_mapped_change c.1) _ e rest c.3 in
      let made : record { seat = record { 0 = s.0 }; time = record { 0 = t.0 }; cell = c.0; change = unmapped d.0 } ≡ e = cc in
      let ends : d.1 ≡ rest = cc in
      by s.0 t.0 c.0 d.0 s.1 t.1 c.1 made s.2 t.2 c.2 (d.2 ∙ ap (value d.0) ends)
    where
      by : (s t c d : ℕ) (after-seat after-time after-cell : List ℕ)
          → record { seat = record { 0 = s }; time = record { 0 = t }; cell = c; change = unmapped d } ≡ e
          → take_within L 0 (n - 1) bytes ≡ value s after-seat
          → take_within L 0 R after-seat ≡ value t after-time
          → take_within L 0 L.largest_cell after-time ≡ value c after-cell
          → take_within L 0 L.largest_mapped_change after-cell ≡ value d rest
          → EditTook n R bytes e rest
      by s t c d after-seat after-time after-cell made p u v w =
          rw (← made)
          (record {
            after-seat = after-seat;
            after-time = after-time;
            after-cell = after-cell;
            seat = p;
            time = u;
            cell = v;
            change = w ∙ ap (λ (k : ℕ). value k rest) (sym (mapped-unmapped d));
          })

  pub edit-tail : (n R : ℕ) (bytes : List ℕ) (e : Edit) (rest : List ℕ) → take_edit L n R bytes ≡ value e rest → Tail rest bytes
  edit-tail n R bytes e rest q =
      let w = edit-took n R bytes e rest q in
      tail-trans (within-tail L _ _ _ _ _ w.change)
      (tail-trans (within-tail L _ _ _ _ _ w.cell) (tail-trans (within-tail L _ _ _ _ _ w.time) (within-tail L _ _ _ _ _ w.seat)))

-- ════ A list of edits ════

pub edits-tail : (L : Limits) (n R edits : ℕ) (before : Option Edit) (bytes : List ℕ) (es : List Edit) (rest : List ℕ)
    → take_edits L n R edits before bytes ≡ value es rest → Tail rest bytes
unfolding take_edits
edits-tail L n R zero before bytes es rest q = let ends : bytes ≡ rest = cc in rw (← ends) (tail_all bytes)
edits-tail L n R (suc edits) before bytes es rest q =
    let x = bind-value (take_edit L n R bytes) _ es rest q in
    let y = bind-value (when (follows before x.0) BadOrder (take_edits L n R edits (Some x.0) x.1)) _ es rest x.3 in
    let z = when-value (follows before x.0) BadOrder _ y.0 y.1 y.2 in
    let ends : y.1 ≡ rest = cc in
    tail-trans (rw ends at (edits-tail L n R edits (Some x.0) x.1 y.0 y.1 z.1)) (edit-tail L n R bytes x.0 x.1 x.2)
