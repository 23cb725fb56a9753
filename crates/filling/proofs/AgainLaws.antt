-- A number of an edit that was accepted, read again with no test of its range: it is the one that was taken then.
-- Assumes nothing.
use Rattle.std.specs.Prelude.{Result, Ok, Err}
use mathlib.Core.Path.{◌≡◌, sym, ◌∙◌, subst}
use mathlib.Core.List.{List}
use Prim.Native.Nat.{ℕ, ◌-◌}
use native.Mathlib.Omega.{arith}
use lib.ListN.{drop}
use Rattle.farm.specs.Limits.{limits}
use Rattle.farm.specs.declared.refusals.Refusal.{Refusal}
use Rattle.numbers.specs.declared.read.Cursor.{Cursor}
use Rattle.record.specs.Taking.{Taken, value}
use Rattle.record.specs.Numbers.{take_within}
use Rattle.record.specs.Edits.{take_edit}
use Rattle.filling.specs.Filling.{Gives}
use Rattle.numbers.specs.Cursors.{number_at}
use Rattle.record.proofs.TakingLaws.{value-not-refused}
use Rattle.record.proofs.NumberLaws.{within-value}
use Rattle.numbers.proofs.CursorLaws.{Field, number-was, number-was-refused}
use Rattle.record.proofs.EditLaws.{EditTook, edit-took}

-- ════ One number ════

module _ (low high : ℕ) (bytes : List ℕ) (at : ℕ) (g : Gives (take_within limits low high (drop at bytes))) (n : Result (ℕ × Cursor) Refusal) (e : n ≡ number_at bytes at) where
  pub field-again : (v : ℕ) (next : Cursor) → n ≡ Ok (v, next) → Field low high bytes at v next.at
  field-again v next f =
      let was = number-was bytes at v next (sym e ∙ f) in
      let range = within-value limits low high (drop at bytes) g.what g.rest g.took in
      let both : value g.what g.rest ≡ value v (drop next.at bytes) = sym range.0 ∙ was.took in
      let same : g.what ≡ v = cc in
      record { took = g.took ∙ both; inside = was.inside; above = omega arith; below = omega arith }

  pub not-refused : (r : Refusal) → n ≡ Err r → ⊥
  not-refused r f =
      let range = within-value limits low high (drop at bytes) g.what g.rest g.took in
      value-not-refused g.what g.rest r (sym range.0 ∙ number-was-refused bytes at r (sym e ∙ f))

-- ════ The four numbers of an edit ════

rest-same : (t : Taken ℕ) (v w : ℕ) (r s : List ℕ) → t ≡ value v r → t ≡ value w s → r ≡ s
rest-same t v w r s p q = let both : value v r ≡ value w s = sym p ∙ q in cc

module _ (n R : ℕ) (bytes : List ℕ) (at : ℕ) (g : Gives (take_edit limits n R (drop at bytes))) where
  all : EditTook limits n R (drop at bytes) g.what g.rest
  all = edit-took limits n R (drop at bytes) g.what g.rest g.took

  pub seat-gives : Gives (take_within limits 0 (n - 1) (drop at bytes))
  seat-gives = record { what = g.what.seat.0; rest = all.after-seat; took = all.seat }

  module _ (seat second : ℕ) (s : take_within limits 0 (n - 1) (drop at bytes) ≡ value seat (drop second bytes)) where
    pub time-gives : Gives (take_within limits 0 R (drop second bytes))
    time-gives =
        subst (λ (l : List ℕ). Gives (take_within limits 0 R l)) (rest-same _ _ _ _ _ all.seat s)
        (record { what = g.what.time.0; rest = all.after-time; took = all.time })

    time-took : take_within limits 0 R (drop second bytes) ≡ value g.what.time.0 all.after-time
    time-took = subst (λ (l : List ℕ). take_within limits 0 R l ≡ value g.what.time.0 all.after-time) (rest-same _ _ _ _ _ all.seat s) all.time

    module _ (time third : ℕ) (t : take_within limits 0 R (drop second bytes) ≡ value time (drop third bytes)) where
      cell-took : take_within limits 0 65535 (drop third bytes) ≡ value g.what.cell all.after-cell
      cell-took = subst (λ (l : List ℕ). take_within limits 0 65535 l ≡ value g.what.cell all.after-cell) (rest-same _ _ _ _ _ time-took t) all.cell

      pub cell-gives : Gives (take_within limits 0 65535 (drop third bytes))
      cell-gives = record { what = g.what.cell; rest = all.after-cell; took = cell-took }

      pub change-gives : (cell fourth : ℕ) → take_within limits 0 65535 (drop third bytes) ≡ value cell (drop fourth bytes)
          → Gives (take_within limits 0 65535 (drop fourth bytes))
      change-gives cell fourth c =
          subst (λ (l : List ℕ). Gives (take_within limits 0 65535 l)) (rest-same _ _ _ _ _ cell-took c)
          (record { what = _; rest = g.rest; took = all.change })
