-- A thin function that changes the live table, from the contract of the step by value beneath it to its own theorem. A proof names the parameters after the table, and what `rattle check` makes of the two functions.
--     change       fn f(table: &mut Table, ..) -> X { let step = g(*table, ..); *table = step.table; step.answer }
-- Assumes nothing.
use mathlib.Core.Path.{◌≡◌}
use Prim.Native.Nat.{ℕ, suc}
use mathlib.Core.List.{List}
use seplogic.Ra.Ura.{Ura}
use mir.Syntax.{Callee, Fn, Ty}
use prog.Model.{Model}
use prog.Routine.{Routine, Env}
use prog.Wp.{Closed}
use types.Logic.{Logic}
use contract.Running.{Running, tables, tables_of}
use denote.Memory.{pointee}
use denote.RattleType.{RattleType}
use denote.Signature.{Slot}
use denote.Triple.Clauses.{Clauses, closing}
use denote.Triple.End.{Kepts}
use denote.Triple.Spec.{Meets, triple_of}
use denote.Triple.Table.{entered, cited}
use Rattle.walks.proofs.Changed as changed
use Rattle.walks.proofs.Changed.{Changer, Taker, lies}
use Rattle.walks.proofs.Handed.{Handed}
use Rattle.walks.proofs.Thin.{changing}
use Rattle.live_table.specs.contracts.table.Table as Table
use Rattle.live_table.proofs.table.Table.TheLaws as Table'

-- what a step returns: an answer X and the table in a struct S (`Changed.antt`)
abbrev pub Stepping : RattleType → RattleType → Type 2
Stepping X S = (M : Type 1) (𝓤 : Ura M) (𝓛 : Logic 𝓤) → changed.Step 𝓛 Table.the_type Table'.the_laws X S

module _ {M : Type 1} {𝓤 : Ura M} (𝓛 : Logic 𝓤) (𝓜 : Model 𝓤 𝓛.H) (𝓡 : Running 𝓤 𝓛.H 𝓜) (γ : Env) {m : ℕ} {ps : List (Slot (suc m))} {ks : Kepts ps} {ps' : List (Slot m)} {ks' : Kepts ps'} {τs : List Ty} (hd : Handed m 0 ps ks ps' ks' τs) (key f : Callee) (k : ℕ) (r : Routine) (calls : γ f ≡ r) where
  open 𝓛 use {H}

  abbrev Has : Fn → Type 2
  Has e = Closed 𝓤 H (tables 𝓤 H 𝓜 𝓡 γ).C (tables 𝓤 H 𝓜 𝓡 γ).Λ key e

  module _ {X S : RattleType} (stepping : Stepping X S) (c : Clauses 𝓤 (Changer Table.the_type m ps ks X)) (c' : Clauses 𝓤 (Taker Table.the_type m ps' ks' S))
      (ag : changed.Agrees 𝓛 Table.the_type Table'.the_laws Table'.the_plain m ps ks ps' ks' τs hd X S (stepping M 𝓤 𝓛) c c') where
    pub change : Has (changing (suc m) k (stepping M 𝓤 𝓛).title (stepping M 𝓤 𝓛).told (lies Table.the_type) (pointee (Table.the_row).written) τs f)
        → Meets 𝓛 (Taker Table.the_type m ps' ks' S).signature (𝓡.run r) (closing 𝓛 (Taker Table.the_type m ps' ks' S) c')
        → Meets 𝓛 (Changer Table.the_type m ps ks X).signature (𝓡.run (γ key)) (closing 𝓛 (Changer Table.the_type m ps ks X) c)
    unfolding tables_of
    change has met = entered 𝓤 H (triple_of 𝓛 (Changer Table.the_type m ps ks X).signature (closing 𝓛 (Changer Table.the_type m ps ks X) c)) (tables 𝓤 H 𝓜 𝓡 γ).C (tables 𝓤 H 𝓜 𝓡 γ).Λ key _ has
        (changed.changed 𝓛 Table.the_type Table'.the_laws Table'.the_plain m ps ks ps' ks' τs hd X S (stepping M 𝓤 𝓛) c c' ag f k (tables_of 𝓤 H 𝓜 (tables 𝓤 H 𝓜 𝓡 γ))
        (cited 𝓤 H (triple_of 𝓛 (Taker Table.the_type m ps' ks' S).signature (closing 𝓛 (Taker Table.the_type m ps' ks' S) c')) 𝓜 𝓡 γ f r calls met))
