-- The live table's fields as a question hands them on (`Picked.antt`), and the theorem of such a question.
--     ask-parts    fn f(table: &Table, ..) -> X { g(&table.losses, table.seats, .., ..) }, with the fields in g's order and then f's other parameters
--     ask-parts-into   the same where the last of these is a `&mut [E]`
-- Assumes nothing.
use mathlib.Core.Path.{◌≡◌, refl, ◌∙◌, ap}
use Prim.Native.Nat.{ℕ, suc}
use mathlib.Core.List.{List, [], ◌∷◌, ◌++◌}
use seplogic.Ra.Ura.{Ura}
use mir.Syntax.{Callee, Fn, Lifetime, Ty, ty_ref, mut, imm, w8, w16}
use prog.Model.{Model}
use prog.Routine.{Routine, Env}
use prog.Wp.{Closed}
use types.Logic.{Logic}
use contract.Running.{Running, tables, tables_of}
use denote.Array.{Array}
use denote.Builtin.{u8, u16, u32, i16}
use denote.Memory.{pointee}
use denote.Plain.{uint_Lawful, uint_Makes}
use denote.RattleType.{RattleType}
use denote.Signature.{Slot}
use denote.Slice.{slice_ty}
use denote.Struct.Laws as LL
use denote.Triple.Clauses.{Ended, Clauses, closing}
use denote.Triple.End.{Kepts}
use denote.Triple.Spec.{Meets, triple_of}
use denote.Triple.Statement.{Triple}
use denote.Triple.Table.{entered, cited}
use borrow.Struct.Share.{part_field}
use Rattle.live_table.specs.contracts.table.Table as Table
use Rattle.live_table.proofs.table.Table.TheLaws as Table'
use Rattle.walks.proofs.Changed.{lies}
use Rattle.walks.proofs.Handed.{Handed}
use Rattle.walks.proofs.Answered.{Answer}
use Rattle.walks.proofs.Picked as picked
use Rattle.walks.proofs.Picked.{Asker, Field, lent, taken, Fields, picks_of}
use Rattle.walks.proofs.Picks.{picking, picking-into}
use Rattle.walks.proofs.Slices.{lent-last, last-lent}

module _ {M : Type 1} {𝓤 : Ura M} (𝓛 : Logic 𝓤) where
  abbrev pub the-seats : Field 𝓛 Table.the_type Table'.the_laws
  the-seats = taken u8 0 0 (λ t. t.seats) refl (λ h is. (LL.owed Table.the_type Table'.the_laws h _ is).0) (uint_Makes 𝓛 w8) (λ x w is. ((uint_Lawful 𝓛 w8).typed x (w ∷ []) is).0)

  abbrev pub the_bound : Field 𝓛 Table.the_type Table'.the_laws
  the_bound = taken u8 1 1 (λ t. t.bound) refl (λ h is. (LL.owed Table.the_type Table'.the_laws h _ is).1.0) (uint_Makes 𝓛 w8) (λ x w is. ((uint_Lawful 𝓛 w8).typed x (w ∷ []) is).0)

  abbrev pub the-rounds : Field 𝓛 Table.the_type Table'.the_laws
  the-rounds = taken u16 2 2 (λ t. t.rounds) refl (λ h is. (LL.owed Table.the_type Table'.the_laws h _ is).1.1.0) (uint_Makes 𝓛 w16) (λ x w is. ((uint_Lawful 𝓛 w16).typed x (w ∷ []) is).0)

  abbrev pub the-edits : Field 𝓛 Table.the_type Table'.the_laws
  the-edits = taken u16 3 4 (λ t. t.edits) refl (λ h is. (LL.owed Table.the_type Table'.the_laws h _ is).1.1.1.0) (uint_Makes 𝓛 w16) (λ x w is. ((uint_Lawful 𝓛 w16).typed x (w ∷ []) is).0)

  -- the arrays in the table, each as a `&` to it
  abbrev pub the-losses : Field 𝓛 Table.the_type Table'.the_laws
  the-losses = lent (Array u16 889) 4 6 (λ t. t.losses) refl (part_field 𝓛 Table.the_type Table'.the_laws Table'.the_copy 4 6 refl refl (λ t. (Table.struct).as_values t) (λ t. refl))

  abbrev pub the-editors : Field 𝓛 Table.the_type Table'.the_laws
  the-editors = lent (Array u8 512) 5 1784 (λ t. t.editors) refl (part_field 𝓛 Table.the_type Table'.the_laws Table'.the_copy 5 1784 refl refl (λ t. (Table.struct).as_values t) (λ t. refl))

  abbrev pub the-times : Field 𝓛 Table.the_type Table'.the_laws
  the-times = lent (Array u16 512) 6 2296 (λ t. t.times) refl (part_field 𝓛 Table.the_type Table'.the_laws Table'.the_copy 6 2296 refl refl (λ t. (Table.struct).as_values t) (λ t. refl))

  abbrev pub the-cells : Field 𝓛 Table.the_type Table'.the_laws
  the-cells = lent (Array u32 512) 7 3320 (λ t. t.cells) refl (part_field 𝓛 Table.the_type Table'.the_laws Table'.the_copy 7 3320 refl refl (λ t. (Table.struct).as_values t) (λ t. refl))

  abbrev pub the-changes : Field 𝓛 Table.the_type Table'.the_laws
  the-changes = lent (Array i16 512) 8 5368 (λ t. t.changes) refl (part_field 𝓛 Table.the_type Table'.the_laws Table'.the_copy 8 5368 refl refl (λ t. (Table.struct).as_values t) (λ t. refl))

-- all of the table: its arrays, and then its numbers
abbrev pub the_parts : {M : Type 1} {𝓤 : Ura M} (𝓛 : Logic 𝓤) (𝓜 : Model 𝓤 𝓛.H) → Fields 𝓛 Table.the_type Table'.the_laws
the_parts 𝓛 𝓜 =
    the-losses 𝓛
    ∷ the-editors 𝓛
    ∷ the-times 𝓛
    ∷ the-cells 𝓛
    ∷ the-changes 𝓛
    ∷ the-seats 𝓛
    ∷ the_bound 𝓛
    ∷ the-rounds 𝓛
    ∷ the-edits 𝓛
    ∷ []

module _ {M : Type 1} {𝓤 : Ura M} (𝓛 : Logic 𝓤) (𝓜 : Model 𝓤 𝓛.H) (𝓡 : Running 𝓤 𝓛.H 𝓜) (γ : Env) {m : ℕ} {ps : List (Slot (suc m))} {ks : Kepts ps} {ps' : List (Slot m)} {ks' : Kepts ps'} {τs : List Ty} (hd : Handed m 0 ps ks ps' ks' τs) (key f : Callee) (k : ℕ) (r : Routine) (calls : γ f ≡ r)
    (fs : Fields 𝓛 Table.the_type Table'.the_laws) (X : RattleType) (an : Answer X) where
  open 𝓛 use {H}

  abbrev Getter : Ended
  Getter = picked.Getter 𝓛 Table.the_type Table'.the_laws m Table'.the_copy fs ps ks τs hd.types (hd.laws M 𝓤 𝓛) X an.told (an.typed M 𝓤 𝓛)

  module _ (c : Clauses 𝓤 (Asker Table.the_type m ps ks X)) (c' : Clauses 𝓤 Getter)
      (ag : picked.Agrees 𝓛 Table.the_type Table'.the_laws m Table'.the_copy fs ps ks τs hd.types (hd.laws M 𝓤 𝓛) X an.told (an.typed M 𝓤 𝓛) c c') (met : Meets 𝓛 Getter.signature (𝓡.run r) (closing 𝓛 Getter c')) where
    at_key : Triple 𝓤 ((tables 𝓤 H 𝓜 𝓡 γ).C f) (triple_of 𝓛 Getter.signature (closing 𝓛 Getter c'))
    at_key = cited 𝓤 H (triple_of 𝓛 Getter.signature (closing 𝓛 Getter c')) 𝓜 𝓡 γ f r calls met

    abbrev Asks : Type 1
    Asks = Meets 𝓛 (Asker Table.the_type m ps ks X).signature (𝓡.run (γ key)) (closing 𝓛 (Asker Table.the_type m ps ks X) c)

    abbrev Has : Fn → Type 2
    Has e = Closed 𝓤 H (tables 𝓤 H 𝓜 𝓡 γ).C (tables 𝓤 H 𝓜 𝓡 γ).Λ key e

    pub ask-parts : Has (picking (suc m) k imm an.told (lies Table.the_type) (pointee (Table.the_row).written) τs (picks_of 𝓛 Table.the_type Table'.the_laws fs) f) → Asks
    unfolding tables_of
    ask-parts has = entered 𝓤 H (triple_of 𝓛 (Asker Table.the_type m ps ks X).signature (closing 𝓛 (Asker Table.the_type m ps ks X) c)) (tables 𝓤 H 𝓜 𝓡 γ).C (tables 𝓤 H 𝓜 𝓡 γ).Λ key _ has
        (picked.picked 𝓛 Table.the_type Table'.the_laws m Table'.the_copy fs ps ks τs hd.types (hd.laws M 𝓤 𝓛) X an.told (an.typed M 𝓤 𝓛) c c' ag f k (tables_of 𝓤 H 𝓜 (tables 𝓤 H 𝓜 𝓡 γ)) at_key)

    pub ask-parts-into : (σs : List Ty) (ℓ : Lifetime) (ε : Ty) → τs ≡ σs ++ (slice_ty (ty_ref ℓ mut ε) ∷ [])
        → Has (picking-into (suc m) k an.told (lies Table.the_type) (pointee (Table.the_row).written) σs ℓ ε (picks_of 𝓛 Table.the_type Table'.the_laws fs) f) → Asks
    unfolding tables_of
    ask-parts-into σs ℓ ε e has = entered 𝓤 H (triple_of 𝓛 (Asker Table.the_type m ps ks X).signature (closing 𝓛 (Asker Table.the_type m ps ks X) c)) (tables 𝓤 H 𝓜 𝓡 γ).C (tables 𝓤 H 𝓜 𝓡 γ).Λ key _ has
        (picked.picked-into 𝓛 Table.the_type Table'.the_laws m Table'.the_copy fs ps ks τs hd.types (hd.laws M 𝓤 𝓛) X an.told (an.typed M 𝓤 𝓛) c c' ag f k (tables_of 𝓤 H 𝓜 (tables 𝓤 H 𝓜 𝓡 γ)) at_key σs ℓ ε e (hd.ends M 𝓤 𝓛 (ap lent-last e ∙ last-lent σs ℓ ε)))
