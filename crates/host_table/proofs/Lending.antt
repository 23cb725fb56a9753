-- The live table's fields as a call that changes them lends them (`walks`' `Loans.antt`), and the theorem of such a call.
--     change-parts     fn f(table: &mut Table, ..) -> X { g(&mut table.seats, .., ..) }, each field `&mut`, `&`, by value or left out, in the table's order
-- Assumes nothing.
use mathlib.Core.Path.{◌≡◌, refl}
use base.Fml.{Lft}
use contract.Lifetimes.{Lfts}
use Prim.Native.Nat.{ℕ, suc}
use mathlib.Core.List.{List, [], ◌∷◌}
use seplogic.Ra.Ura.{Ura}
use mir.Syntax.{Callee, Ty, w8, w16, w32, ty_struct, mut}
use prog.Model.{Model}
use prog.Routine.{Routine, Env}
use prog.Wp.{Closed}
use types.Logic.{Logic}
use contract.Running.{Running, tables, tables_of}
use denote.Memory.{pointee}
use denote.RattleType.{RattleType}
use denote.Signature.{Slot}
use denote.Struct.Laws as LL
use denote.Triple.Clauses.{Clauses, closing}
use denote.Triple.End.{Kepts}
use denote.Triple.Spec.{Meets, triple_of}
use denote.Triple.Table.{entered, cited}
use Rattle.live_table.specs.contracts.table.Table as Table
use Rattle.live_table.proofs.table.Table.TheLaws as Table'
use Rattle.walks.proofs.Answered.{Answer}
use Rattle.walks.proofs.Changed.{Changer}
use Rattle.walks.proofs.Fields.{number, numbers, integers}
use Rattle.walks.proofs.Handed.{Handed, plus, ats}
use Rattle.walks.proofs.Loans.{How, Parts, Split, Ends, tys-of, picks_of}
use Rattle.walks.proofs.Lent as lent
use Rattle.walks.proofs.Lent.{Doer}
use Rattle.walks.proofs.Picks.{picking}

abbrev pub parts : {m : ℕ} (seats bound rounds edits losses editors times cells changes : How m) → Parts m
parts seats bound rounds edits losses editors times cells changes = (seats, number w8 0 0) ∷ (bound, number w8 1 1) ∷ (rounds, number w16 2 2) ∷ (edits, number w16 3 4) ∷ (losses, numbers w16 889 4 6) ∷ (editors, numbers w8 512 5 1784) ∷ (times, numbers w16 512 6 2296) ∷ (cells, numbers w32 512 7 3320) ∷ (changes, integers w16 512 8 5368) ∷ []

abbrev pub cut : {m : ℕ} (seats bound rounds edits losses editors times cells changes : How m) → Split Table.the_type Table'.the_laws (parts seats bound rounds edits losses editors times cells changes)
cut seats bound rounds edits losses editors times cells changes = record {
  apart = λ t. (t.seats, (t.bound, (t.rounds, (t.edits, (t.losses, (t.editors, (t.times, (t.cells, (t.changes, tt)))))))));
  shut = λ x. record { seats = x.0; bound = x.1.0; rounds = x.1.1.0; edits = x.1.1.1.0; losses = x.1.1.1.1.0; editors = x.1.1.1.1.1.0; times = x.1.1.1.1.1.1.0; cells = x.1.1.1.1.1.1.1.0; changes = x.1.1.1.1.1.1.1.1.0 };
  lies = refl;
  spells = λ t. refl;
  spells' = λ x. refl;
  parts = λ t is. LL.owed Table.the_type Table'.the_laws t _ is;
  whole = λ x is. LL.owes Table.the_type Table'.the_laws (record { seats = x.0; bound = x.1.0; rounds = x.1.1.0; edits = x.1.1.1.0; losses = x.1.1.1.1.0; editors = x.1.1.1.1.1.0; times = x.1.1.1.1.1.1.0; cells = x.1.1.1.1.1.1.1.0; changes = x.1.1.1.1.1.1.1.1.0 }) is;
  laid = (refl, (refl, (refl, (refl, (refl, (refl, (refl, (refl, (refl, tt)))))))));
  placed = (refl, (refl, (refl, (refl, (refl, (refl, (refl, (refl, (refl, tt)))))))));
  gets = λ x. (refl, (refl, (refl, (refl, (refl, (refl, (refl, (refl, (refl, tt)))))))));
}

module _ {M : Type 1} {𝓤 : Ura M} (𝓛 : Logic 𝓤) (𝓜 : Model 𝓤 𝓛.H) (𝓡 : Running 𝓤 𝓛.H 𝓜) (γ : Env) {m : ℕ} (l : ℕ) {ps : List (Slot (suc m))} {ks : Kepts ps} {ps' : List (Slot (plus l m))} {ks' : Kepts ps'} {τs : List Ty} (seats bound rounds edits losses editors times cells changes : How (plus l m)) (ends : (α : Lft) (κs : Lfts m) → Ends (ats l m α κs) α (parts seats bound rounds edits losses editors times cells changes)) (hd : Handed m l ps ks ps' ks' τs) (key f : Callee) (k : ℕ) (r : Routine) (calls : γ f ≡ r) (X : RattleType) (an : Answer X) where
  open 𝓛 use {H}

  abbrev pt : Parts (plus l m)
  pt = parts seats bound rounds edits losses editors times cells changes

  module _ (c : Clauses 𝓤 (Changer Table.the_type m ps ks X)) (c' : Clauses 𝓤 (Doer (plus l m) pt ps' ks' X)) (ag : lent.Agrees 𝓛 Table.the_type Table'.the_laws Table'.the_plain m l pt (cut seats bound rounds edits losses editors times cells changes) ps ks ps' ks' τs hd X an.told (an.typed M 𝓤 𝓛) c c') where
    pub change-parts : Closed 𝓤 H (tables 𝓤 H 𝓜 𝓡 γ).C (tables 𝓤 H 𝓜 𝓡 γ).Λ key (picking (suc m) k mut an.told (ty_struct (Table.the_type).name (tys-of pt)) (pointee (Table.the_row).written) τs (picks_of pt) f)
        → Meets 𝓛 (Doer (plus l m) pt ps' ks' X).signature (𝓡.run r) (closing 𝓛 (Doer (plus l m) pt ps' ks' X) c')
        → Meets 𝓛 (Changer Table.the_type m ps ks X).signature (𝓡.run (γ key)) (closing 𝓛 (Changer Table.the_type m ps ks X) c)
    unfolding tables_of
    change-parts has met = entered 𝓤 H (triple_of 𝓛 (Changer Table.the_type m ps ks X).signature (closing 𝓛 (Changer Table.the_type m ps ks X) c)) (tables 𝓤 H 𝓜 𝓡 γ).C (tables 𝓤 H 𝓜 𝓡 γ).Λ key _ has
        (lent.lent 𝓛 Table.the_type Table'.the_laws Table'.the_plain m l pt (cut seats bound rounds edits losses editors times cells changes) ps ks ps' ks' τs hd X an.told (an.typed M 𝓤 𝓛) c c' ends ag f k (tables_of 𝓤 H 𝓜 (tables 𝓤 H 𝓜 𝓡 γ))
        (cited 𝓤 H (triple_of 𝓛 (Doer (plus l m) pt ps' ks' X).signature (closing 𝓛 (Doer (plus l m) pt ps' ks' X) c')) 𝓜 𝓡 γ f r calls met))
