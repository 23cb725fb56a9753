-- A question on the live table that asks what the table reads as, and then the question on its arrays, lent whole, from the contracts of the two to its own theorem (`walks`' `Read.antt`).
--     ask-read     fn f(table: &Table, y..) -> Y { g(k(table), &table.losses, .., y..) }, with or without a `&mut [E]` as the last of the y
-- Assumes nothing.
use mathlib.Core.Path.{◌≡◌, refl}
use Prim.Native.Nat.{ℕ, suc, ◌^◌}
use mathlib.Core.List.{List, [], ◌++◌}
use lib.Dec.{ltb→lt}
use seplogic.Ra.Ura.{Ura}
use mir.Syntax.{Callee, Fn, Ty}
use prog.Model.{Model}
use prog.Routine.{Routine, Env}
use prog.Wp.{Closed}
use types.Logic.{Logic}
use contract.Lifetimes.{Lfts, Within}
use contract.Running.{Running, tables, tables_of}
use denote.Builtin.{u8, u16}
use denote.RattleType.{RattleType}
use denote.Signature.{Slot}
use denote.Struct.Laws as LL
use denote.Triple.Clauses.{Clauses, closing}
use denote.Triple.End.{Kepts}
use denote.Triple.Spec.{Meets, triple_of}
use denote.Triple.Table.{entered, cited}
use borrow.Struct.Share.{part_field}
use Rattle.live_table.specs.contracts.table.Table as Table
use Rattle.live_table.proofs.table.Table.TheLaws as Table'
use Rattle.walks.proofs.Answered.{Answer}
use Rattle.walks.proofs.Arrays.{Lend, Lends, At}
use Rattle.walks.proofs.Handed.{Handed, plus, ats}
use Rattle.walks.proofs.Picked.{Asker}
use Rattle.walks.proofs.Read as read
use Rattle.walks.proofs.Read.{reading, Teller}
use Rattle.walks.proofs.Tails.{Tail, tail_types}

-- the arrays of the table that a question needs, at the callee's lifetime j
module _ {M : Type 1} {𝓤 : Ura M} (𝓛 : Logic 𝓤) {n : ℕ} (j : ℕ) (ok : Within n j) where
  abbrev pub losses-lent : Lend 𝓛 Table.the_type n
  losses-lent = record {
    elem = u16;
    count = 889;
    k = 4;
    d = 6;
    sub = λ t. t.losses;
    stands = refl;
    part = part_field 𝓛 Table.the_type Table'.the_laws Table'.the_copy 4 6 refl refl (λ t. (Table.struct).as_values t) (λ t. refl);
    fits = (ltb→lt 889 (2 ^ 64) tt, ltb→lt 1778 (2 ^ 63) tt);
    small = tt;
    j = j;
    ok = ok;
  }

  abbrev pub editors-lent : Lend 𝓛 Table.the_type n
  editors-lent = record {
    elem = u8;
    count = 512;
    k = 5;
    d = 1784;
    sub = λ t. t.editors;
    stands = refl;
    part = part_field 𝓛 Table.the_type Table'.the_laws Table'.the_copy 5 1784 refl refl (λ t. (Table.struct).as_values t) (λ t. refl);
    fits = (ltb→lt 512 (2 ^ 64) tt, ltb→lt 512 (2 ^ 63) tt);
    small = tt;
    j = j;
    ok = ok;
  }

  abbrev pub times-lent : Lend 𝓛 Table.the_type n
  times-lent = record {
    elem = u16;
    count = 512;
    k = 6;
    d = 2296;
    sub = λ t. t.times;
    stands = refl;
    part = part_field 𝓛 Table.the_type Table'.the_laws Table'.the_copy 6 2296 refl refl (λ t. (Table.struct).as_values t) (λ t. refl);
    fits = (ltb→lt 512 (2 ^ 64) tt, ltb→lt 1024 (2 ^ 63) tt);
    small = tt;
    j = j;
    ok = ok;
  }

module _ {M : Type 1} {𝓤 : Ura M} (𝓛 : Logic 𝓤) (𝓜 : Model 𝓤 𝓛.H) (𝓡 : Running 𝓤 𝓛.H 𝓜) (γ : Env) {m l : ℕ} (fs : Lends 𝓛 Table.the_type (plus l m)) {ps : List (Slot (suc m))} {ks : Kepts ps} {ps' : List (Slot (plus l m))} {ks' : Kepts ps'} {τs : List Ty} (hd : Handed m l ps ks ps' ks' τs)
    (one : (κs : Lfts (suc m)) (b o : ℕ) (h : (Table.the_type).D) → At ps' (ats l m κs.0 κs.1) b o h κs.0 fs) (σs : List Ty) (tl : Tail) (cut-is : τs ≡ σs ++ tail_types tl)
    (X Y : RattleType) (ax : Answer X) (ay : Answer Y) (key k g : Callee) (count : ℕ) (r r' : Routine) (calls : γ k ≡ r) (calls' : γ g ≡ r') where
  open 𝓛 use {H}

  abbrev Has : Fn → Type 2
  Has e = Closed 𝓤 H (tables 𝓤 H 𝓜 𝓡 γ).C (tables 𝓤 H 𝓜 𝓡 γ).Λ key e

  module _ (reads : (Table.the_type).D → X.Denot → Type 0) (c : Clauses 𝓤 (Asker Table.the_type m ps ks Y)) (c'' : Clauses 𝓤 (Asker Table.the_type 0 [] tt X)) (c' : Clauses 𝓤 (Teller 𝓛 Table.the_type m l fs ps ks ps' ks' τs hd X Y))
      (ag : read.Agrees 𝓛 Table.the_type m l fs ps ks ps' ks' τs hd X Y reads c c'' c') where
    pub ask-read : Has (reading (suc m) count ay.told ax.told σs tl fs k g)
        → Meets 𝓛 (Asker Table.the_type 0 [] tt X).signature (𝓡.run r) (closing 𝓛 (Asker Table.the_type 0 [] tt X) c'')
        → Meets 𝓛 (Teller 𝓛 Table.the_type m l fs ps ks ps' ks' τs hd X Y).signature (𝓡.run r') (closing 𝓛 (Teller 𝓛 Table.the_type m l fs ps ks ps' ks' τs hd X Y) c')
        → Meets 𝓛 (Asker Table.the_type m ps ks Y).signature (𝓡.run (γ key)) (closing 𝓛 (Asker Table.the_type m ps ks Y) c)
    unfolding tables_of
    ask-read has met'' met' = entered 𝓤 H (triple_of 𝓛 (Asker Table.the_type m ps ks Y).signature (closing 𝓛 (Asker Table.the_type m ps ks Y) c)) (tables 𝓤 H 𝓜 𝓡 γ).C (tables 𝓤 H 𝓜 𝓡 γ).Λ key _ has
        (read.read-first 𝓛 Table.the_type m l fs ps ks ps' ks' τs hd X Y reads c c'' c' ag (LL.copied Table.the_type Table'.the_copy 𝓛).opens ax ay σs tl cut-is one k g count (tables_of 𝓤 H 𝓜 (tables 𝓤 H 𝓜 𝓡 γ))
        (cited 𝓤 H (triple_of 𝓛 (Asker Table.the_type 0 [] tt X).signature (closing 𝓛 (Asker Table.the_type 0 [] tt X) c'')) 𝓜 𝓡 γ k r calls met'')
        (cited 𝓤 H (triple_of 𝓛 (Teller 𝓛 Table.the_type m l fs ps ks ps' ks' τs hd X Y).signature (closing 𝓛 (Teller 𝓛 Table.the_type m l fs ps ks ps' ks' τs hd X Y) c')) 𝓜 𝓡 γ g r' calls' met'))
