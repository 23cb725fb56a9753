-- An export that hands the live table on whole, from the contracts of the functions beneath it to its own theorem (`walks`' `Whole.antt`). A proof names the parameters after the table, and what `rattle check` makes of the functions.
--     change-whole     fn f(table: &mut Table, x.., y..) -> Y { h(g(table, c(x).., y..)) }
--     ask-whole        the same on a `&Table`
--     change-parted    fn f(table: &mut Table, x, y, z) -> Y { let s = c(x, z); h(g(table, s.a, y, s.b)) }
--     meeting          a call that turns a parameter, from its own theorem
-- Assumes nothing.
use mathlib.Core.Path.{◌≡◌}
use Prim.Native.Nat.{ℕ, suc}
use mathlib.Core.List.{List, ◌++◌}
use seplogic.Ra.Ura.{Ura}
use mir.Syntax.{Callee, Fn, Ty, ty_struct, named, mut, imm}
use prog.Model.{Model}
use prog.Routine.{Routine, Env}
use prog.Wp.{Closed}
use base.Logic.{ent}
use types.Logic.{Logic, sem}
use contract.Lifetimes.{Lfts}
use contract.Running.{Running, tables, tables_of}
use denote.Laws.{Ises, Are, Lawfuls}
use denote.Memory.{pointee}
use denote.RattleType.{RattleType, Denots, Valss, flat, mirs}
use denote.Ref.{MutRef, ShrRef, mut_Tells, shr_Tells}
use denote.Signature.{Slot, types_at}
use denote.Triple.Clauses.{Ended, Clauses, Lasts, lasts, closing}
use denote.Triple.Entry.{Args}
use denote.Triple.End.{Kepts}
use denote.Triple.Spec.{Meets, triple_of}
use denote.Triple.Table.{entered, cited}
use Rattle.live_table.specs.contracts.table.Table as Table
use Rattle.walks.proofs.Answered.{Answer}
use Rattle.walks.proofs.Changed.{lies}
use Rattle.walks.proofs.Thin.{two}
use Rattle.walks.proofs.Tails.{Tail, tail_types, Points}
use Rattle.walks.proofs.Turned.{Single, Turning, Turner, Says, Meeting, Meetings}
use Rattle.walks.proofs.Parted as parted
use Rattle.walks.proofs.Parted.{Pair, parting}
use Rattle.walks.proofs.Whole as whole
use Rattle.walks.proofs.Whole.{handing, Outer, Inner, Final, Agrees}

-- the table behind the export's first reference
abbrev pub Changed : (n : ℕ) → Lfts (suc n) → RattleType
Changed n κs = MutRef (named 0) κs.0 Table.the_row

abbrev pub Asked : (n : ℕ) → Lfts (suc n) → RattleType
Asked n κs = ShrRef (named 0) κs.0 Table.the_row

module _ {M : Type 1} {𝓤 : Ura M} (𝓛 : Logic 𝓤) (𝓜 : Model 𝓤 𝓛.H) (𝓡 : Running 𝓤 𝓛.H 𝓜) (γ : Env) where
  open 𝓛 use {H}

  pub meeting : (t : Turning) (c : Clauses 𝓤 (Turner t)) → Says 𝓛 t c → (r : Routine) → γ t.by ≡ r → Meets 𝓛 (Turner t).signature (𝓡.run r) (closing 𝓛 (Turner t) c) → Meeting 𝓛 t (tables_of 𝓤 H 𝓜 (tables 𝓤 H 𝓜 𝓡 γ))
  unfolding tables_of
  meeting t c says r calls met = record { clauses = c; agrees = says; met = cited 𝓤 H (triple_of 𝓛 (Turner t).signature (closing 𝓛 (Turner t) c)) 𝓜 𝓡 γ t.by r calls met }

  module _ {n : ℕ} (ts : List Turning) (ms : Meetings 𝓛 (tables_of 𝓤 H 𝓜 (tables 𝓤 H 𝓜 𝓡 γ)) ts) (ps : List (Slot (suc n))) (ks : Kepts ps) (τs : List Ty) (tl : Tail) (types : (κs : Lfts (suc n)) → mirs (types_at ps κs) ≡ τs ++ tail_types tl)
      (points : (κs : Lfts (suc n)) (a : Denots (types_at ps κs)) (vss : Valss (types_at ps κs)) → Are (types_at ps κs) (Ises (types_at ps κs)) a vss → Points tl (flat (types_at ps κs) vss)) (laws : (κs : Lfts (suc n)) → Lawfuls 𝓛 (types_at ps κs))
      (X Y : RattleType) (ax : Answer X) (ay : Answer Y) (key g h : Callee) (k : ℕ) (r r' : Routine) (calls : γ g ≡ r) (calls' : γ h ≡ r') where
    abbrev Has : Fn → Type 2
    Has e = Closed 𝓤 H (tables 𝓤 H 𝓜 𝓡 γ).C (tables 𝓤 H 𝓜 𝓡 γ).Λ key e

    -- g and h meet their contracts, and so f meets its own
    module _ (F : Lfts (suc n) → RattleType) where
      abbrev Follows : Clauses 𝓤 (Outer (suc n) F ts ps ks X Y) → Clauses 𝓤 (Inner (suc n) F ts ps ks X Y) → Clauses 𝓤 (Final (suc n) F ts ps ks X Y) → Type 1
      Follows c c' c'' = Meets 𝓛 (Inner (suc n) F ts ps ks X Y).signature (𝓡.run r) (closing 𝓛 (Inner (suc n) F ts ps ks X Y) c')
          → Meets 𝓛 (Final (suc n) F ts ps ks X Y).signature (𝓡.run r') (closing 𝓛 (Final (suc n) F ts ps ks X Y) c'')
          → Meets 𝓛 (Outer (suc n) F ts ps ks X Y).signature (𝓡.run (γ key)) (closing 𝓛 (Outer (suc n) F ts ps ks X Y) c)

    pub change-whole : (c : Clauses 𝓤 (Outer (suc n) (Changed n) ts ps ks X Y)) (c' : Clauses 𝓤 (Inner (suc n) (Changed n) ts ps ks X Y)) (c'' : Clauses 𝓤 (Final (suc n) (Changed n) ts ps ks X Y)) → Agrees (suc n) (Changed n) ts ps ks X Y c c' c''
        → Has (handing (suc n) k mut ay.told ax.told (lies Table.the_type) (pointee (Table.the_row).written) ts τs tl g h) → Follows (Changed n) c c' c''
    unfolding tables_of
    change-whole c c' c'' ag has met met' = entered 𝓤 H (triple_of 𝓛 (Outer (suc n) (Changed n) ts ps ks X Y).signature (closing 𝓛 (Outer (suc n) (Changed n) ts ps ks X Y) c)) (tables 𝓤 H 𝓜 𝓡 γ).C (tables 𝓤 H 𝓜 𝓡 γ).Λ key _ has
        (whole.whole 𝓛 (suc n) (Changed n) ts ps ks X Y (λ κs x. x.ref_ptr) (λ κs. mut_Tells (named 0) κs.0 Table.the_row) τs tl types points laws ax ay c c' c'' ag mut (lies Table.the_type) (pointee (Table.the_row).written) g h k (tables_of 𝓤 H 𝓜 (tables 𝓤 H 𝓜 𝓡 γ)) ms
        (cited 𝓤 H (triple_of 𝓛 (Inner (suc n) (Changed n) ts ps ks X Y).signature (closing 𝓛 (Inner (suc n) (Changed n) ts ps ks X Y) c')) 𝓜 𝓡 γ g r calls met)
        (cited 𝓤 H (triple_of 𝓛 (Final (suc n) (Changed n) ts ps ks X Y).signature (closing 𝓛 (Final (suc n) (Changed n) ts ps ks X Y) c'')) 𝓜 𝓡 γ h r' calls' met'))

    pub ask-whole : (c : Clauses 𝓤 (Outer (suc n) (Asked n) ts ps ks X Y)) (c' : Clauses 𝓤 (Inner (suc n) (Asked n) ts ps ks X Y)) (c'' : Clauses 𝓤 (Final (suc n) (Asked n) ts ps ks X Y)) → Agrees (suc n) (Asked n) ts ps ks X Y c c' c''
        → Has (handing (suc n) k imm ay.told ax.told (lies Table.the_type) (pointee (Table.the_row).written) ts τs tl g h) → Follows (Asked n) c c' c''
    unfolding tables_of
    ask-whole c c' c'' ag has met met' = entered 𝓤 H (triple_of 𝓛 (Outer (suc n) (Asked n) ts ps ks X Y).signature (closing 𝓛 (Outer (suc n) (Asked n) ts ps ks X Y) c)) (tables 𝓤 H 𝓜 𝓡 γ).C (tables 𝓤 H 𝓜 𝓡 γ).Λ key _ has
        (whole.whole 𝓛 (suc n) (Asked n) ts ps ks X Y (λ κs x. x.ref_ptr) (λ κs. shr_Tells (named 0) κs.0 Table.the_row) τs tl types points laws ax ay c c' c'' ag imm (lies Table.the_type) (pointee (Table.the_row).written) g h k (tables_of 𝓤 H 𝓜 (tables 𝓤 H 𝓜 𝓡 γ)) ms
        (cited 𝓤 H (triple_of 𝓛 (Inner (suc n) (Asked n) ts ps ks X Y).signature (closing 𝓛 (Inner (suc n) (Asked n) ts ps ks X Y) c')) 𝓜 𝓡 γ g r calls met)
        (cited 𝓤 H (triple_of 𝓛 (Final (suc n) (Asked n) ts ps ks X Y).signature (closing 𝓛 (Final (suc n) (Asked n) ts ps ks X Y) c'')) 𝓜 𝓡 γ h r' calls' met'))

  module _ (P V Q A B S X Y : RattleType) (pr : Pair A B S) (sp : Single P) (sv : Single V) (sq : Single Q) (ax : Answer X) (ay : Answer Y) (key k g h : Callee) (r r' r'' : Routine) (calls : γ k ≡ r) (calls' : γ g ≡ r') (calls'' : γ h ≡ r'') where
    abbrev T : Ended
    T = parted.Outer Table.the_type P V Q A B S X Y pr.a pr.b

    abbrev Tf : Ended
    Tf = parted.Fitter Table.the_type P V Q A B S X Y pr.a pr.b

    abbrev T' : Ended
    T' = parted.Inner Table.the_type P V Q A B S X Y pr.a pr.b

    abbrev T'' : Ended
    T'' = parted.Final Table.the_type P V Q A B S X Y pr.a pr.b

    abbrev to : (κs : Lfts 1) → Args T.signature κs → S.Denot → Args T'.signature κs
    to = parted.handed Table.the_type P V Q A B S X Y pr.a pr.b

    module _ (gives : P.Denot → Q.Denot → S.Denot → Type 0) (c : Clauses 𝓤 T) (cf : Clauses 𝓤 Tf) (c' : Clauses 𝓤 T') (c'' : Clauses 𝓤 T'') (back : (κs : Lfts 1) (t : Args T.signature κs) (s : S.Denot) → Lasts T' κs (to κs t s) → Lasts T κs t)
        (says-lasts : (κs : Lfts 1) (t : Args T.signature κs) (s : S.Denot) (ls : Lasts T' κs (to κs t s)) → ent 𝓤 (sem 𝓛 (lasts T' κs (to κs t s) ls)) (sem 𝓛 (lasts T κs t (back κs t s ls))))
        (ag : parted.Agrees Table.the_type P V Q A B S X Y pr.a pr.b gives c cf c' c'' back) where
      pub change-parted : Closed 𝓤 H (tables 𝓤 H 𝓜 𝓡 γ).C (tables 𝓤 H 𝓜 𝓡 γ).Λ key (parting ay.told ax.told (lies Table.the_type) (pointee (Table.the_row).written) sp.told sv.told sq.told (ty_struct pr.title (two pr.first pr.second)) pr.first k g h)
          → Meets 𝓛 Tf.signature (𝓡.run r) (closing 𝓛 Tf cf) → Meets 𝓛 T'.signature (𝓡.run r') (closing 𝓛 T' c') → Meets 𝓛 T''.signature (𝓡.run r'') (closing 𝓛 T'' c'') → Meets 𝓛 T.signature (𝓡.run (γ key)) (closing 𝓛 T c)
      unfolding tables_of
      change-parted has metf met met' = entered 𝓤 H (triple_of 𝓛 T.signature (closing 𝓛 T c)) (tables 𝓤 H 𝓜 𝓡 γ).C (tables 𝓤 H 𝓜 𝓡 γ).Λ key _ has
          (parted.parted 𝓛 Table.the_type P V Q A B S X Y pr sp sv sq ax ay gives c cf c' c'' back says-lasts ag k g h (tables_of 𝓤 H 𝓜 (tables 𝓤 H 𝓜 𝓡 γ))
          (cited 𝓤 H (triple_of 𝓛 Tf.signature (closing 𝓛 Tf cf)) 𝓜 𝓡 γ k r calls metf) (cited 𝓤 H (triple_of 𝓛 T'.signature (closing 𝓛 T' c')) 𝓜 𝓡 γ g r' calls' met) (cited 𝓤 H (triple_of 𝓛 T''.signature (closing 𝓛 T'' c'')) 𝓜 𝓡 γ h r'' calls'' met'))
