-- A thin function on a `&mut` to a plain struct that makes two of its parameters fit first meets its contract, if the functions beneath it meet theirs and these say the same.
--     fn f(table: &mut T, x, y, z) -> Y { let s = c(x, z); h(g(table, s.a, y, s.b)) }      with      struct s { a, b }
--     Pair         s: a struct of two values
--     Agrees       from f's contract to those of c, g and h. What c ensures is a fact about the two parameters and s
--     parted       the theorem, for any x, y and z by value
-- Assumes nothing.
use mathlib.Core.Path.{◌≡◌, refl, sym, ◌∙◌, ap, subst}
use Prim.Native.Nat.{ℕ, zero}
use mathlib.Core.Option.{some as just}
use mathlib.Core.List.{List, [], ◌∷◌, ◌++◌}
use seplogic.Ra.Ura.{Ura}
use mir.Syntax.{Sym, Callee, Fn, Ty, ty_struct, ty_ref, named, erased, mut, deref, field, place, copy, rv_opd, addr_of, assign, call, return, seq, local, value_local}
use mir.Val.{Val, vptr, vstruct, vcons, vnil}
use base.Logic.{SProp, ent, emp, sep, id⊢}
use base.Fml.{ftrue, fsep}
use prog.Memory.{field_at}
use prog.Wp.{Tables, WpFn}
use types.Logic.{Logic, sem}
use contract.Lifetimes.{Lfts, Shares, toks}
use contract.Monad.{fact}
use types.ByLocal.{alloc_all, pass_all, free_all, look_at, get, get_in, through, sets, lands_as}
use types.Kit.{‵, raw, some, later, ◌⊛◌, ◌$◌, ◌∵◌, !, qed, by, move, drop, rewrite, use0, use1, split, join, pick, fsplit, fjoin, frame, await, updating, now as at_once, show, done}
use types.Part.{whole, sub}
use types.Run.{enter, fld, stop, addr, of_opd, and_then, no_more, returns}
use sound.WpLaws.{fm_of}
use denote.Exit.{left, yes}
use denote.Laws.{Is, Ises, Are, Makes, shows}
use denote.Memory.{pointee}
use denote.RattleType.{RattleType, Valss, flat, owns}
use denote.Ref.{MutRef, mut_vals, mut_Tells}
use denote.Signature.{plain, types_at}
use denote.Steps.{only, nothing, heard, owned, peeks}
use denote.Struct.Declared.{Declared, row}
use denote.Triple.Call.{calls_from}
use denote.Triple.Clauses.{Ended, Clauses, Lasts, at_exit, lasts, ensured, closing}
use denote.Triple.Entry.{Args}
use denote.Triple.Spec.{Meets, Back, triple_of}
use denote.Triple.Statement.{Contract, Triple}
use Rattle.walks.proofs.Answered.{Answer}
use Rattle.walks.proofs.Changed.{lies}
use Rattle.walks.proofs.Enters.{enters-at}
use Rattle.walks.proofs.Thin.{Of, two}
use Rattle.walks.proofs.Turned.{Single, one-of, of-one}

pub record Pair (A B S : RattleType) : Type 2 where
  pub title : Sym
  pub first : Ty
  pub second : Ty
  pub first_at : ℕ
  pub second_at : ℕ
  pub first_is : field_at zero (two first second) 0 ≡ just (first, first_at)
  pub second_is : field_at zero (two first second) 1 ≡ just (second, second_at)
  pub a : S.Denot → A.Denot
  pub b : S.Denot → B.Denot
  pub a-val : A.Denot → Val
  pub b-val : B.Denot → Val
  pub spelled : (s : S.Denot) (w : Val) → Is S s (w ∷ []) → w ≡ vstruct (vcons (a-val (a s)) (vcons (b-val (b s)) vnil))
  pub typed : (M : Type 1) (𝓤 : Ura M) (𝓛 : Logic 𝓤) (s : S.Denot) (w : Val) → Is S s (w ∷ []) → Of (ty_struct title (two first second)) w × Of first (a-val (a s)) × Of second (b-val (b s))
  pub a-is : (s : S.Denot) (w : Val) → Is S s (w ∷ []) → Is A (a s) (a-val (a s) ∷ [])
  pub b-is : (s : S.Denot) (w : Val) → Is S s (w ∷ []) → Is B (b s) (b-val (b s) ∷ [])
  pub a-makes : (M : Type 1) (𝓤 : Ura M) (𝓛 : Logic 𝓤) → Makes 𝓛 A (Is A)
  pub b-makes : (M : Type 1) (𝓤 : Ura M) (𝓛 : Logic 𝓤) → Makes 𝓛 B (Is B)

-- δ is the answer's type, ξ that of what g answers, ρ₁, ρ₂ and ρ₃ those of the parameters after the table, ς that of s and α that of its first part; π is the table's type as it is written behind a reference, σ as it lies there
abbrev pub parting : (δ ξ σ π ρ₁ ρ₂ ρ₃ ς α : Ty) → (c g h : Callee) → Fn
parting δ ξ σ π ρ₁ ρ₂ ρ₃ ς α c g h = record {
  lifetimes = 1;
  outlives = [];
  ty_params = [];
  givens = 0;
  params = 4;
  locals = local δ value_local ∷ local (ty_ref (named 0) mut π) value_local ∷ local ρ₁ value_local ∷ local ρ₂ value_local ∷ local ρ₃ value_local ∷ local ς value_local ∷ local ξ value_local ∷ local (ty_ref erased mut π) value_local ∷ local α value_local ∷ [];
  body = seq (call c (copy (place 2 []) ∷ copy (place 4 []) ∷ []) (place 5 []))
      (seq (assign (place 7 []) (addr_of (place 1 (deref σ ∷ []))))
      (seq (assign (place 8 []) (rv_opd (copy (place 5 (field 0 ∷ [])))))
      (seq (call g (copy (place 7 []) ∷ copy (place 8 []) ∷ copy (place 3 []) ∷ copy (place 5 (field 1 ∷ [])) ∷ []) (place 6 []))
      (seq (call h (copy (place 6 []) ∷ []) (place 0 [])) return))));
}

-- the contracts' shapes: of f, of c, of g, and of h
module _ (TT : Declared) (P V Q A B S X Y : RattleType) (a : S.Denot → A.Denot) (b : S.Denot → B.Denot) where
  abbrev pub Table : Lfts 1 → RattleType
  Table κs = MutRef (named 0) κs.0 (row TT)

  abbrev pub Outer : Ended
  Outer = record { signature = record { lifetimes = 1; outlives = []; params = plain Table ∷ plain (λ _. P) ∷ plain (λ _. V) ∷ plain (λ _. Q) ∷ []; result = plain (λ _. Y) }; kept = (yes, (yes, (yes, (yes, tt)))) }

  abbrev pub Fitter : Ended
  Fitter = record { signature = record { lifetimes = 0; outlives = []; params = plain (λ _. P) ∷ plain (λ _. Q) ∷ []; result = plain (λ _. S) }; kept = (yes, (yes, tt)) }

  abbrev pub Inner : Ended
  Inner = record { signature = record { lifetimes = 1; outlives = []; params = plain Table ∷ plain (λ _. A) ∷ plain (λ _. V) ∷ plain (λ _. B) ∷ []; result = plain (λ _. X) }; kept = (yes, (yes, (yes, (yes, tt)))) }

  abbrev pub Final : Ended
  Final = record { signature = record { lifetimes = 0; outlives = []; params = plain (λ _. X) ∷ []; result = plain (λ _. Y) }; kept = (yes, tt) }

  -- what g is handed
  abbrev pub handed : (κs : Lfts 1) → Args Outer.signature κs → S.Denot → Args Inner.signature κs
  handed κs t s = (t.0, (a s, (t.1.1.0, (b s, tt))))

  module _ {M : Type 1} {𝓤 : Ura M} (gives : P.Denot → Q.Denot → S.Denot → Type 0) (c : Clauses 𝓤 Outer) (cf : Clauses 𝓤 Fitter) (c' : Clauses 𝓤 Inner) (c'' : Clauses 𝓤 Final)
      (back : (κs : Lfts 1) (t : Args Outer.signature κs) (s : S.Denot) → Lasts Inner κs (handed κs t s) → Lasts Outer κs t) where
    pub record Agrees : Type 1 where
      pub first-ghost : (x : P.Denot) (z : Q.Denot) → (cf tt (x, (z, tt))).ghost
      pub first-asks : (x : P.Denot) (z : Q.Denot) → ent 𝓤 (emp 𝓤) ((cf tt (x, (z, tt))).requires (first-ghost x z))
      pub first-says : (x : P.Denot) (z : Q.Denot) (s : S.Denot) (ls : Lasts Fitter tt (x, (z, tt))) → ent 𝓤 ((cf tt (x, (z, tt))).ensures (first-ghost x z) s (at_exit Fitter tt (x, (z, tt)) ls)) (fact 𝓤 (gives x z s))
      pub ghost : (κs : Lfts 1) (t : Args Outer.signature κs) (s : S.Denot) → (c κs t).ghost → (c' κs (handed κs t s)).ghost
      pub asks : (κs : Lfts 1) (t : Args Outer.signature κs) (s : S.Denot) → gives t.1.0 t.1.1.1.0 s → (g : (c κs t).ghost) → ent 𝓤 ((c κs t).requires g) ((c' κs (handed κs t s)).requires (ghost κs t s g))
      pub last-ghost : (x : X.Denot) → (c'' tt (x, tt)).ghost
      pub last-asks : (x : X.Denot) → ent 𝓤 (emp 𝓤) ((c'' tt (x, tt)).requires (last-ghost x))
      pub says : (κs : Lfts 1) (t : Args Outer.signature κs) (s : S.Denot) → gives t.1.0 t.1.1.1.0 s → (g : (c κs t).ghost) (x : X.Denot) (ls : Lasts Inner κs (handed κs t s)) (y : Y.Denot) (ms : Lasts Final tt (x, tt))
          → ent 𝓤 (sep 𝓤 ((c' κs (handed κs t s)).ensures (ghost κs t s g) x (at_exit Inner κs (handed κs t s) ls)) ((c'' tt (x, tt)).ensures (last-ghost x) y (at_exit Final tt (x, tt) ms)))
          ((c κs t).ensures g y (at_exit Outer κs t (back κs t s ls)))

module _ {M : Type 1} {𝓤 : Ura M} (𝓛 : Logic 𝓤) (TT : Declared) (P V Q A B S X Y : RattleType) (pr : Pair A B S) (sp : Single P) (sv : Single V) (sq : Single Q) (ax : Answer X) (ay : Answer Y) where
  open 𝓛 use {H}

  abbrev T : Ended
  T = Outer TT P V Q A B S X Y pr.a pr.b

  abbrev Tf : Ended
  Tf = Fitter TT P V Q A B S X Y pr.a pr.b

  abbrev T' : Ended
  T' = Inner TT P V Q A B S X Y pr.a pr.b

  abbrev T'' : Ended
  T'' = Final TT P V Q A B S X Y pr.a pr.b

  abbrev to : (κs : Lfts 1) → Args T.signature κs → S.Denot → Args T'.signature κs
  to = handed TT P V Q A B S X Y pr.a pr.b

  module _ (gives : P.Denot → Q.Denot → S.Denot → Type 0) (c : Clauses 𝓤 T) (cf : Clauses 𝓤 Tf) (c' : Clauses 𝓤 T') (c'' : Clauses 𝓤 T'')
      (back : (κs : Lfts 1) (t : Args T.signature κs) (s : S.Denot) → Lasts T' κs (to κs t s) → Lasts T κs t)
      (says-lasts : (κs : Lfts 1) (t : Args T.signature κs) (s : S.Denot) (ls : Lasts T' κs (to κs t s)) → ent 𝓤 (sem 𝓛 (lasts T' κs (to κs t s) ls)) (sem 𝓛 (lasts T κs t (back κs t s ls))))
      (ag : Agrees TT P V Q A B S X Y pr.a pr.b gives c cf c' c'' back) (k g h : Callee) (𝓣 : Tables 𝓤 H)
      (metf : Triple 𝓤 (𝓣.C k) (triple_of 𝓛 Tf.signature (closing 𝓛 Tf cf))) (met : Triple 𝓤 (𝓣.C g) (triple_of 𝓛 T'.signature (closing 𝓛 T' c'))) (met' : Triple 𝓤 (𝓣.C h) (triple_of 𝓛 T''.signature (closing 𝓛 T'' c''))) where
    abbrev Cf : Contract 𝓤
    Cf = triple_of 𝓛 Tf.signature (closing 𝓛 Tf cf)

    abbrev C' : Contract 𝓤
    C' = triple_of 𝓛 T'.signature (closing 𝓛 T' c')

    abbrev C'' : Contract 𝓤
    C'' = triple_of 𝓛 T''.signature (closing 𝓛 T'' c'')

    abbrev code : Fn
    code = parting ay.told ax.told (lies TT) (pointee (row TT).written) sp.told sv.told sq.told (ty_struct pr.title (two pr.first pr.second)) pr.first k g h

    module _ (κs : Lfts 1) (qs : Shares 1) (t : Args T.signature κs) (vss : Valss (P ∷ V ∷ Q ∷ [])) (gh : (c κs t).ghost)
        (are : Are (P ∷ V ∷ Q ∷ []) (Ises (P ∷ V ∷ Q ∷ [])) t.1 vss) where
      abbrev v₀ : Val
      v₀ = vptr t.0.ref_ptr.0 t.0.ref_ptr.1

      abbrev x : Val
      x = only vss.0

      abbrev y : Val
      y = only vss.1.0

      abbrev z : Val
      z = only vss.1.1.0

      x-one : vss.0 ≡ x ∷ []
      x-one = one-of sp.told vss.0 (sp.typed M 𝓤 𝓛 t.1.0 vss.0 are.0)

      y-one : vss.1.0 ≡ y ∷ []
      y-one = one-of sv.told vss.1.0 (sv.typed M 𝓤 𝓛 t.1.1.0 vss.1.0 are.1.0)

      z-one : vss.1.1.0 ≡ z ∷ []
      z-one = one-of sq.told vss.1.1.0 (sq.typed M 𝓤 𝓛 t.1.1.1.0 vss.1.1.0 are.1.1.0)

      abbrev Pre : SProp 𝓤
      Pre = sep 𝓤 (sep 𝓤 (toks 𝓛 1 κs qs) (sem 𝓛 (owns (types_at T.signature.params κs) t (v₀ ∷ [], vss)))) ((c κs t).requires gh)

      abbrev Out : Val → SProp 𝓤
      Out = (triple_of 𝓛 T.signature (closing 𝓛 T c)).post ((κs, qs, tt, t, (v₀ ∷ [], vss)), gh)

      -- what the triples bind outside
      abbrev yf : Cf.Ghost
      yf = ((tt, tt, tt, (t.1.0, (t.1.1.1.0, tt)), (x ∷ [], (z ∷ [], tt))), ag.first-ghost t.1.0 t.1.1.1.0)

      abbrev y' : S.Denot → C'.Ghost
      y' s = ((κs, qs, tt, to κs t s, (v₀ ∷ [], (pr.a-val (pr.a s) ∷ [], (y ∷ [], (pr.b-val (pr.b s) ∷ [], tt))))), ag.ghost κs t s gh)

      abbrev y'' : X.Denot → Val → C''.Ghost
      y'' r w = ((tt, tt, tt, (r, tt), (w ∷ [], tt)), ag.last-ghost r)

      at-last : (r : X.Denot) (w : Val) → ent 𝓤 (sem 𝓛 (X.own_val r (w ∷ []))) (C''.pre (y'' r w))
      at-last r w = qed 𝓛 (‵ (X.own_val r (w ∷ [])) ∷ []) ∵ nothing ! $ move ! (1 ∷ 0 ∷ []) $ fjoin ! $ nothing ! $ join ! $ frame ! $ use0 𝓛 (raw ((c'' tt (r, tt)).requires (ag.last-ghost r))) (ag.last-asks r) $ done !

      core : ent 𝓤 Pre (WpFn 𝓤 H 𝓣.C 𝓣.Λ code (v₀ ∷ x ∷ y ∷ z ∷ []) Out)
      core =
          qed 𝓛 ((raw (toks 𝓛 1 κs qs) ⊛ ‵ (owns (types_at T.signature.params κs) t (v₀ ∷ [], vss))) ∷ raw ((c κs t).requires gh) ∷ []) ∵ enter ! 𝓣.C 𝓣.Λ code (v₀ ∷ x ∷ y ∷ z ∷ []) Out $
          alloc_all ! (λ l. pass_all ! refl ((tt, tt), (of-one sp.told vss.0 (sp.typed M 𝓤 𝓛 t.1.0 vss.0 are.0), (of-one sv.told vss.1.0 (sv.typed M 𝓤 𝓛 t.1.1.0 vss.1.0 are.1.0), (of-one sq.told vss.1.1.0 (sq.typed M 𝓤 𝓛 t.1.1.1.0 vss.1.1.0 are.1.1.0), tt)))) $
          split ! $ move ! (1 ∷ []) $ fsplit ! $ move ! (1 ∷ []) $ fsplit ! $ rewrite ! 0 (λ (vs : List Val). ‵ (P.own_val t.1.0 vs)) x-one refl $
          move ! (1 ∷ []) $ fsplit ! $ rewrite ! 0 (λ (vs : List Val). ‵ (V.own_val t.1.1.0 vs)) y-one refl $ move ! (1 ∷ []) $ fsplit ! $ rewrite ! 0 (λ (vs : List Val). ‵ (Q.own_val t.1.1.1.0 vs)) z-one refl $
          -- [the third parameter; nothing; the second; the first; the table; the tokens; what f requires; the locals]
          move ! (0 ∷ 1 ∷ []) $ fjoin ! $ move ! (2 ∷ 0 ∷ []) $ fjoin ! $ nothing ! $ join ! $ use0 𝓛 (raw ((cf tt (t.1.0, (t.1.1.1.0, tt))).requires (ag.first-ghost t.1.0 t.1.1.1.0))) (ag.first-asks t.1.0 t.1.1.1.0) $ move ! (1 ∷ 0 ∷ []) $ join ! $ use1 𝓛 (raw (Cf.pre yf)) (id⊢ 𝓤 (Cf.pre yf)) $
          calls_from ! (fm_of 𝓤 H 𝓛.laws 𝓣) (raw (Cf.pre yf)) (x ∷ z ∷ []) (Cf.post yf) (metf yf) (and_then ! (get ! refl) (and_then ! (get ! refl) (no_more !))) (λ w.
          use1 𝓛 (later (some (λ (s : S.Denot). (raw (emp 𝓤) ⊛ ‵ (S.own_val s (w ∷ []))) ⊛ some (λ (ls : Lasts Tf tt (t.1.0, (t.1.1.1.0, tt))). ‵ (lasts Tf tt (t.1.0, (t.1.1.1.0, tt)) ls) ⊛ raw ((cf tt (t.1.0, (t.1.1.1.0, tt))).ensures (ag.first-ghost t.1.0 t.1.1.1.0) s (at_exit Tf tt (t.1.0, (t.1.1.1.0, tt)) ls)))))) (id⊢ 𝓤 (Cf.post yf w)) $
          await ! tt $ pick ! (λ s. split ! $ move ! (1 ∷ []) $ pick ! (λ ms. split ! $ drop ! $ use1 𝓛 (raw (fact 𝓤 (gives t.1.0 t.1.1.1.0 s))) (ag.first-says t.1.0 t.1.1.1.0 s ms) $ heard ! _ (λ gv. split ! $ drop ! $ peeks ! S (Is S) (shows 𝓛 S) s (w ∷ []) (λ is. drop ! $
          -- [the second parameter; the table; the tokens; what f requires; the locals]
          lands_as ! (pr.spelled s w is) refl (subst (Of (ty_struct pr.title (two pr.first pr.second))) (pr.spelled s w is) (pr.typed M 𝓤 𝓛 s w is).0) $
          sets ! (addr ! (through ! refl (stop !))) refl (tt, tt) $
          sets ! (of_opd ! (get_in ! (fld ! pr.first_is (stop !)) (sub ! 0 pr.first_is (whole !)))) refl (pr.typed M 𝓤 𝓛 s w is).1 $
          owned ! A (Is A) (pr.a-makes M 𝓤 𝓛) (pr.a s) _ (pr.a-is s w is) $ owned ! B (Is B) (pr.b-makes M 𝓤 𝓛) (pr.b s) _ (pr.b-is s w is) $
          nothing ! $ move ! (1 ∷ 0 ∷ []) $ fjoin ! $ move ! (2 ∷ 0 ∷ []) $ fjoin ! $ move ! (1 ∷ 0 ∷ []) $ fjoin ! $ move ! (1 ∷ 0 ∷ []) $ fjoin ! $ move ! (1 ∷ 0 ∷ []) $ join ! $
          move ! (1 ∷ []) $ use1 𝓛 (raw ((c' κs (to κs t s)).requires (ag.ghost κs t s gh))) (ag.asks κs t s gv gh) $ move ! (1 ∷ 0 ∷ []) $ join ! $ use1 𝓛 (raw (C'.pre (y' s))) (id⊢ 𝓤 (C'.pre (y' s))) $
          calls_from ! (fm_of 𝓤 H 𝓛.laws 𝓣) (raw (C'.pre (y' s))) (v₀ ∷ pr.a-val (pr.a s) ∷ y ∷ pr.b-val (pr.b s) ∷ []) (C'.post (y' s)) (met (y' s))
          (and_then ! (get ! refl) (and_then ! (get ! refl) (and_then ! (get ! refl) (and_then ! (get_in ! (fld ! pr.second_is (stop !)) (sub ! 1 pr.second_is (whole !))) (no_more !))))) (λ u.
          use1 𝓛 (later (some (λ (r : X.Denot). (raw (toks 𝓛 1 κs qs) ⊛ ‵ (X.own_val r (u ∷ []))) ⊛ some (λ (ls : Lasts T' κs (to κs t s)). ‵ (lasts T' κs (to κs t s) ls) ⊛ raw ((c' κs (to κs t s)).ensures (ag.ghost κs t s gh) r (at_exit T' κs (to κs t s) ls)))))) (id⊢ 𝓤 (C'.post (y' s) u)) $
          await ! tt $ pick ! (λ r. split ! $ move ! (1 ∷ []) $ pick ! (λ ls. split ! $ move ! (2 ∷ []) $ split ! $ move ! (1 ∷ []) $ peeks ! X (Is X) (shows 𝓛 X) r (u ∷ []) (λ is'.
          -- [what g's answer owns; the tokens; the last values; what g ensures; the locals]
          lands_as ! refl refl (ax.typed M 𝓤 𝓛 r u is') $ use1 𝓛 (raw (C''.pre (y'' r u))) (at-last r u) $
          calls_from ! (fm_of 𝓤 H 𝓛.laws 𝓣) (raw (C''.pre (y'' r u))) (u ∷ []) (C''.post (y'' r u)) (met' (y'' r u)) (and_then ! (get ! refl) (no_more !)) (λ v.
          use1 𝓛 (later (some (λ (d : Y.Denot). (raw (emp 𝓤) ⊛ ‵ (Y.own_val d (v ∷ []))) ⊛ some (λ (os : Lasts T'' tt (r, tt)). ‵ (lasts T'' tt (r, tt) os) ⊛ raw ((c'' tt (r, tt)).ensures (ag.last-ghost r) d (at_exit T'' tt (r, tt) os)))))) (id⊢ 𝓤 (C''.post (y'' r u) v)) $
          await ! tt $ pick ! (λ d. split ! $ move ! (1 ∷ []) $ pick ! (λ os. split ! $ drop ! $ move ! (1 ∷ []) $ split ! $ drop ! $ peeks ! Y (Is Y) (shows 𝓛 Y) d (v ∷ []) (λ is''.
          lands_as ! refl refl (ay.typed M 𝓤 𝓛 d v is'') $ returns ! (look_at ! 0 refl) $ free_all ! refl $ updating ! $ at_once ! $
          -- [what the answer owns; what h ensures; the tokens; the last values; what g ensures]
          show ! (λ (d' : Y.Denot). sep 𝓤 (Back 𝓛 T.signature (κs, qs, tt, t, (v₀ ∷ [], vss)) v d') (ensured 𝓛 T c κs t gh d')) d $ move ! (2 ∷ 0 ∷ []) $ join ! $ frame ! $
          show ! (λ (ls' : Lasts T κs t). sep 𝓤 (sem 𝓛 (lasts T κs t ls')) ((c κs t).ensures gh d (at_exit T κs t ls'))) (back κs t s ls) $
          move ! (1 ∷ []) $ use1 𝓛 (‵ (lasts T κs t (back κs t s ls))) (says-lasts κs t s ls) $ frame ! $ move ! (1 ∷ 0 ∷ []) $ by ! (ag.says κs t s gv gh r ls d os)))))))))))))))

    pub parted : Meets 𝓛 T.signature (WpFn 𝓤 H 𝓣.C 𝓣.Λ code) (closing 𝓛 T c)
    parted = enters-at 𝓛 1 (λ κs. MutRef (named 0) κs.0 (row TT)) (plain (λ _. P) ∷ plain (λ _. V) ∷ plain (λ _. Q) ∷ []) (plain (λ _. Y)) (λ κs. mut_vals) (λ κs. mut_Tells (named 0) κs.0 (row TT)) (closing 𝓛 T c) (WpFn 𝓤 H 𝓣.C 𝓣.Λ code) (λ κs qs t vss gh are.
        subst (λ (vs : List Val). ent 𝓤 (Pre κs qs t vss gh are) (WpFn 𝓤 H 𝓣.C 𝓣.Λ code (vptr t.0.ref_ptr.0 t.0.ref_ptr.1 ∷ vs) (Out κs qs t vss gh are)))
        (sym (λ i. x-one κs qs t vss gh are i ++ (y-one κs qs t vss gh are i ++ (z-one κs qs t vss gh are i ++ [])))) (core κs qs t vss gh are))
