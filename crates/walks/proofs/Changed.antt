-- A thin function on a `&mut` to a plain struct meets its contract, if the step beneath it meets one that says the same.
--     fn f(table: &mut T, ..) -> A { let step = g(*table, ..); *table = step.table; step.answer }
--     Step         what g returns: a struct of the answer and the table, in this order
--     Agrees       from f's contract to g's: what f is given g may have, and what g ensures is what f ensures, with the step's table as the last value behind the reference
--     changed      the theorem, for any parameters after the table (`Handed.antt`)
-- Assumes nothing.
use mathlib.Core.Path.{◌≡◌, sym, ◌∙◌, subst}
use Prim.Native.Nat.{ℕ, zero, suc}
use mathlib.Core.Option.{some as just}
use mathlib.Core.List.{List, [], ◌∷◌, append-nil}
use seplogic.Ra.Ura.{Ura}
use base.Fraction.{full_share}
use mir.Syntax.{Sym, Callee, Ty, named, ty_struct}
use mir.Raw.{raw as raw_ty}
use mir.Val.{Val, vptr, vstruct, vcons, vnil}
use base.Logic.{SProp, ent, sep, ex, guard}
use base.Fml.{Lft, GName, Share, fat, flft, fobs, fauth, fobor, fres}
use prog.Memory.{field_at}
use prog.Wp.{Tables, WpFn}
use types.Logic.{Logic, sem}
use contract.Lifetimes.{Lfts, Shares, toks}
use types.Kit.{‵, raw, some, later, ◌⊛◌, ◌$◌, ◌∵◌, !, qed, by, move, drop, use1, split, join, split3, pick, fsplit, fsplit3, fjoin, frame, await, updating, now as at_once, show, check, recast, done}
use types.SemTy.{Body}
use sound.WpLaws.{fm_of}
use denote.RattleType.{RattleType, Valss, flat, owns}
use denote.Exit.{yes}
use denote.Laws.{Is, Makes, Typed, shows}
use denote.Memory.{mem, pointee}
use denote.Ref.{MutRef, mut_vals, mut_Tells}
use denote.Signature.{Slot, plain, mut_ref_to, types_at}
use denote.Steps.{opens, closes, owned, peeks}
use denote.Struct.Struct.{Plains, layout}
use denote.Struct.Declared.{Declared, fields, shape, row}
use denote.Struct.Laws as LL
use denote.Struct.Steps.{spelt}
use denote.Triple.Clauses.{Ended, Clauses, Lasts, at_exit, lasts, ensured, closing}
use denote.Triple.End.{Kepts, lasts_of}
use denote.Triple.Entry.{Args}
use denote.Triple.Spec.{Meets, Back, triple_of}
use denote.Triple.Statement.{Triple}
use Rattle.walks.proofs.Enters.{enters}
use Rattle.walks.proofs.Handed.{Handed}
use Rattle.walks.proofs.Thin.{Of, two, changing, changes}

-- the contracts' shapes: of the function on the reference, and of the step
abbrev pub Changer : (TT : Declared) (m : ℕ) (ps : List (Slot (suc m))) → Kepts ps → RattleType → Ended
Changer TT m ps ks X = record { signature = record { lifetimes = suc m; outlives = []; params = mut_ref_to (0 ∷ []) tt (plain (λ _. row TT)) ∷ ps; result = plain (λ _. X) }; kept = (yes, ks) }

abbrev pub Taker : (TT : Declared) (m : ℕ) (ps : List (Slot m)) → Kepts ps → RattleType → Ended
Taker TT m ps ks X = record { signature = record { lifetimes = m; outlives = []; params = plain (λ _. row TT) ∷ ps; result = plain (λ _. X) }; kept = (yes, ks) }

-- the table's type as it lies in memory
abbrev pub lies : Declared → Ty
lies TT = layout (shape TT)

-- a struct S of an answer, of the type X, and the table
pub record Step {M : Type 1} {𝓤 : Ura M} (𝓛 : Logic 𝓤) (TT : Declared) (L : LL.Laws TT) (X S : RattleType) : Type 2 where
  pub title : Sym
  pub told : Ty
  pub told_at : ℕ
  pub table_at : ℕ
  pub told_is : field_at zero (two told (lies TT)) 0 ≡ just (told, told_at)
  pub table_is : field_at zero (two told (lies TT)) 1 ≡ just (lies TT, table_at)
  pub answer : S.Denot → X.Denot
  pub table : S.Denot → TT.D
  pub tells : X.Denot → Val
  pub spelled : (s : S.Denot) (w : Val) → Is S s (w ∷ []) → w ≡ vstruct (vcons (tells (answer s)) (vcons (LL.val TT L (table s)) vnil))
  pub typed : (s : S.Denot) (w : Val) → Is S s (w ∷ []) → Of (ty_struct title (two told (lies TT))) w × Of told (tells (answer s)) × Of (lies TT) (LL.val TT L (table s))
  pub answered : (s : S.Denot) (w : Val) → Is S s (w ∷ []) → Is X (answer s) (tells (answer s) ∷ [])
  pub tabled : (s : S.Denot) (w : Val) → Is S s (w ∷ []) → Is (row TT) (table s) (LL.vals TT L (table s))
  pub makes : Makes 𝓛 X (Is X)

module _ {M : Type 1} {𝓤 : Ura M} (𝓛 : Logic 𝓤) (TT : Declared) (L : LL.Laws TT) (pl : Plains (fields TT)) (m : ℕ) (ps : List (Slot (suc m))) (ks : Kepts ps) (ps' : List (Slot m)) (ks' : Kepts ps') (τs : List Ty) (hd : Handed m 0 ps ks ps' ks' τs)
    (X S : RattleType) (st : Step 𝓛 TT L X S) (c : Clauses 𝓤 (Changer TT m ps ks X)) (c' : Clauses 𝓤 (Taker TT m ps' ks' S)) where
  open 𝓛 use {H, A}

  abbrev T : Ended
  T = Changer TT m ps ks X

  abbrev T' : Ended
  T' = Taker TT m ps' ks' S

  -- what the step is handed
  abbrev to : (κs : Lfts (suc m)) → Args T.signature κs → Args T'.signature κs.1
  to κs a = (a.0.now, hd.args κs κs.0 a.1)

  pub record Agrees : Type 1 where
    pub ghost : (κs : Lfts (suc m)) (a : Args T.signature κs) → (c κs a).ghost → (c' κs.1 (to κs a)).ghost
    pub asks : (κs : Lfts (suc m)) (a : Args T.signature κs) (g : (c κs a).ghost) → ent 𝓤 ((c κs a).requires g) ((c' κs.1 (to κs a)).requires (ghost κs a g))
    pub says : (κs : Lfts (suc m)) (a : Args T.signature κs) (g : (c κs a).ghost) (s : S.Denot) (ws : Lasts T' κs.1 (to κs a))
        → ent 𝓤 ((c' κs.1 (to κs a)).ensures (ghost κs a g) s (at_exit T' κs.1 (to κs a) ws)) ((c κs a).ensures g (st.answer s) (at_exit T κs a (st.table s, hd.fins κs κs.0 a.1 ws.1)))

  module _ (ag : Agrees) (f : Callee) (k : ℕ) (𝓣 : Tables 𝓤 H) (met : Triple 𝓤 (𝓣.C f) (triple_of 𝓛 T'.signature (closing 𝓛 T' c'))) where
    module _ (κs : Lfts (suc m)) (qs : Shares (suc m)) (a : Args T.signature κs) (vss : Valss (types_at ps κs)) (g : (c κs a).ghost) where
      abbrev b : ℕ
      b = a.0.ref_ptr.0

      abbrev o : ℕ
      o = a.0.ref_ptr.1

      abbrev γ : GName
      γ = a.0.ghost_name

      abbrev h : TT.D
      h = a.0.now

      abbrev κ : Lft
      κ = κs.0

      abbrev q : Share
      q = qs.0

      abbrev R : RattleType
      R = row TT

      -- what the step's triple binds outside
      abbrev y' : (triple_of 𝓛 T'.signature (closing 𝓛 T' c')).Ghost
      y' = ((κs.1, qs.1, tt, to κs a, (LL.vals TT L h, hd.vals κs κs.0 vss)), ag.ghost κs a g)

      abbrev Pre : SProp 𝓤
      Pre = sep 𝓤 (sep 𝓤 (sep 𝓤 (A.lft κ q) (toks 𝓛 m κs.1 qs.1)) (sem 𝓛 (owns (MutRef (named 0) κ R ∷ types_at ps κs) a (vptr b o ∷ [], vss)))) ((c κs a).requires g)

      abbrev Asked : SProp 𝓤
      Asked = (triple_of 𝓛 T'.signature (closing 𝓛 T' c')).pre y'

      abbrev Kept : SProp 𝓤
      Kept = sep 𝓤 (sem 𝓛 (fobor κ q (Body (mem R) b o γ))) (sep 𝓤 (sem 𝓛 (fobs γ (R.coded.code h))) (sem 𝓛 (fauth γ (R.coded.code h))))

      before : ent 𝓤 Pre (H.⇛ (sep 𝓤 (H.at full_share (raw_ty (lies TT)) b o (LL.val TT L h)) (sep 𝓤 Asked Kept)))
      before =
          qed 𝓛 ((((‵ (flft κ q) ⊛ raw (toks 𝓛 m κs.1 qs.1)) ⊛ ‵ (owns (MutRef (named 0) κ R ∷ types_at ps κs) a (vptr b o ∷ [], vss)))) ∷ raw ((c κs a).requires g) ∷ []) ∵ updating ! $ split ! $
          move ! (1 ∷ []) $ fsplit ! $ fsplit3 ! $ drop ! $ move ! (3 ∷ []) $ split ! $ move ! (2 ∷ 3 ∷ 0 ∷ []) $
          opens ! tt R {h = h} b o (λ vs. spelt ! R (Is R) (shows 𝓛 R) (LL.vals TT L) (LL.tells TT L) full_share h vs b o $ at_once ! $ frame ! $
          -- [what the table owns; the open borrow; obs; auth; the other tokens; the other parameters; what f requires]
          move ! (5 ∷ []) $ recast 𝓛 (‵ (owns (types_at ps' κs.1) (hd.args κs κs.0 a.1) (hd.vals κs κs.0 vss))) (λ i. sem 𝓛 (hd.own κs κs.0 a.1 vss i)) $
          move ! (1 ∷ 0 ∷ []) $ fjoin ! $ move ! (4 ∷ 0 ∷ []) $ join ! $ move ! (4 ∷ []) $ use1 𝓛 (raw ((c' κs.1 (to κs a)).requires (ag.ghost κs a g))) (ag.asks κs a g) $
          move ! (1 ∷ 0 ∷ []) $ join ! $ frame ! $ done !)

      -- what the step has returned: its value, that value's machine value, and the last values of the other parameters
      abbrev Z : Type 0
      Z = (s : S.Denot) × (w : Val) × Is S s (w ∷ []) × Lasts T' κs.1 (to κs a)

      abbrev Said : S.Denot → Lasts T' κs.1 (to κs a) → SProp 𝓤
      Said s ws = (c' κs.1 (to κs a)).ensures (ag.ghost κs a g) s (at_exit T' κs.1 (to κs a) ws)

      abbrev Left : Z → SProp 𝓤
      Left z = sep 𝓤 Kept (sep 𝓤 (toks 𝓛 m κs.1 qs.1) (sep 𝓤 (sem 𝓛 (lasts T' κs.1 (to κs a) z.3)) (Said z.0 z.3)))

      abbrev Fits : Val → Z → Type 0
      Fits w z = (w ≡ vstruct (vcons (st.tells (st.answer z.0)) (vcons (LL.val TT L (st.table z.0)) vnil))) × Of (ty_struct st.title (two st.told (lies TT))) w × Of st.told (st.tells (st.answer z.0)) × Of (lies TT) (LL.val TT L (st.table z.0))

      back : (w : Val) → ent 𝓤 (sep 𝓤 ((triple_of 𝓛 T'.signature (closing 𝓛 T' c')).post y' w) Kept) (H.⇛ (ex 𝓤 (λ (z : Z). guard 𝓤 (Fits w z) (Left z))))
      back w =
          qed 𝓛 (later (some (λ (s : S.Denot). (raw (toks 𝓛 m κs.1 qs.1) ⊛ ‵ (S.own_val s (w ∷ []))) ⊛ some (λ (ws : Lasts T' κs.1 (to κs a)). ‵ (lasts T' κs.1 (to κs a) ws) ⊛ raw (Said s ws)))) ∷ raw Kept ∷ []) ∵ updating ! $ await ! tt $ pick ! (λ s.
          split ! $ move ! (1 ∷ []) $ pick ! (λ ws. move ! (1 ∷ []) $ split ! $ move ! (1 ∷ []) $ peeks ! S (Is S) (shows 𝓛 S) s (w ∷ []) (λ is. drop ! $ at_once ! $
          show ! (λ (z : Z). guard 𝓤 (Fits w z) (Left z)) (s, w, is, ws) $ check ! (st.spelled s w is, (st.typed s w is).0, (st.typed s w is).1, (st.typed s w is).2) $
          -- [the tokens; what the step ensures; the open borrow]
          move ! (2 ∷ []) $ frame ! $ frame ! $ done !)))

      ends : (z : Z) → ent 𝓤 (sep 𝓤 (H.at full_share (raw_ty (lies TT)) b o (LL.val TT L (st.table z.0))) (Left z)) ((triple_of 𝓛 T.signature (closing 𝓛 T c)).post ((κs, qs, tt, a, (vptr b o ∷ [], vss)), g) (st.tells (st.answer z.0)))
      ends (s, w, is, ws) =
          qed 𝓛 (‵ (fat full_share (raw_ty (lies TT)) b o (LL.val TT L (st.table s))) ∷ (‵ (fobor κ q (Body (mem R) b o γ)) ⊛ ‵ (fobs γ (R.coded.code h)) ⊛ ‵ (fauth γ (R.coded.code h))) ∷ raw (toks 𝓛 m κs.1 qs.1) ∷ ‵ (lasts T' κs.1 (to κs a) ws) ∷ raw (Said s ws) ∷ []) ∵ updating ! $
          owned ! R (Is R) (LL.makes TT pl 𝓛) (st.table s) _ (st.tabled s w is) $ move ! (2 ∷ []) $ split3 ! $ move ! (4 ∷ 3 ∷ 0 ∷ 1 ∷ 2 ∷ []) $ closes ! tt R (st.table s) (LL.vals TT L (st.table s)) b o $ at_once ! $
          -- [obs at the step's table; the borrow; the token; the other tokens; the last values; what the step ensures]
          show ! (λ (r : X.Denot). sep 𝓤 (Back 𝓛 T.signature (κs, qs, tt, a, (vptr b o ∷ [], vss)) (st.tells (st.answer s)) r) (ensured 𝓛 T c κs a g r)) (st.answer s) $
          move ! (2 ∷ 3 ∷ []) $ join ! $ owned ! X (Is X) st.makes (st.answer s) _ (st.answered s w is) $ move ! (1 ∷ 0 ∷ []) $ join ! $ frame ! $
          show ! (λ (us : Lasts T κs a). sep 𝓤 (sem 𝓛 (lasts T κs a us)) ((c κs a).ensures g (st.answer s) (at_exit T κs a us))) (st.table s, hd.fins κs κs.0 a.1 ws.1) $
          move ! (2 ∷ []) $ fsplit ! $ drop ! $ recast 𝓛 (‵ (lasts_of κs ps ks a.1 (hd.fins κs κs.0 a.1 ws.1))) (λ i. sem 𝓛 (hd.lasts κs κs.0 a.1 ws.1 i)) $
          move ! (1 ∷ []) $ use1 𝓛 (‵ (fres γ (R.coded.code (st.table s)))) (𝓛.names.obs-res γ (R.coded.code (st.table s))) $ move ! (0 ∷ 2 ∷ []) $ fjoin ! $ fjoin ! $ frame ! $ by ! (ag.says κs a g s ws)

      core : Typed τs (flat (types_at ps κs) vss) → ent 𝓤 Pre (WpFn 𝓤 H 𝓣.C 𝓣.Λ (changing (suc m) k st.title st.told (lies TT) (pointee R.written) τs f) (vptr b o ∷ flat (types_at ps κs) vss) ((triple_of 𝓛 T.signature (closing 𝓛 T c)).post ((κs, qs, tt, a, (vptr b o ∷ [], vss)), g)))
      core ty = subst (λ (us : List Val). ent 𝓤 Pre (WpFn 𝓤 H 𝓣.C 𝓣.Λ (changing (suc m) k st.title st.told (lies TT) (pointee R.written) τs f) (vptr b o ∷ us) ((triple_of 𝓛 T.signature (closing 𝓛 T c)).post ((κs, qs, tt, a, (vptr b o ∷ [], vss)), g)))) (append-nil (flat (types_at ps κs) vss))
          (changes 𝓛 𝓣.C 𝓣.Λ (fm_of 𝓤 H 𝓛.laws 𝓣) (suc m) k st.title st.told (lies TT) (pointee R.written) τs f st.told_at st.table_at st.told_is st.table_is b o (LL.val TT L h) (flat (types_at ps κs) vss) ty
          Pre Asked Kept ((triple_of 𝓛 T'.signature (closing 𝓛 T' c')).post y') ((triple_of 𝓛 T.signature (closing 𝓛 T c)).post ((κs, qs, tt, a, (vptr b o ∷ [], vss)), g))
          Z (λ z. st.tells (st.answer z.0)) (λ z. LL.val TT L (st.table z.0)) Left before
          (subst (λ (us : List Val). ent 𝓤 Asked (𝓣.C f (LL.val TT L h ∷ us) ((triple_of 𝓛 T'.signature (closing 𝓛 T' c')).post y'))) (hd.flats κs κs.0 vss ∙ sym (append-nil (flat (types_at ps κs) vss))) (met y')) back ends)

    pub changed : Meets 𝓛 T.signature (WpFn 𝓤 H 𝓣.C 𝓣.Λ (changing (suc m) k st.title st.told (lies TT) (pointee (row TT).written) τs f)) (closing 𝓛 T c)
    changed = enters 𝓛 (suc m) (λ κs. MutRef (named 0) κs.0 (row TT)) ps (plain (λ _. X)) τs (λ κs. mut_vals) (λ κs. mut_Tells (named 0) κs.0 (row TT)) hd.types (hd.laws M 𝓤 𝓛) (closing 𝓛 T c)
        (WpFn 𝓤 H 𝓣.C 𝓣.Λ (changing (suc m) k st.title st.told (lies TT) (pointee (row TT).written) τs f)) core
