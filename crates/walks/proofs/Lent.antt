-- A thin function on a `&mut` to a plain struct that lends some of its fields, as `&mut` and as `&`, and reads others, meets its contract, if the function beneath it, which takes those as parameters, meets one that says the same.
--     fn f(table: &mut T, ..) -> A { g(&mut table.x, &table.y, table.n, .., ..) }      with      fn g(x: &mut X, y: &Y, n: N, .., ..) -> A
--     Agrees       from f's contract to g's.        lent       the theorem. g's first l lifetimes are those of the fields that are lent, and its others are f's others
-- Assumes nothing.
use mathlib.Core.Path.{◌≡◌, sym, ◌∙◌, ap, subst}
use Prim.Native.Nat.{ℕ, zero, suc}
use mathlib.Core.List.{List, [], ◌∷◌, ◌++◌, append-nil}
use seplogic.Ra.Ura.{Ura}
use base.Share
use base.Fraction.{full_share}
use mir.Syntax.{Callee, Fn, Ty, ty_struct, named, mut}
use mir.Raw.{raw as raw_ty}
use mir.Val.{Val, Vals, vptr, vstruct}
use base.Logic.{SProp, ent, sep, ex, all, wand, guard, ex_e, ex_i, via, mono_l, id⊢, all_e, apply∗}
use base.Fml.{Lft, GName, Share, Fml, fat, flft, fobs, fauth, fobor, fres}
use prog.Model.{fields_at}
use prog.Wp.{Tables, WpFn}
use types.Logic.{Logic, sem}
use contract.Lifetimes.{Lfts, Shares, toks}
use types.Kit.{‵, raw, some, given, later, ◌⊛◌, ◌$◌, ◌∵◌, !, qed, by, move, drop, use1, use2, use3, split, split3, join, pick, learn, recast, fsplit, fsplit3, fjoin, frame, await, updating, now as at_once, show, check, done}
use types.SemTy.{Body}
use types.Tokens.{lft_new, lft_end}
use sound.WpLaws.{fm_of}
use denote.RattleType.{RattleType, Valss, flat, owns}
use denote.Laws.{Is, Typed, shows}
use denote.Memory.{mem, pointee}
use denote.Ref.{MutRef, mut_vals, mut_Tells}
use denote.Signature.{Slot, plain, types_at}
use denote.Steps.{opens, closes, owned, peeks}
use denote.Struct.Struct.{Plains, layout}
use denote.Struct.Declared.{Declared, fields, shape, row}
use denote.Struct.Laws as LL
use denote.Struct.Steps.{spelt}
use denote.Triple.Clauses.{Ended, Clauses, Lasts, at_exit, lasts, ensured, closing}
use denote.Triple.End.{Kepts, lasts_of}
use denote.Triple.Entry.{Args}
use denote.Triple.Spec.{Meets, Back, triple_of}
use denote.Triple.Statement.{Triple}
use Rattle.walks.proofs.Enters.{enters}
use Rattle.walks.proofs.Changed.{Changer}
use Rattle.walks.proofs.Picks.{AllGood, values_of, picking, picks}
use Rattle.walks.proofs.Thin.{Of}
use Rattle.walks.proofs.Loans.{Parts, Whole, spelled, tys-of, AllIs, Ends, picks_of, Split, Names, slots, kepts, args, vals, flats, latest, others, good, cells, same, owed, lends-parts, parts-back}
use Rattle.walks.proofs.Handed.{Handed, plus, ats}

-- shares of the tokens of the callee's lifetimes: those of the lent parts are cut from the token of the one that is made, and what is left of it stays here
abbrev pub shares_of : (l m : ℕ) → Share → Shares m → Shares (plus l m)
shares_of zero m s qs = qs
shares_of (suc l) m s qs = (Share.left s, shares_of l m (Share.right s) qs)

abbrev pub rest_of : ℕ → Share → Share
rest_of zero s = s
rest_of (suc l) s = rest_of l (Share.right s)

module _ {M : Type 1} {𝓤 : Ura M} (𝓛 : Logic 𝓤) (m : ℕ) (α : Lft) (κs : Lfts m) (qs : Shares m) where
  open 𝓛 use {A}

  pub cut-toks : (l : ℕ) (s : Share) → ent 𝓤 (sep 𝓤 (A.lft α s) (toks 𝓛 m κs qs)) (sep 𝓤 (A.lft α (rest_of l s)) (toks 𝓛 (plus l m) (ats l m α κs) (shares_of l m s qs)))
  cut-toks zero s = id⊢ 𝓤 _
  cut-toks (suc l) s = qed 𝓛 (‵ (flft α s) ∷ raw (toks 𝓛 m κs qs) ∷ []) ∵ use1 𝓛 (‵ (flft α (Share.left s)) ⊛ ‵ (flft α (Share.right s))) (𝓛.lfts.lft_split α s) $ split ! $
      move ! (1 ∷ 2 ∷ []) $ use2 𝓛 (‵ (flft α (rest_of l (Share.right s))) ⊛ raw (toks 𝓛 (plus l m) (ats l m α κs) (shares_of l m (Share.right s) qs))) (cut-toks l (Share.right s)) $ split ! $ frame ! $ move ! (1 ∷ 0 ∷ []) $ done !

  pub join-toks : (l : ℕ) (s : Share) → ent 𝓤 (sep 𝓤 (A.lft α (rest_of l s)) (toks 𝓛 (plus l m) (ats l m α κs) (shares_of l m s qs))) (sep 𝓤 (A.lft α s) (toks 𝓛 m κs qs))
  join-toks zero s = id⊢ 𝓤 _
  join-toks (suc l) s = qed 𝓛 (‵ (flft α (rest_of l (Share.right s))) ∷ ‵ (flft α (Share.left s)) ∷ raw (toks 𝓛 (plus l m) (ats l m α κs) (shares_of l m (Share.right s) qs)) ∷ []) ∵ move ! (0 ∷ 2 ∷ []) $
      use2 𝓛 (‵ (flft α (Share.right s)) ⊛ raw (toks 𝓛 m κs qs)) (join-toks l (Share.right s)) $ split ! $ move ! (2 ∷ 0 ∷ []) $ use2 𝓛 (‵ (flft α s)) (𝓛.lfts.lft_join α s) $ frame ! $ done !

-- the shape of the contract of a function on the parts
abbrev pub Doer : (n : ℕ) (pt : Parts n) (ps : List (Slot n)) → Kepts ps → RattleType → Ended
Doer n pt ps ks X = record { signature = record { lifetimes = n; outlives = []; params = slots ps pt; result = plain (λ _. X) }; kept = kepts ps ks pt }

module _ {M : Type 1} {𝓤 : Ura M} (𝓛 : Logic 𝓤) (TT : Declared) (L : LL.Laws TT) (pl : Plains (fields TT)) (m l : ℕ) (pt : Parts (plus l m)) (sp : Split TT L pt) (ps : List (Slot (suc m))) (ks : Kepts ps) (ps' : List (Slot (plus l m))) (ks' : Kepts ps') (τs : List Ty) (hd : Handed m l ps ks ps' ks' τs)
    (X : RattleType) (δ : Ty) (typed : (r : X.Denot) (w : Val) → Is X r (w ∷ []) → Of δ w) (c : Clauses 𝓤 (Changer TT m ps ks X)) (c' : Clauses 𝓤 (Doer (plus l m) pt ps' ks' X)) where
  open 𝓛 use {H, A}

  abbrev T : Ended
  T = Changer TT m ps ks X

  abbrev T' : Ended
  T' = Doer (plus l m) pt ps' ks' X

  -- what the callee is handed, for the lifetime κ, under the names γs
  abbrev to : (κs : Lfts (suc m)) → Args T.signature κs → (κ : Lft) → Names pt → Args T'.signature (ats l m κ κs.1)
  to κs a κ γs = args ps' (ats l m κ κs.1) a.0.ref_ptr.0 a.0.ref_ptr.1 (hd.args κs κ a.1) pt (sp.apart a.0.now) γs

  -- what lies behind the reference last, and the last values of the others
  abbrev end : (κs : Lfts (suc m)) (a : Args T.signature κs) (κ : Lft) (γs : Names pt) → Lasts T' (ats l m κ κs.1) (to κs a κ γs) → Lasts T κs a
  end κs a κ γs ws = (
    sp.shut (latest ps' (ats l m κ κs.1) a.0.ref_ptr.0 a.0.ref_ptr.1 ks' (hd.args κs κ a.1) pt (sp.apart a.0.now) γs ws),
    hd.fins κs κ a.1 (others ps' (ats l m κ κs.1) a.0.ref_ptr.0 a.0.ref_ptr.1 ks' (hd.args κs κ a.1) pt (sp.apart a.0.now) γs ws),
  )

  pub record Agrees : Type 1 where
    pub ghost : (κs : Lfts (suc m)) (a : Args T.signature κs) (κ : Lft) (γs : Names pt) → (c κs a).ghost → (c' (ats l m κ κs.1) (to κs a κ γs)).ghost
    pub asks : (κs : Lfts (suc m)) (a : Args T.signature κs) (κ : Lft) (γs : Names pt) (g : (c κs a).ghost) → ent 𝓤 ((c κs a).requires g) ((c' (ats l m κ κs.1) (to κs a κ γs)).requires (ghost κs a κ γs g))
    pub says : (κs : Lfts (suc m)) (a : Args T.signature κs) (κ : Lft) (γs : Names pt) (g : (c κs a).ghost) (r : X.Denot) (ws : Lasts T' (ats l m κ κs.1) (to κs a κ γs))
        → ent 𝓤 ((c' (ats l m κ κs.1) (to κs a κ γs)).ensures (ghost κs a κ γs g) r (at_exit T' (ats l m κ κs.1) (to κs a κ γs) ws)) ((c κs a).ensures g r (at_exit T κs a (end κs a κ γs ws)))

  module _ (ends : (α : Lft) (κs : Lfts m) → Ends (ats l m α κs) α pt) (ag : Agrees) (f : Callee) (k : ℕ) (𝓣 : Tables 𝓤 H) (met : Triple 𝓤 (𝓣.C f) (triple_of 𝓛 T'.signature (closing 𝓛 T' c'))) where
    abbrev code : Fn
    code = picking (suc m) k mut δ (ty_struct TT.name (tys-of pt)) (pointee (row TT).written) τs (picks_of pt) f

    module _ (κs : Lfts (suc m)) (qs : Shares (suc m)) (a : Args T.signature κs) (vss : Valss (types_at ps κs)) (g : (c κs a).ghost) where
      abbrev b : ℕ
      b = a.0.ref_ptr.0

      abbrev o : ℕ
      o = a.0.ref_ptr.1

      abbrev γ : GName
      γ = a.0.ghost_name

      abbrev h : TT.D
      h = a.0.now

      abbrev x : Whole pt
      x = sp.apart h

      abbrev κ : Lft
      κ = κs.0

      abbrev q : Share
      q = qs.0

      abbrev R : RattleType
      R = row TT

      abbrev τT : Ty
      τT = ty_struct TT.name (tys-of pt)

      -- the lifetimes that the callee is given, of which the first l are one that is made for the call
      abbrev at : ℕ → Lfts (plus l m)
      at α = ats l m (α ∷ []) κs.1

      abbrev y' : ℕ → Names pt → (triple_of 𝓛 T'.signature (closing 𝓛 T' c')).Ghost
      y' α γs = ((at α, shares_of l m full_share qs.1, tt, to κs a (α ∷ []) γs, vals ps' (at α) b o (hd.vals κs (α ∷ []) vss) pt x), ag.ghost κs a (α ∷ []) γs g)

      abbrev Pre : SProp 𝓤
      Pre = sep 𝓤 (sep 𝓤 (sep 𝓤 (A.lft κ q) (toks 𝓛 m κs.1 qs.1)) (sem 𝓛 (owns (MutRef (named 0) κ R ∷ types_at ps κs) a (vptr b o ∷ [], vss)))) ((c κs a).requires g)

      abbrev Open : SProp 𝓤
      Open = sep 𝓤 (sem 𝓛 (fobor κ q (Body (mem R) b o γ))) (sep 𝓤 (sem 𝓛 (fobs γ (R.coded.code h))) (sem 𝓛 (fauth γ (R.coded.code h))))

      abbrev Kept : SProp 𝓤
      Kept = guard 𝓤 (AllIs pt x) (sep 𝓤 Open (sep 𝓤 (toks 𝓛 m κs.1 qs.1) (sep 𝓤 (sem 𝓛 (owns (types_at ps κs) a.1 vss)) ((c κs a).requires g))))

      -- the way back from the fields to the struct
      abbrev Way : SProp 𝓤
      Way = all 𝓤 (λ (us : Vals). wand 𝓤 (fields_at 𝓤 H full_share (tys-of pt) zero b o us) (H.at full_share τT b o (vstruct us)))

      abbrev Left : ℕ → Names pt → SProp 𝓤
      Left α γs = guard 𝓤 (AllIs pt x) (sep 𝓤 (A.lft (α ∷ []) (rest_of l full_share)) (sep 𝓤 (owed 𝓛 pt (at α) b o x γs) (sep 𝓤 Way Open)))

      abbrev Asked : SProp 𝓤
      Asked = ex 𝓤 (λ (α : ℕ). ex 𝓤 (λ (γs : Names pt). sep 𝓤 ((triple_of 𝓛 T'.signature (closing 𝓛 T' c')).pre (y' α γs)) (Left α γs)))

      abbrev Given' : Val → SProp 𝓤
      Given' w = ex 𝓤 (λ (α : ℕ). ex 𝓤 (λ (γs : Names pt). sep 𝓤 ((triple_of 𝓛 T'.signature (closing 𝓛 T' c')).post (y' α γs) w) (Left α γs)))

      abbrev Out : Val → SProp 𝓤
      Out = (triple_of 𝓛 T.signature (closing 𝓛 T c)).post ((κs, qs, tt, a, (vptr b o ∷ [], vss)), g)

      -- the struct's cell, as it is behind the reference and as its parts have it
      same-cell : (h' : TT.D) (x' : Whole pt) → LL.val TT L h' ≡ vstruct (spelled pt x') → H.at full_share (raw_ty (layout (shape TT))) b o (LL.val TT L h') ≡ H.at full_share (raw_ty τT) b o (vstruct (spelled pt x'))
      same-cell h' x' e = λ i. H.at full_share (raw_ty (sp.lies i)) b o (e i)

      -- there is one share: all of the cell
      abbrev Ready : Unit {0} → SProp 𝓤
      Ready u = guard 𝓤 (AllGood (tys-of pt) (spelled pt x) (picks_of pt)) (sep 𝓤 (H.at full_share (raw_ty τT) b o (vstruct (spelled pt x))) Kept)

      before : ent 𝓤 Pre (H.⇛ (ex 𝓤 Ready))
      before =
          qed 𝓛 ((((‵ (flft κ q) ⊛ raw (toks 𝓛 m κs.1 qs.1)) ⊛ ‵ (owns (MutRef (named 0) κ R ∷ types_at ps κs) a (vptr b o ∷ [], vss)))) ∷ raw ((c κs a).requires g) ∷ []) ∵ updating ! $ split ! $
          move ! (1 ∷ []) $ fsplit ! $ fsplit3 ! $ drop ! $ move ! (3 ∷ []) $ split ! $ move ! (2 ∷ 3 ∷ 0 ∷ []) $
          opens ! tt R {h = h} b o (λ vs. spelt ! R (Is R) (shows 𝓛 R) (LL.vals TT L) (LL.tells TT L) full_share h vs b o $ move ! (1 ∷ []) $ peeks ! R (Is R) (shows 𝓛 R) h (LL.vals TT L h) (λ is. drop ! $ at_once ! $ show ! Ready tt $
          check ! (good 𝓛 (tys-of pt) (spelled pt x) pt x sp.placed (sp.gets x) (sp.parts h is)) $
          recast 𝓛 (‵ (fat full_share (raw_ty τT) b o (vstruct (spelled pt x)))) (same-cell h x (sp.spells h)) $ frame ! $ check ! (sp.parts h is) $
          -- [the open borrow; obs; auth; the other tokens; the other parameters; what f requires]
          move ! (1 ∷ 2 ∷ []) $ join ! $ move ! (1 ∷ 0 ∷ []) $ join ! $ done !))

      mid : ent 𝓤 (sep 𝓤 (H.at full_share (raw_ty τT) b o (vstruct (spelled pt x))) Kept) (H.⇛ Asked)
      mid =
          qed 𝓛 (‵ (fat full_share (raw_ty τT) b o (vstruct (spelled pt x))) ∷ given (AllIs pt x) (raw Open ⊛ raw (toks 𝓛 m κs.1 qs.1) ⊛ ‵ (owns (types_at ps κs) a.1 vss) ⊛ raw ((c κs a).requires g)) ∷ []) ∵ updating ! $ move ! (1 ∷ []) $ learn ! (λ is. move ! (1 ∷ []) $ use1 𝓛 (‵ (fat full_share τT b o (vstruct (spelled pt x)))) (𝓛.laws.raw_at full_share τT b o (vstruct (spelled pt x))) $
          use1 𝓛 (raw (fields_at 𝓤 H full_share (tys-of pt) zero b o (spelled pt x)) ⊛ raw Way) (𝓛.laws.at_fields full_share TT.name (tys-of pt) b o (spelled pt x)) $ split ! $
          recast 𝓛 (raw (cells 𝓛 pt b o x)) (same 𝓛 zero pt sp.laid b o x) $ move ! (2 ∷ []) $ split ! $ move ! (1 ∷ []) $ split3 ! $
          -- [the other tokens; the other parameters; what f requires; the open borrow; the cells; the way back]
          lft_new ! tt (λ α. move ! (0 ∷ 1 ∷ []) $ use2 𝓛 (‵ (flft (α ∷ []) (rest_of l full_share)) ⊛ raw (toks 𝓛 (plus l m) (at α) (shares_of l m full_share qs.1))) (cut-toks 𝓛 m (α ∷ []) κs.1 qs.1 l full_share) $ split ! $ move ! (2 ∷ []) $ recast 𝓛 (‵ (owns (types_at ps' (at α)) (hd.args κs (α ∷ []) a.1) (hd.vals κs (α ∷ []) vss))) (λ i. sem 𝓛 (hd.own κs (α ∷ []) a.1 vss i)) $ move ! (5 ∷ 0 ∷ []) $
          use2 𝓛 (later (some (λ (γs : Names pt). ‵ (owns (types_at (slots ps' pt) (at α)) (to κs a (α ∷ []) γs) (vals ps' (at α) b o (hd.vals κs (α ∷ []) vss) pt x)) ⊛ raw (owed 𝓛 pt (at α) b o x γs))))
          (lends-parts 𝓛 ps' (at α) b o (hd.args κs (α ∷ []) a.1) (hd.vals κs (α ∷ []) vss) pt x is) $ await ! tt $ pick ! (λ γs. split ! $ at_once ! $
          show ! (λ (β : ℕ). ex 𝓤 (λ (δs : Names pt). sep 𝓤 ((triple_of 𝓛 T'.signature (closing 𝓛 T' c')).pre (y' β δs)) (Left β δs))) α $
          show ! (λ (δs : Names pt). sep 𝓤 ((triple_of 𝓛 T'.signature (closing 𝓛 T' c')).pre (y' α δs)) (Left α δs)) γs $
          -- [what is handed on; the lender's part; what is left of the new token; the tokens; what f requires; the open borrow; the way back]
          move ! (3 ∷ 0 ∷ []) $ join ! $ move ! (3 ∷ []) $ use1 𝓛 (raw ((c' (at α) (to κs a (α ∷ []) γs)).requires (ag.ghost κs a (α ∷ []) γs g))) (ag.asks κs a (α ∷ []) γs g) $ move ! (1 ∷ 0 ∷ []) $ join ! $ frame ! $
          check ! is $ move ! (1 ∷ 0 ∷ 3 ∷ 2 ∷ []) $ done !)))

      calls-it : (us : List Val) → flat (types_at ps κs) vss ≡ us → ent 𝓤 Asked (𝓣.C f (values_of b o (spelled pt x) (picks_of pt) ++ us) Given')
      calls-it us e = ex_e 𝓤 _ (λ α. ex_e 𝓤 _ (λ γs.
          subst (λ (vs : List Val). ent 𝓤 (sep 𝓤 ((triple_of 𝓛 T'.signature (closing 𝓛 T' c')).pre (y' α γs)) (Left α γs)) (𝓣.C f vs Given'))
          (flats ps' (at α) b o (hd.vals κs (α ∷ []) vss) (spelled pt x) pt x (sp.gets x) ∙ ap (λ (vs : List Val). values_of b o (spelled pt x) (picks_of pt) ++ vs) (hd.flats κs (α ∷ []) vss ∙ e))
          (via 𝓤 _ (mono_l 𝓤 (Left α γs) (met (y' α γs)))
          (fm_of 𝓤 H 𝓛.laws 𝓣 f (flat (types_at (slots ps' pt) (at α)) (vals ps' (at α) b o (hd.vals κs (α ∷ []) vss) pt x)) ((triple_of 𝓛 T'.signature (closing 𝓛 T' c')).post (y' α γs)) Given' (Left α γs)
          (λ w. via 𝓤 _ (ex_i 𝓤 (λ (δs : Names pt). sep 𝓤 ((triple_of 𝓛 T'.signature (closing 𝓛 T' c')).post (y' α δs) w) (Left α δs)) γs)
          (ex_i 𝓤 (λ (β : ℕ). ex 𝓤 (λ (δs : Names pt). sep 𝓤 ((triple_of 𝓛 T'.signature (closing 𝓛 T' c')).post (y' β δs) w) (Left β δs))) α))))))

      abbrev new : (α : ℕ) (γs : Names pt) → Lasts T' (at α) (to κs a (α ∷ []) γs) → Whole pt
      new α γs ws = latest ps' (at α) b o ks' (hd.args κs (α ∷ []) a.1) pt x γs ws

      abbrev rest : (α : ℕ) (γs : Names pt) → Lasts T' (at α) (to κs a (α ∷ []) γs) → Fml
      rest α γs ws = lasts_of (at α) ps' ks' (hd.args κs (α ∷ []) a.1) (others ps' (at α) b o ks' (hd.args κs (α ∷ []) a.1) pt x γs ws)

      back : (w : Val) → ent 𝓤 (Given' w) (H.⇛ (guard 𝓤 (Of δ w) (Out w)))
      back w =
          qed 𝓛 (some (λ (α : ℕ). some (λ (γs : Names pt). later (some (λ (r : X.Denot). (raw (toks 𝓛 (plus l m) (at α) (shares_of l m full_share qs.1)) ⊛ ‵ (X.own_val r (w ∷ []))) ⊛
          some (λ (ws : Lasts T' (at α) (to κs a (α ∷ []) γs)). ‵ (lasts T' (at α) (to κs a (α ∷ []) γs) ws) ⊛ raw ((c' (at α) (to κs a (α ∷ []) γs)).ensures (ag.ghost κs a (α ∷ []) γs g) r (at_exit T' (at α) (to κs a (α ∷ []) γs) ws)))))
          ⊛ given (AllIs pt x) (‵ (flft (α ∷ []) (rest_of l full_share)) ⊛ raw (owed 𝓛 pt (at α) b o x γs) ⊛ raw Way ⊛ ‵ (fobor κ q (Body (mem R) b o γ)) ⊛ ‵ (fobs γ (R.coded.code h)) ⊛ ‵ (fauth γ (R.coded.code h))))) ∷ []) ∵ updating ! $
          pick ! (λ α. pick ! (λ γs. split ! $ await ! tt $ pick ! (λ r. split ! $ move ! (1 ∷ []) $ pick ! (λ ws. split ! $ move ! (2 ∷ []) $ split ! $ move ! (1 ∷ []) $ peeks ! X (Is X) (shows 𝓛 X) r (w ∷ []) (λ is.
          -- [the result; the tokens; the last values; what g ensures; what is left]
          move ! (4 ∷ []) $ learn ! (λ iss. split ! $ move ! (1 ∷ []) $ split3 ! $
          -- [the lender's part; the way back; the open borrow; what is left of the new token; the result; the tokens; the last values; what g ensures]
          move ! (3 ∷ 5 ∷ []) $ use2 𝓛 (‵ (flft (α ∷ []) full_share) ⊛ raw (toks 𝓛 m κs.1 qs.1)) (join-toks 𝓛 m (α ∷ []) κs.1 qs.1 l full_share) $ split ! $ lft_end ! tt $
          -- [†; the other tokens; the lender's part; the way back; the open borrow; the result; the last values; what g ensures]
          move ! (0 ∷ 2 ∷ 6 ∷ []) $ use3 𝓛 (later (given (AllIs pt (new α γs ws)) (raw (cells 𝓛 pt b o (new α γs ws)) ⊛ ‵ (rest α γs ws)))) (parts-back 𝓛 ps' (at α) b o (hd.args κs (α ∷ []) a.1) ks' (α ∷ []) pt x γs ws (ends (α ∷ []) κs.1) iss) $ await ! tt $ learn ! (λ isn. split ! $
          recast 𝓛 (raw (fields_at 𝓤 H full_share (tys-of pt) zero b o (spelled pt (new α γs ws)))) (sym (same 𝓛 zero pt sp.laid b o (new α γs ws))) $
          -- [the fields; the other last values; the other tokens; the way back; the open borrow; the result; what g ensures]
          move ! (3 ∷ []) $ use1 𝓛 (raw (wand 𝓤 (fields_at 𝓤 H full_share (tys-of pt) zero b o (spelled pt (new α γs ws))) (H.at full_share τT b o (vstruct (spelled pt (new α γs ws)))))) (all_e 𝓤 (λ (us : Vals). wand 𝓤 (fields_at 𝓤 H full_share (tys-of pt) zero b o us) (H.at full_share τT b o (vstruct us))) (spelled pt (new α γs ws))) $
          move ! (1 ∷ 0 ∷ []) $ use2 𝓛 (‵ (fat full_share τT b o (vstruct (spelled pt (new α γs ws))))) (apply∗ 𝓤 (fields_at 𝓤 H full_share (tys-of pt) zero b o (spelled pt (new α γs ws))) (H.at full_share τT b o (vstruct (spelled pt (new α γs ws))))) $
          use1 𝓛 (‵ (fat full_share (raw_ty τT) b o (vstruct (spelled pt (new α γs ws))))) (𝓛.laws.at_raw full_share τT b o (vstruct (spelled pt (new α γs ws)))) $
          recast 𝓛 (‵ (fat full_share (raw_ty (layout (shape TT))) b o (LL.val TT L (sp.shut (new α γs ws))))) (sym (same-cell (sp.shut (new α γs ws)) (new α γs ws) (sp.spells' (new α γs ws)))) $
          owned ! R (Is R) (LL.makes TT pl 𝓛) (sp.shut (new α γs ws)) _ (sp.whole (new α γs ws) isn) $ move ! (4 ∷ []) $ split3 ! $ move ! (4 ∷ 3 ∷ 0 ∷ 1 ∷ 2 ∷ []) $
          closes ! tt R (sp.shut (new α γs ws)) (LL.vals TT L (sp.shut (new α γs ws))) b o $ at_once ! $ check ! (typed r w is) $ updating ! $ at_once ! $
          -- [obs at the new table; the borrow; the token; the other last values; the other tokens; the result; what g ensures]
          show ! (λ (r' : X.Denot). sep 𝓤 (Back 𝓛 T.signature (κs, qs, tt, a, (vptr b o ∷ [], vss)) w r') (ensured 𝓛 T c κs a g r')) r $
          move ! (2 ∷ 4 ∷ []) $ join ! $ move ! (0 ∷ 4 ∷ []) $ join ! $ frame ! $
          show ! (λ (us : Lasts T κs a). sep 𝓤 (sem 𝓛 (lasts T κs a us)) ((c κs a).ensures g r (at_exit T κs a us))) (end κs a (α ∷ []) γs ws) $
          move ! (2 ∷ []) $ recast 𝓛 (‵ (lasts_of κs ps ks a.1 (hd.fins κs (α ∷ []) a.1 (others ps' (at α) b o ks' (hd.args κs (α ∷ []) a.1) pt x γs ws)))) (λ i. sem 𝓛 (hd.lasts κs (α ∷ []) a.1 (others ps' (at α) b o ks' (hd.args κs (α ∷ []) a.1) pt x γs ws) i)) $
          move ! (1 ∷ []) $ use1 𝓛 (‵ (fres γ (R.coded.code (sp.shut (new α γs ws))))) (𝓛.names.obs-res γ (R.coded.code (sp.shut (new α γs ws)))) $ move ! (0 ∷ 2 ∷ []) $ fjoin ! $ fjoin ! $ frame ! $ by ! (ag.says κs a (α ∷ []) γs g r ws))))))))

      core : Typed τs (flat (types_at ps κs) vss) → ent 𝓤 Pre (WpFn 𝓤 H 𝓣.C 𝓣.Λ code (vptr b o ∷ flat (types_at ps κs) vss) Out)
      core ty = subst (λ (us : List Val). ent 𝓤 Pre (WpFn 𝓤 H 𝓣.C 𝓣.Λ code (vptr b o ∷ us) Out)) (append-nil (flat (types_at ps κs) vss))
          (picks 𝓛 𝓣.C 𝓣.Λ (fm_of 𝓤 H 𝓛.laws 𝓣) (suc m) k mut δ TT.name (tys-of pt) (pointee (row TT).written) τs (picks_of pt) f b o (spelled pt x) (flat (types_at ps κs) vss) ty (Unit {0}) (λ u. full_share) Pre (λ u. Kept) Asked Given' Out before (λ u. mid)
          (calls-it _ (sym (append-nil (flat (types_at ps κs) vss)))) back)

    pub lent : Meets 𝓛 T.signature (WpFn 𝓤 H 𝓣.C 𝓣.Λ code) (closing 𝓛 T c)
    lent = enters 𝓛 (suc m) (λ κs. MutRef (named 0) κs.0 (row TT)) ps (plain (λ _. X)) τs (λ κs. mut_vals) (λ κs. mut_Tells (named 0) κs.0 (row TT)) hd.types (hd.laws M 𝓤 𝓛) (closing 𝓛 T c) (WpFn 𝓤 H 𝓣.C 𝓣.Λ code) core
