-- A thin function on a `&` to a plain struct that lends some of its fields and reads others meets its contract, if the function beneath it, which takes those as parameters, meets one that says the same.
--     fn f(table: &T, ..) -> A { g(&table.x, table.n, .., ..) }      with      fn g<'a>(x: &'a [u16; 889], n: u8, .., ..) -> A
--     Field        a field that is handed on, lent or read
--     Agrees       from f's contract to g's.        picked, picked-into       the theorem, and the same where the last parameter is a `&mut [E]`. g's first lifetime is that of every field that is lent, and its others are f's others
-- Assumes nothing.
use mathlib.Core.Path.{◌≡◌, refl, sym, ◌∙◌, ap, subst}
use Prim.Native.Nat.{ℕ, zero, suc, ◌+◌}
use mathlib.Core.Option.{some as just}
use mathlib.Core.List.{List, [], ◌∷◌, ◌++◌, append-nil}
use seplogic.Ra.Ura.{Ura}
use mir.Fields.{get_v}
use mir.Syntax.{Callee, Fn, Lifetime, Ty, Tys, ty_ref, named, mut, imm}
use mir.Raw.{raw as raw_ty}
use mir.Val.{Val, Vals, vptr, vstruct, vcons, vnil, of_list}
use base.Logic.{SProp, ent, sep, ex, guard, ex_e, ex_i, via, snd∗, id⊢}
use base.Fml.{Lft, GName, Share, Fml, fat, flft}
use prog.Memory.{field_at}
use prog.Wp.{Tables, WpFn}
use types.Logic.{Logic, sem}
use contract.Lifetimes.{Lfts, Shares, toks}
use types.Kit.{‵, mean, raw, some, later, ◌⊛◌, ◌$◌, ◌∵◌, !, qed, by, move, drop, use1, use2, use3, split, join, pick, fsplit, fjoin, feq_i, frame, await, updating, now as at_once, show, check, done}
use sound.WpLaws.{fm_of}
use denote.RattleType.{RattleType, Denots, Valss, flat, owns, mirs}
use denote.Exit.{yes, left}
use denote.Laws.{Is, Ises, Are, Makes, Typed, Lawfuls, valss, shows, all_Typed}
use denote.Memory.{lone, part_at, shared_of, hidden_shr, pointee}
use denote.Opens.{Opens, Shut, twice_dup}
use denote.Ref.{ShrRef, shr_vals, shr_Tells}
use denote.Signature.{Slot, plain, shr_ref_to, types_at}
use denote.Slice.{slice_ty}
use denote.Steps.{looks, shuts, owned, peeks, nothing}
use denote.Struct.Struct.{to_tys}
use denote.Struct.Declared.{Declared, fields, row}
use denote.Struct.Laws as LL
use denote.Struct.Steps.{spelt}
use denote.Triple.Clauses.{Ended, Clauses, Lasts, at_exit, lasts, ensured, closing}
use denote.Triple.End.{Kepts, Fins, lasts_of}
use denote.Triple.Entry.{Args}
use denote.Triple.Spec.{Meets, Back, triple_of}
use denote.Triple.Statement.{Triple}
use borrow.Struct.Share.{Parts}
use Rattle.walks.proofs.Changed.{lies}
use Rattle.walks.proofs.Enters.{enters, enters-told}
use Rattle.walks.proofs.Picks.{Pick, lend, read, values_of, value_of, AllGood, picking, picks, picking-into, picks-into}
use Rattle.walks.proofs.Slices.{Lastly, lastly, Sliced, EndsSliced, sliced}
use Rattle.walks.proofs.Thin.{Of}

-- the shape of the contract of a function on a `&` to the table
abbrev pub Asker : (TT : Declared) (m : ℕ) (ps : List (Slot (suc m))) → Kepts ps → RattleType → Ended
Asker TT m ps ks X = record { signature = record { lifetimes = suc m; outlives = []; params = shr_ref_to (0 ∷ []) tt (plain (λ _. row TT)) ∷ ps; result = plain (λ _. X) }; kept = (yes, ks) }

-- the fields' types, and their machine values
abbrev pub tys : Declared → Tys
tys TT = to_tys (mirs (fields TT))

abbrev pub machine : (TT : Declared) → LL.Laws TT → TT.D → Vals
machine TT L h = of_list (flat (fields TT) (valss (fields TT) (LL.spells TT.parts L) (TT.to h)))

pub data Field {M : Type 1} {𝓤 : Ura M} (𝓛 : Logic 𝓤) (TT : Declared) (L : LL.Laws TT) : Type 2 where
  lent : (F : RattleType) (k d : ℕ) (sub : TT.D → F.Denot) → field_at zero (tys TT) k ≡ just (lone F.mir, d) → Parts 𝓛 (row TT) F (λ o. o + d) sub → Field 𝓛 TT L
  taken : (F : RattleType) (k d : ℕ) (sub : TT.D → F.Denot) → field_at zero (tys TT) k ≡ just (lone F.mir, d) → ((h : TT.D) → Is (row TT) h (LL.vals TT L h) → Is F (sub h) (get_v (machine TT L h) k ∷ []))
      → Makes 𝓛 F (Is F) → ((x : F.Denot) (w : Val) → Is F x (w ∷ []) → Of (lone F.mir) w) → Field 𝓛 TT L

module _ {M : Type 1} {𝓤 : Ura M} (𝓛 : Logic 𝓤) (TT : Declared) (L : LL.Laws TT) where
  open 𝓛 use {H, A}

  abbrev pub Fields : Type 2
  Fields = List (Field 𝓛 TT L)

  abbrev pub pick-of : Field 𝓛 TT L → Pick
  pick-of (lent F k d sub e pt) = lend imm k d (lone F.mir) (pointee F.written)
  pick-of (taken F k d sub e is mk of) = read k d (lone F.mir)

  abbrev pub picks_of : Fields → List Pick
  picks_of [] = []
  picks_of (f ∷ fs) = pick-of f ∷ picks_of fs

  abbrev pub Names : Fields → Type 0
  Names [] = Unit {0}
  Names (f ∷ fs) = GName × Names fs

  module _ (n : ℕ) where
    abbrev pub slot_of : Field 𝓛 TT L → Slot (suc n)
    slot_of (lent F k d sub e pt) = shr_ref_to (0 ∷ []) tt (plain (λ _. F))
    slot_of (taken F k d sub e is mk of) = plain (λ _. F)

    abbrev pub slots-of : Fields → List (Slot (suc n)) → List (Slot (suc n))
    slots-of [] ps = ps
    slots-of (f ∷ fs) ps = slot_of f ∷ slots-of fs ps

    abbrev pub kepts-of : (fs : Fields) (ps : List (Slot (suc n))) → Kepts ps → Kepts (slots-of fs ps)
    kepts-of [] ps ks = ks
    kepts-of (f ∷ fs) ps ks = (yes, kepts-of fs ps ks)

    -- the field's value as the callee sees it
    abbrev arg-of : (f : Field 𝓛 TT L) (κs : Lfts (suc n)) → ℕ → ℕ → TT.D → GName → ((slot_of f).row κs).Denot
    arg-of (lent F k d sub e pt) κs b o h γ = record { ref_ptr = (b, o + d); now = sub h }
    arg-of (taken F k d sub e is mk of) κs b o h γ = sub h

    abbrev pub args_of : (fs : Fields) (ps : List (Slot (suc n))) (κs : Lfts (suc n)) → ℕ → ℕ → TT.D → Names fs → Denots (types_at ps κs) → Denots (types_at (slots-of fs ps) κs)
    args_of [] ps κs b o h γs a = a
    args_of (f ∷ fs) ps κs b o h γs a = (arg-of f κs b o h γs.0, args_of fs ps κs b o h γs.1 a)

    abbrev vals-of : (fs : Fields) (ps : List (Slot (suc n))) (κs : Lfts (suc n)) → ℕ → ℕ → TT.D → Valss (types_at ps κs) → Valss (types_at (slots-of fs ps) κs)
    vals-of [] ps κs b o h vss = vss
    vals-of (f ∷ fs) ps κs b o h vss = (value_of b o (machine TT L h) (pick-of f) ∷ [], vals-of fs ps κs b o h vss)

    flats : (fs : Fields) (ps : List (Slot (suc n))) (κs : Lfts (suc n)) (b o : ℕ) (h : TT.D) (vss : Valss (types_at ps κs)) → flat (types_at (slots-of fs ps) κs) (vals-of fs ps κs b o h vss) ≡ values_of b o (machine TT L h) (picks_of fs) ++ flat (types_at ps κs) vss
    flats [] ps κs b o h vss = refl
    flats (f ∷ fs) ps κs b o h vss = ap (λ (us : List Val). value_of b o (machine TT L h) (pick-of f) ∷ us) (flats fs ps κs b o h vss)

    -- the last values of the parameters after the fields
    abbrev pub rest_of : (fs : Fields) (ps : List (Slot (suc n))) (ks : Kepts ps) (κs : Lfts (suc n)) (b o : ℕ) (h : TT.D) (γs : Names fs) (a : Denots (types_at ps κs)) → Fins κs (slots-of fs ps) (kepts-of fs ps ks) (args_of fs ps κs b o h γs a) → Fins κs ps ks a
    rest_of [] ps ks κs b o h γs a ws = ws
    rest_of (f ∷ fs) ps ks κs b o h γs a ws = rest_of fs ps ks κs b o h γs.1 a ws.1

    says-rest : (fs : Fields) (ps : List (Slot (suc n))) (ks : Kepts ps) (κs : Lfts (suc n)) (b o : ℕ) (h : TT.D) (γs : Names fs) (a : Denots (types_at ps κs)) (ws : Fins κs (slots-of fs ps) (kepts-of fs ps ks) (args_of fs ps κs b o h γs a))
        → ent 𝓤 (sem 𝓛 (lasts_of κs (slots-of fs ps) (kepts-of fs ps ks) (args_of fs ps κs b o h γs a) ws)) (sem 𝓛 (lasts_of κs ps ks a (rest_of fs ps ks κs b o h γs a ws)))
    says-rest [] ps ks κs b o h γs a ws = id⊢ 𝓤 (sem 𝓛 (lasts_of κs ps ks a ws))
    says-rest (f ∷ fs) ps ks κs b o h γs a ws = via 𝓤 (sem 𝓛 (lasts_of κs (slots-of fs ps) (kepts-of fs ps ks) (args_of fs ps κs b o h γs.1 a) ws.1))
        (snd∗ 𝓤 (sem 𝓛 (left (((slot_of f).row κs).exit yes) (arg-of f κs b o h γs.0) ws.0)) (sem 𝓛 (lasts_of κs (slots-of fs ps) (kepts-of fs ps ks) (args_of fs ps κs b o h γs.1 a) ws.1)))
        (says-rest fs ps ks κs b o h γs.1 a ws.1)

    -- each part is there
    good : (fs : Fields) (h : TT.D) → Is (row TT) h (LL.vals TT L h) → AllGood (tys TT) (machine TT L h) (picks_of fs)
    good [] h is = tt
    good (lent F k d sub e pt ∷ fs) h is = (e, good fs h is)
    good (taken F k d sub e at mk of ∷ fs) h is = ((e, of (sub h) _ (at h is)), good fs h is)

    -- the fields are made parameters: of what is lent, what the `&` to the table holds has what one to the field holds
    module _ (op : Opens 𝓛 (row TT)) (ps : List (Slot (suc n))) (κs : Lfts (suc n)) (q : Share) (b o : ℕ) (h : TT.D) (is : Is (row TT) h (LL.vals TT L h)) (a : Denots (types_at ps κs)) (vss : Valss (types_at ps κs)) where
      abbrev Made : (fs : Fields) → Names fs → Fml
      Made fs γs = owns (types_at (slots-of fs ps) κs) (args_of fs ps κs b o h γs a) (vals-of fs ps κs b o h vss)

      made : (fs : Fields) → ent 𝓤 (sep 𝓤 (sem 𝓛 (hidden_shr (row TT) κs.0 h b o)) (sep 𝓤 (A.lft κs.0 q) (sem 𝓛 (owns (types_at ps κs) a vss)))) (H.⇛ (ex 𝓤 (λ (γs : Names fs). sep 𝓤 (A.lft κs.0 q) (sem 𝓛 (Made fs γs)))))
      made [] = qed 𝓛 (‵ (hidden_shr (row TT) κs.0 h b o) ∷ ‵ (flft κs.0 q) ∷ ‵ (owns (types_at ps κs) a vss) ∷ []) ∵ updating ! $ at_once ! $ show ! (λ (γs : Names []). sep 𝓤 (A.lft κs.0 q) (sem 𝓛 (Made [] γs))) tt $ drop ! $ done !
      made (lent F k d sub e pt ∷ fs) =
          qed 𝓛 (‵ (hidden_shr (row TT) κs.0 h b o) ∷ ‵ (flft κs.0 q) ∷ ‵ (owns (types_at ps κs) a vss) ∷ []) ∵ updating ! $ twice_dup ! (shared_of (row TT) h b o) (op h b o).1 κs.0 $ move ! (0 ∷ 2 ∷ []) $
          use2 𝓛 (later (‵ (hidden_shr F κs.0 (sub h) b (o + d)) ⊛ ‵ (flft κs.0 q))) (pt κs.0 q h b o) $ await ! tt $ split ! $
          -- [the field's borrow; the token; the table's borrow; the other parameters]
          move ! (2 ∷ 1 ∷ 3 ∷ []) $ use3 𝓛 (later (some (λ (γs : Names fs). ‵ (flft κs.0 q) ⊛ ‵ (Made fs γs)))) (made fs) $ await ! tt $ pick ! (λ γs. split ! $
          at_once ! $ show ! (λ (δs : Names (lent F k d sub e pt ∷ fs)). sep 𝓤 (A.lft κs.0 q) (sem 𝓛 (Made (lent F k d sub e pt ∷ fs) δs))) (0, γs) $
          -- [the token; the others; the field's borrow]
          frame ! $ move ! (1 ∷ 0 ∷ []) $ feq_i ! (List Val) (vptr b (o + d) ∷ []) (vptr b (o + d) ∷ []) refl $ fjoin ! $ fjoin ! $ done !)
      made (taken F k d sub e at mk of ∷ fs) =
          qed 𝓛 (‵ (hidden_shr (row TT) κs.0 h b o) ∷ ‵ (flft κs.0 q) ∷ ‵ (owns (types_at ps κs) a vss) ∷ []) ∵ updating ! $
          use3 𝓛 (later (some (λ (γs : Names fs). ‵ (flft κs.0 q) ⊛ ‵ (Made fs γs)))) (made fs) $ await ! tt $ pick ! (λ γs. split ! $ at_once ! $
          show ! (λ (δs : Names (taken F k d sub e at mk of ∷ fs)). sep 𝓤 (A.lft κs.0 q) (sem 𝓛 (Made (taken F k d sub e at mk of ∷ fs) δs))) (0, γs) $ frame ! $
          owned ! F (Is F) mk (sub h) _ (at h is) $ fjoin ! $ done !)

    module _ (cp : LL.Copyables TT.parts) (fs : Fields) (ps : List (Slot (suc n))) (ks : Kepts ps) (σs : List Ty) (types : (κs : Lfts (suc n)) → mirs (types_at ps κs) ≡ σs) (laws : (κs : Lfts (suc n)) → Lawfuls 𝓛 (types_at ps κs))
        (X : RattleType) (δ : Ty) (typed : (r : X.Denot) (w : Val) → Is X r (w ∷ []) → Of δ w) where
      abbrev T : Ended
      T = Asker TT n ps ks X

      abbrev pub Getter : Ended
      Getter = record { signature = record { lifetimes = suc n; outlives = []; params = slots-of fs ps; result = plain (λ _. X) }; kept = kepts-of fs ps ks }

      module _ (c : Clauses 𝓤 T) (c' : Clauses 𝓤 Getter) where
        -- what the callee is handed
        abbrev to : (κs : Lfts (suc n)) → Args T.signature κs → Names fs → Args Getter.signature κs
        to κs a γs = args_of fs ps κs a.0.ref_ptr.0 a.0.ref_ptr.1 a.0.now γs a.1

        pub record Agrees : Type 1 where
          pub ghost : (κs : Lfts (suc n)) (a : Args T.signature κs) (γs : Names fs) → (c κs a).ghost → (c' κs (to κs a γs)).ghost
          pub asks : (κs : Lfts (suc n)) (a : Args T.signature κs) (γs : Names fs) (g : (c κs a).ghost) → ent 𝓤 ((c κs a).requires g) ((c' κs (to κs a γs)).requires (ghost κs a γs g))
          pub says : (κs : Lfts (suc n)) (a : Args T.signature κs) (γs : Names fs) (g : (c κs a).ghost) (r : X.Denot) (ws : Lasts Getter κs (to κs a γs))
              → ent 𝓤 ((c' κs (to κs a γs)).ensures (ghost κs a γs g) r (at_exit Getter κs (to κs a γs) ws)) ((c κs a).ensures g r (at_exit T κs a (tt, rest_of fs ps ks κs a.0.ref_ptr.0 a.0.ref_ptr.1 a.0.now γs a.1 ws)))

        module _ (ag : Agrees) (f : Callee) (k : ℕ) (𝓣 : Tables 𝓤 H) (met : Triple 𝓤 (𝓣.C f) (triple_of 𝓛 Getter.signature (closing 𝓛 Getter c'))) where
          abbrev code : Fn
          code = picking (suc n) k imm δ (lies TT) (pointee (row TT).written) σs (picks_of fs) f

          abbrev code-into : List Ty → Lifetime → Ty → Fn
          code-into τs ℓ ε = picking-into (suc n) k δ (lies TT) (pointee (row TT).written) τs ℓ ε (picks_of fs) f

          module _ (κs : Lfts (suc n)) (qs : Shares (suc n)) (a : Args T.signature κs) (vss : Valss (types_at ps κs)) (g : (c κs a).ghost) where
            abbrev b : ℕ
            b = a.0.ref_ptr.0

            abbrev o : ℕ
            o = a.0.ref_ptr.1

            abbrev h : TT.D
            h = a.0.now

            abbrev κ : Lft
            κ = κs.0

            abbrev q : Share
            q = qs.0

            abbrev R : RattleType
            R = row TT

            abbrev y' : Names fs → (triple_of 𝓛 Getter.signature (closing 𝓛 Getter c')).Ghost
            y' γs = ((κs, qs, tt, to κs a γs, vals-of fs ps κs b o h vss), ag.ghost κs a γs g)

            abbrev Pre : SProp 𝓤
            Pre = sep 𝓤 (sep 𝓤 (sep 𝓤 (A.lft κ q) (toks 𝓛 n κs.1 qs.1)) (sem 𝓛 (owns (ShrRef (named 0) κ R ∷ types_at ps κs) a (vptr b o ∷ [], vss)))) ((c κs a).requires g)

            abbrev Asked : SProp 𝓤
            Asked = ex 𝓤 (λ (γs : Names fs). (triple_of 𝓛 Getter.signature (closing 𝓛 Getter c')).pre (y' γs))

            abbrev Given' : Val → SProp 𝓤
            Given' w = ex 𝓤 (λ (γs : Names fs). (triple_of 𝓛 Getter.signature (closing 𝓛 Getter c')).post (y' γs) w)

            abbrev Kept : Share → SProp 𝓤
            Kept s = sep 𝓤 (sem 𝓛 (R.own_val h (LL.vals TT L h))) (sep 𝓤 (mean 𝓛 (Shut 𝓛 κ q (part_at R s h b o)))
                (sep 𝓤 (sem 𝓛 (hidden_shr R κ h b o)) (sep 𝓤 (toks 𝓛 n κs.1 qs.1) (sep 𝓤 (sem 𝓛 (owns (types_at ps κs) a.1 vss)) ((c κs a).requires g)))))

            abbrev Out : Val → SProp 𝓤
            Out = (triple_of 𝓛 T.signature (closing 𝓛 T c)).post ((κs, qs, tt, a, (vptr b o ∷ [], vss)), g)

            before : ent 𝓤 Pre (H.⇛ (ex 𝓤 (λ (s : Share). guard 𝓤 (AllGood (tys TT) (machine TT L h) (picks_of fs)) (sep 𝓤 (H.at s (raw_ty (lies TT)) b o (LL.val TT L h)) (Kept s)))))
            before =
                qed 𝓛 (((‵ (flft κ q) ⊛ raw (toks 𝓛 n κs.1 qs.1)) ⊛ ‵ (owns (ShrRef (named 0) κ R ∷ types_at ps κs) a (vptr b o ∷ [], vss))) ∷ raw ((c κs a).requires g) ∷ []) ∵ updating ! $ split ! $
                move ! (1 ∷ []) $ fsplit ! $ fsplit ! $ drop ! $ move ! (2 ∷ []) $ split ! $ move ! (2 ∷ 0 ∷ []) $
                looks ! tt R (LL.copied TT cp 𝓛).opens h b o (λ s vs. spelt ! R (Is R) (shows 𝓛 R) (LL.vals TT L) (LL.tells TT L) s h vs b o $ move ! (1 ∷ []) $
                peeks ! R (Is R) (shows 𝓛 R) h (LL.vals TT L h) (λ is. at_once ! $ show ! (λ (s' : Share). guard 𝓤 (AllGood (tys TT) (machine TT L h) (picks_of fs)) (sep 𝓤 (H.at s' (raw_ty (lies TT)) b o (LL.val TT L h)) (Kept s'))) s $ check ! (good fs h is) $
                move ! (1 ∷ 0 ∷ []) $ done !))

            mid : (s : Share) → ent 𝓤 (sep 𝓤 (H.at s (raw_ty (lies TT)) b o (LL.val TT L h)) (Kept s)) (H.⇛ Asked)
            mid s =
                qed 𝓛 (‵ (fat s (raw_ty (lies TT)) b o (LL.val TT L h)) ∷ ‵ (R.own_val h (LL.vals TT L h)) ∷ Shut 𝓛 κ q (part_at R s h b o) ∷ ‵ (hidden_shr R κ h b o) ∷ raw (toks 𝓛 n κs.1 qs.1) ∷ ‵ (owns (types_at ps κs) a.1 vss) ∷ raw ((c κs a).requires g) ∷ []) ∵ updating ! $
                move ! (1 ∷ []) $ peeks ! R (Is R) (shows 𝓛 R) h (LL.vals TT L h) (λ is. move ! (1 ∷ 0 ∷ []) $ shuts ! tt R s h (LL.vals TT L h) b o $
                -- [the token; the table's borrow; the other tokens; the other parameters; what f requires]
                move ! (1 ∷ 0 ∷ 3 ∷ []) $ use3 𝓛 (later (some (λ (γs : Names fs). ‵ (flft κ q) ⊛ ‵ (Made (LL.copied TT cp 𝓛).opens ps κs q b o h is a.1 vss fs γs)))) (made (LL.copied TT cp 𝓛).opens ps κs q b o h is a.1 vss fs) $ await ! tt $ pick ! (λ γs. split ! $ at_once ! $
                show ! (λ (δs : Names fs). (triple_of 𝓛 Getter.signature (closing 𝓛 Getter c')).pre (y' δs)) γs $
                move ! (0 ∷ 2 ∷ []) $ join ! $ move ! (0 ∷ 1 ∷ []) $ join ! $ frame ! $ by ! (ag.asks κs a γs g)))

            -- the call, at the values as they stand in the caller's parameters
            calls-it : (us : List Val) → flat (types_at ps κs) vss ≡ us → ent 𝓤 Asked (𝓣.C f (values_of b o (machine TT L h) (picks_of fs) ++ us) Given')
            calls-it us e = ex_e 𝓤 (λ (γs : Names fs). (triple_of 𝓛 Getter.signature (closing 𝓛 Getter c')).pre (y' γs)) (λ γs.
                subst (λ (vs : List Val). ent 𝓤 ((triple_of 𝓛 Getter.signature (closing 𝓛 Getter c')).pre (y' γs)) (𝓣.C f vs Given')) (flats fs ps κs b o h vss ∙ ap (λ (vs : List Val). values_of b o (machine TT L h) (picks_of fs) ++ vs) e)
                (via 𝓤 (𝓣.C f (flat (types_at (slots-of fs ps) κs) (vals-of fs ps κs b o h vss)) ((triple_of 𝓛 Getter.signature (closing 𝓛 Getter c')).post (y' γs))) (met (y' γs))
                (𝓣.mono f (flat (types_at (slots-of fs ps) κs) (vals-of fs ps κs b o h vss)) ((triple_of 𝓛 Getter.signature (closing 𝓛 Getter c')).post (y' γs)) Given' (λ w. ex_i 𝓤 (λ (δs : Names fs). (triple_of 𝓛 Getter.signature (closing 𝓛 Getter c')).post (y' δs) w) γs))))

            back : (w : Val) → ent 𝓤 (Given' w) (H.⇛ (guard 𝓤 (Of δ w) (Out w)))
            back w = qed 𝓛 (some (λ (γs : Names fs). later (some (λ (r : X.Denot). (raw (toks 𝓛 (suc n) κs qs) ⊛ ‵ (X.own_val r (w ∷ []))) ⊛
                some (λ (ws : Lasts Getter κs (to κs a γs)). ‵ (lasts Getter κs (to κs a γs) ws) ⊛ raw ((c' κs (to κs a γs)).ensures (ag.ghost κs a γs g) r (at_exit Getter κs (to κs a γs) ws)))))) ∷ []) ∵ updating ! $
                pick ! (λ γs. await ! tt $ pick ! (λ r. split ! $ move ! (1 ∷ []) $ pick ! (λ ws. split ! $ move ! (2 ∷ []) $ split ! $ move ! (1 ∷ []) $
                peeks ! X (Is X) (shows 𝓛 X) r (w ∷ []) (λ is. at_once ! $ check ! (typed r w is) $ updating ! $ at_once ! $
                -- [the result; the tokens; the last values; what g ensures]
                show ! (λ (r' : X.Denot). sep 𝓤 (Back 𝓛 T.signature (κs, qs, tt, a, (vptr b o ∷ [], vss)) w r') (ensured 𝓛 T c κs a g r')) r $
                move ! (1 ∷ 0 ∷ []) $ join ! $ frame ! $
                show ! (λ (us : Lasts T κs a). sep 𝓤 (sem 𝓛 (lasts T κs a us)) ((c κs a).ensures g r (at_exit T κs a us))) (tt, rest_of fs ps ks κs b o h γs a.1 ws) $
                use1 𝓛 (‵ (lasts_of κs ps ks a.1 (rest_of fs ps ks κs b o h γs a.1 ws))) (says-rest fs ps ks κs b o h γs a.1 ws) $ nothing ! $ fjoin ! $ frame ! $ by ! (ag.says κs a γs g r ws)))))

            core : Typed σs (flat (types_at ps κs) vss) → ent 𝓤 Pre (WpFn 𝓤 H 𝓣.C 𝓣.Λ code (vptr b o ∷ flat (types_at ps κs) vss) Out)
            core ty = subst (λ (us : List Val). ent 𝓤 Pre (WpFn 𝓤 H 𝓣.C 𝓣.Λ code (vptr b o ∷ us) Out)) (append-nil (flat (types_at ps κs) vss))
                (picks 𝓛 𝓣.C 𝓣.Λ (fm_of 𝓤 H 𝓛.laws 𝓣) (suc n) k imm δ TT.name (tys TT) (pointee (row TT).written) σs (picks_of fs) f b o (machine TT L h) (flat (types_at ps κs) vss) ty Share (λ s. s) Pre Kept Asked Given' Out before mid
                (calls-it _ (sym (append-nil (flat (types_at ps κs) vss)))) back)

            core-into : (τs : List Ty) (ℓ : Lifetime) (ε : Ty) → Lastly τs (slice_ty (ty_ref ℓ mut ε)) (flat (types_at ps κs) vss) → EndsSliced (flat (types_at ps κs) vss) → ent 𝓤 Pre (WpFn 𝓤 H 𝓣.C 𝓣.Λ (code-into τs ℓ ε) (vptr b o ∷ flat (types_at ps κs) vss) Out)
            core-into τs ℓ ε (us, u, e, ty, of) points = shr_slice_at (sliced us u _ e points)
              where
                shr_slice_at : Sliced u → ent 𝓤 Pre (WpFn 𝓤 H 𝓣.C 𝓣.Λ (code-into τs ℓ ε) (vptr b o ∷ flat (types_at ps κs) vss) Out)
                shr_slice_at (i, j, x, e') =
                    let all : flat (types_at ps κs) vss ≡ us ++ (vstruct (vcons (vptr i j) (vcons x vnil)) ∷ []) = e ∙ ap (λ (v : Val). us ++ (v ∷ [])) e' in
                    subst (λ (vs : List Val). ent 𝓤 Pre (WpFn 𝓤 H 𝓣.C 𝓣.Λ (code-into τs ℓ ε) (vptr b o ∷ vs) Out)) (sym all)
                    (picks-into 𝓛 𝓣.C 𝓣.Λ (fm_of 𝓤 H 𝓛.laws 𝓣) (suc n) k δ TT.name (tys TT) (pointee (row TT).written) τs ℓ ε (picks_of fs) f b o (machine TT L h) us ty i j x (subst (Of (slice_ty (ty_ref ℓ mut ε))) e' of) Pre Kept Asked Given' Out before mid (calls-it _ all) back)

          pub picked : Meets 𝓛 T.signature (WpFn 𝓤 H 𝓣.C 𝓣.Λ code) (closing 𝓛 T c)
          picked = enters 𝓛 (suc n) (λ κs. ShrRef (named 0) κs.0 (row TT)) ps (plain (λ _. X)) σs (λ κs. shr_vals) (λ κs. shr_Tells (named 0) κs.0 (row TT)) types laws (closing 𝓛 T c) (WpFn 𝓤 H 𝓣.C 𝓣.Λ code) core

          -- the last parameter's machine value is a pointer and a count, as its type's relation says (`Handed.antt`'s `ends`)
          pub picked-into : (τs : List Ty) (ℓ : Lifetime) (ε : Ty) → σs ≡ τs ++ (slice_ty (ty_ref ℓ mut ε) ∷ [])
              → ((κs : Lfts (suc n)) (a : Denots (types_at ps κs)) (vss : Valss (types_at ps κs)) → Are (types_at ps κs) (Ises (types_at ps κs)) a vss → EndsSliced (flat (types_at ps κs) vss))
              → Meets 𝓛 T.signature (WpFn 𝓤 H 𝓣.C 𝓣.Λ (code-into τs ℓ ε)) (closing 𝓛 T c)
          picked-into τs ℓ ε e points = enters-told 𝓛 (suc n) (λ κs. ShrRef (named 0) κs.0 (row TT)) ps (plain (λ _. X)) σs (λ κs. shr_vals) (λ κs. shr_Tells (named 0) κs.0 (row TT)) types laws (closing 𝓛 T c) (WpFn 𝓤 H 𝓣.C 𝓣.Λ (code-into τs ℓ ε))
              (λ κs qs a vss g are. core-into κs qs a vss g τs ℓ ε (lastly τs (slice_ty (ty_ref ℓ mut ε)) (flat (types_at ps κs) vss) (subst (λ (ρs : List Ty). Typed ρs (flat (types_at ps κs) vss)) (types κs ∙ e) (all_Typed 𝓛 (types_at ps κs) (laws κs) a.1 vss are))) (points κs a.1 vss are))
