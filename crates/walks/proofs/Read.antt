-- A thin function on a `&` to a plain struct that asks what the struct reads as, and then hands that on with some of its arrays, lent whole (`Arrays.antt`), meets its contract, if the two functions beneath it meet theirs and these say the same.
--     fn f(table: &T, y..) -> Y { g(k(table), &table.a, .., y..) }      with      fn k(table: &T) -> X      and      fn g(read: X, a: &[E], .., y..) -> Y
--     Agrees       from f's contract to those of k and g. What k ensures is a fact about the struct and its answer
--     read-first   the theorem, for any y, and a `&mut [E]` behind them or not (`Tails.antt`). g's first lifetimes are those of the arrays, and its others are f's others
-- Assumes nothing.
use mathlib.Core.Path.{◌≡◌, refl, sym, ◌∙◌, ap, subst}
use Prim.Native.Nat.{ℕ, suc}
use mathlib.Core.List.{List, [], ◌∷◌, ◌++◌, append-nil}
use seplogic.Ra.Ura.{Ura}
use mir.Syntax.{Callee, Fn, Ty, ty_ref, named, imm, place, copy, call, return, seq, local, value_local}
use mir.Val.{Val, vptr}
use base.Logic.{SProp, ent, emp, sep, id⊢}
use base.Fml.{Lft, Share, flft}
use prog.Wp.{Tables, WpFn}
use types.Logic.{Logic, sem}
use contract.Lifetimes.{Lfts, Shares, toks}
use contract.Monad.{fact}
use types.Kit.{‵, raw, some, later, ◌⊛◌, ◌$◌, ◌∵◌, !, qed, by, move, drop, use0, use1, use2, use3, recast, split, join, pick, fsplit, fjoin, feq_i, frame, await, updating, now as at_once, show, done}
use types.Run.{look, init, forget, stop, from, load, and_then, no_more, land, returns, enter, alloc1, alloc0, params1, pass1, pass0, free1, free0}
use sound.WpLaws.{fm_of}
use denote.Exit.{yes}
use denote.Laws.{Is, Ises, Are, Typed, shows, all_Typed}
use denote.Memory.{pointee, shared_of}
use denote.Opens.{Opens, twice_dup}
use denote.RattleType.{RattleType, Denots, Valss, flat, owns}
use denote.Ref.{Bor, ShrRef, shr_vals, shr_Tells}
use denote.Signature.{Slot, plain, types_at}
use denote.Steps.{peeks, nothing, heard}
use denote.Struct.Declared.{Declared, row}
use denote.Triple.Call.{calls_from}
use denote.Triple.Clauses.{Ended, Clauses, Lasts, at_exit, lasts, ensured, closing}
use denote.Triple.End.{Kepts, lasts_of}
use denote.Triple.Entry.{Args}
use denote.Triple.Spec.{Meets, Back, triple_of}
use denote.Triple.Statement.{Contract, Triple}
use Rattle.walks.proofs.Answered.{Answer}
use Rattle.walks.proofs.Arrays.{Lends, array_types, array_vals, slice_vals, lending-arrays, slice-copies, slots_of, kepts_of, args_of, vals_of, flats, rest_of, says-rest, At, made, array-typed, lends-arrays, arrays-read}
use Rattle.walks.proofs.Enters.{enters-at}
use Rattle.walks.proofs.Frames.{locals, copies, past, allocs-all, passes-all, frees_all, from_at, operands}
use Rattle.walks.proofs.Handed.{Handed, plus, ats}
use Rattle.walks.proofs.Lent.{shares_of, rest_of as rest-share, cut-toks, join-toks}
use Rattle.walks.proofs.Picked.{Asker}
use Rattle.walks.proofs.Slices.{lent-last, last-lent}
use Rattle.walks.proofs.Tails.{Tail, nothing-more, lent-on, tail_types, pointers, slices, lending, Points, Split, split-at, pointer_vals, tail-typed, pointers-typed, slices-typed, lends-tail, beyond-all, after-all, second-all, third-all, Inside, results-stand, pointers-stand, slices-stand}

-- local i of those after f's parameters: the y and the tail
abbrev pub place_of : (τs : List Ty) (tl : Tail) → ℕ → ℕ
place_of τs tl i = suc (suc (past (past i (tail_types tl)) τs))

module _ {M : Type 1} {𝓤 : Ura M} {𝓛 : Logic 𝓤} {TT : Declared} {n : ℕ} where
  -- m and c count lifetimes and parameters; δ is the answer's type, and ξ that of what the struct reads as
  abbrev pub reading : (m c : ℕ) (δ ξ : Ty) (τs : List Ty) (tl : Tail) → Lends 𝓛 TT n → (k g : Callee) → Fn
  reading m c δ ξ τs tl fs k g = record {
    lifetimes = m;
    outlives = [];
    ty_params = [];
    givens = 0;
    params = c;
    locals = local δ value_local ∷ local (ty_ref (named 0) imm (pointee (row TT).written)) value_local ∷ locals τs (locals (tail_types tl) (local ξ value_local ∷ locals (array_types fs) (locals (pointers tl) (locals (slices tl) []))));
    body = seq (call k (copy (place 1 []) ∷ []) (place (place_of τs tl 0) []))
        (lending-arrays (place_of τs tl 1) fs
        (lending tl (suc (suc (past 0 τs))) (place_of τs tl (suc (past 0 (array_types fs)))) (place_of τs tl (suc (past (past 0 (pointers tl)) (array_types fs))))
        (seq (call g (copy (place (place_of τs tl 0) []) ∷ slice-copies (place_of τs tl 1) fs (copies 2 τs (copies (place_of τs tl (suc (past (past 0 (pointers tl)) (array_types fs)))) (slices tl) []))) (place 0 [])) return)));
  }

-- a `&mut [E]` that is the last of the y
points : {M : Type 1} {𝓤 : Ura M} (𝓛 : Logic 𝓤) (m l : ℕ) (ps : List (Slot (suc m))) (ks : Kepts ps) (ps' : List (Slot (plus l m))) (ks' : Kepts ps') (τs : List Ty) (hd : Handed m l ps ks ps' ks' τs) (σs : List Ty) (tl : Tail) → τs ≡ σs ++ tail_types tl
    → (κs : Lfts (suc m)) (a : Denots (types_at ps κs)) (vss : Valss (types_at ps κs)) → Are (types_at ps κs) (Ises (types_at ps κs)) a vss → Points tl (flat (types_at ps κs) vss)
points {M} {𝓤} 𝓛 m l ps ks ps' ks' τs hd σs nothing-more e κs a vss are = tt
points {M} {𝓤} 𝓛 m l ps ks ps' ks' τs hd σs (lent-on ℓ ε) e κs a vss are = hd.ends M 𝓤 𝓛 (ap lent-last e ∙ last-lent σs ℓ ε) κs a vss are

-- the contracts' shapes: `Picked.antt`'s `Asker` for f and for k, and g's
module _ {M : Type 1} {𝓤 : Ura M} (𝓛 : Logic 𝓤) (TT : Declared) (m l : ℕ) (fs : Lends 𝓛 TT (plus l m)) (ps : List (Slot (suc m))) (ks : Kepts ps) (ps' : List (Slot (plus l m))) (ks' : Kepts ps') (τs : List Ty) (hd : Handed m l ps ks ps' ks' τs) (X Y : RattleType) where
  abbrev pub Teller : Ended
  Teller = record { signature = record { lifetimes = plus l m; outlives = []; params = plain (λ _. X) ∷ slots_of fs ps'; result = plain (λ _. Y) }; kept = (yes, kepts_of ps' fs ks') }

  abbrev T : Ended
  T = Asker TT m ps ks Y

  abbrev T'' : Ended
  T'' = Asker TT 0 [] tt X

  -- what g is handed, and the last values at f's exit
  abbrev pub told-of : (κs : Lfts (suc m)) → Args T.signature κs → X.Denot → Args Teller.signature (ats l m κs.0 κs.1)
  told-of κs a x = (x, args_of ps' (ats l m κs.0 κs.1) a.0.ref_ptr.0 a.0.ref_ptr.1 a.0.now fs (hd.args κs κs.0 a.1))

  abbrev pub told-back : (κs : Lfts (suc m)) (a : Args T.signature κs) (x : X.Denot) → Lasts Teller (ats l m κs.0 κs.1) (told-of κs a x) → Lasts T κs a
  told-back κs a x ls = (tt, hd.fins κs κs.0 a.1 (rest_of ps' (ats l m κs.0 κs.1) a.0.ref_ptr.0 a.0.ref_ptr.1 a.0.now fs ks' (hd.args κs κs.0 a.1) ls.1))

  module _ (reads : TT.D → X.Denot → Type 0) (c : Clauses 𝓤 T) (c'' : Clauses 𝓤 T'') (c' : Clauses 𝓤 Teller) where
    pub record Agrees : Type 1 where
      pub first-ghost : (β : Lft) (t : Bor TT.D) → (c'' (β, tt) (t, tt)).ghost
      pub first-asks : (β : Lft) (t : Bor TT.D) → ent 𝓤 (emp 𝓤) ((c'' (β, tt) (t, tt)).requires (first-ghost β t))
      pub first-says : (β : Lft) (t : Bor TT.D) (x : X.Denot) (ls : Lasts T'' (β, tt) (t, tt)) → ent 𝓤 ((c'' (β, tt) (t, tt)).ensures (first-ghost β t) x (at_exit T'' (β, tt) (t, tt) ls)) (fact 𝓤 (reads t.now x))
      pub ghost : (κs : Lfts (suc m)) (a : Args T.signature κs) (x : X.Denot) → (c κs a).ghost → (c' (ats l m κs.0 κs.1) (told-of κs a x)).ghost
      pub asks : (κs : Lfts (suc m)) (a : Args T.signature κs) (x : X.Denot) → reads a.0.now x → (g : (c κs a).ghost) → ent 𝓤 ((c κs a).requires g) ((c' (ats l m κs.0 κs.1) (told-of κs a x)).requires (ghost κs a x g))
      pub says : (κs : Lfts (suc m)) (a : Args T.signature κs) (x : X.Denot) → reads a.0.now x → (g : (c κs a).ghost) (y : Y.Denot) (ls : Lasts Teller (ats l m κs.0 κs.1) (told-of κs a x))
          → ent 𝓤 ((c' (ats l m κs.0 κs.1) (told-of κs a x)).ensures (ghost κs a x g) y (at_exit Teller (ats l m κs.0 κs.1) (told-of κs a x) ls)) ((c κs a).ensures g y (at_exit T κs a (told-back κs a x ls)))

    module _ (ag : Agrees) (op : Opens 𝓛 (row TT)) (ax : Answer X) (ay : Answer Y) (σs : List Ty) (tl : Tail) (cut-is : τs ≡ σs ++ tail_types tl)
        (one : (κs : Lfts (suc m)) (b o : ℕ) (h : TT.D) → At ps' (ats l m κs.0 κs.1) b o h κs.0 fs) (k g : Callee) (count : ℕ) (𝓣 : Tables 𝓤 𝓛.H)
        (met'' : Triple 𝓤 (𝓣.C k) (triple_of 𝓛 T''.signature (closing 𝓛 T'' c''))) (met : Triple 𝓤 (𝓣.C g) (triple_of 𝓛 Teller.signature (closing 𝓛 Teller c'))) where
      open 𝓛 use {H, A}

      abbrev C'' : Contract 𝓤
      C'' = triple_of 𝓛 T''.signature (closing 𝓛 T'' c'')

      abbrev C' : Contract 𝓤
      C' = triple_of 𝓛 Teller.signature (closing 𝓛 Teller c')

      abbrev π : Ty
      π = pointee (row TT).written

      abbrev code : Fn
      code = reading (suc m) count ay.told ax.told σs tl fs k g

      module _ (κs : Lfts (suc m)) (qs : Shares (suc m)) (a : Args T.signature κs) (vss : Valss (types_at ps κs)) (gh : (c κs a).ghost) (are : Are (types_at ps κs) (Ises (types_at ps κs)) a.1 vss) where
        abbrev b : ℕ
        b = a.0.ref_ptr.0

        abbrev o : ℕ
        o = a.0.ref_ptr.1

        abbrev h : TT.D
        h = a.0.now

        abbrev κ : Lft
        κ = κs.0

        abbrev q : Share
        q = qs.0

        abbrev R : RattleType
        R = row TT

        abbrev at : Lfts (plus l m)
        at = ats l m κ κs.1

        abbrev Pre : SProp 𝓤
        Pre = sep 𝓤 (sep 𝓤 (sep 𝓤 (A.lft κ q) (toks 𝓛 m κs.1 qs.1)) (sem 𝓛 (owns (ShrRef (named 0) κ R ∷ types_at ps κs) a (vptr b o ∷ [], vss)))) ((c κs a).requires gh)

        abbrev Out : Val → SProp 𝓤
        Out = (triple_of 𝓛 T.signature (closing 𝓛 T c)).post ((κs, qs, tt, a, (vptr b o ∷ [], vss)), gh)

        abbrev xs : List Val
        xs = flat (types_at ps κs) vss

        cut : Split σs tl xs
        cut = split-at σs tl xs (subst (λ (ρs : List Ty). Typed ρs xs) (hd.types κs ∙ cut-is) (all_Typed 𝓛 (types_at ps κs) (hd.laws M 𝓤 𝓛 κs) a.1 vss are)) (points 𝓛 m l ps ks ps' ks' τs hd σs tl cut-is κs a.1 vss are)

        abbrev ys : List Val
        ys = cut.front

        abbrev zs : List Val
        zs = cut.last

        spelled : xs ≡ ys ++ (zs ++ [])
        spelled = cut.is ∙ ap (λ (vs : List Val). ys ++ vs) (sym (append-nil zs))

        -- what the two triples bind outside
        abbrev z : C''.Ghost
        z = (((κ, tt), (q, tt), tt, (a.0, tt), (vptr b o ∷ [], tt)), ag.first-ghost κ a.0)

        abbrev y' : X.Denot → Val → C'.Ghost
        y' x w = ((at, shares_of l m q qs.1, tt, told-of κs a x, (w ∷ [], vals_of ps' at b o h fs (hd.vals κs κ vss))), ag.ghost κs a x gh)

        asked : (x : X.Denot) (w : Val) → ent 𝓤 (C'.pre (y' x w)) (𝓣.C g (w ∷ (slice_vals fs b o ++ (ys ++ (zs ++ [])))) (C'.post (y' x w)))
        asked x w = subst (λ (vs : List Val). ent 𝓤 (C'.pre (y' x w)) (𝓣.C g (w ∷ vs) (C'.post (y' x w)))) (flats ps' at b o h fs (hd.vals κs κ vss) ∙ ap (λ (vs : List Val). slice_vals fs b o ++ vs) (hd.flats κs κ vss ∙ spelled)) (met (y' x w))

        says-lasts : (x : X.Denot) (ls : Lasts Teller at (told-of κs a x)) → ent 𝓤 (sem 𝓛 (lasts Teller at (told-of κs a x) ls)) (sem 𝓛 (lasts T κs a (told-back κs a x ls)))
        says-lasts x ls = qed 𝓛 (‵ (lasts Teller at (told-of κs a x) ls) ∷ []) ∵ fsplit ! $ drop ! $
            use1 𝓛 (‵ (lasts_of at ps' ks' (hd.args κs κ a.1) (rest_of ps' at b o h fs ks' (hd.args κs κ a.1) ls.1))) (says-rest ps' at b o h fs ks' (hd.args κs κ a.1) ls.1) $
            recast 𝓛 (‵ (lasts_of κs ps ks a.1 (hd.fins κs κ a.1 (rest_of ps' at b o h fs ks' (hd.args κs κ a.1) ls.1)))) (λ i. sem 𝓛 (hd.lasts κs κ a.1 (rest_of ps' at b o h fs ks' (hd.args κs κ a.1) ls.1) i)) $
            nothing ! $ fjoin ! $ done !

        core : ent 𝓤 Pre (WpFn 𝓤 H 𝓣.C 𝓣.Λ code (vptr b o ∷ (ys ++ (zs ++ []))) Out)
        core =
            qed 𝓛 (((‵ (flft κ q) ⊛ raw (toks 𝓛 m κs.1 qs.1)) ⊛ ‵ (owns (ShrRef (named 0) κ R ∷ types_at ps κs) a (vptr b o ∷ [], vss))) ∷ raw ((c κs a).requires gh) ∷ []) ∵ enter ! 𝓣.C 𝓣.Λ code (vptr b o ∷ (ys ++ (zs ++ []))) Out $
            alloc1 ! (λ l₀. alloc1 ! (λ l₁. allocs-all ! σs (λ ds. allocs-all ! (tail_types tl) (λ rs. alloc1 ! (λ l₂. allocs-all ! (array_types fs) (λ cs. allocs-all ! (pointers tl) (λ es. allocs-all ! (slices tl) (λ fs'. alloc0 ! $ params1 ! $ pass1 ! (init ! 7 refl (tt, tt)) $
            let F' = Inside (ax.told ∷ []) (l₂, tt) (array_types fs) cs (pointers tl) es (slices tl) fs' [] in
            let there = beyond-all (ay.told, l₀) (ty_ref (named 0) imm π, l₁) [] tt σs ds (tail_types tl) rs F' in
            let read-at = after-all (ay.told, l₀) (ty_ref (named 0) imm π, l₁) [] tt σs ds (tail_types tl) rs F' 0 in
            let arrays = there 1 (array_types fs) cs (results-stand (ax.told ∷ []) (l₂, tt) (array_types fs) cs (pointers tl) es (slices tl) fs' []) in
            let pointed = there (suc (past 0 (array_types fs))) (pointers tl) es (pointers-stand (ax.told ∷ []) (l₂, tt) (array_types fs) cs (pointers tl) es (slices tl) fs' []) in
            let sliced = there (suc (past (past 0 (pointers tl)) (array_types fs))) (slices tl) fs' (slices-stand (ax.told ∷ []) (l₂, tt) (array_types fs) cs (pointers tl) es (slices tl) fs' []) in
            let kept = second-all (ay.told, l₀) (ty_ref (named 0) imm π, l₁) [] tt σs ds (tail_types tl) rs F' 0 in
            let tailed = third-all (ay.told, l₀) (ty_ref (named 0) imm π, l₁) [] tt σs ds (tail_types tl) rs F' 0 in
            move ! (6 ∷ []) $ passes-all ! σs ds ys cut.typed _ (zs ++ []) $ move ! (6 ∷ []) $ passes-all ! (tail_types tl) rs zs (tail-typed tl zs cut.fits) _ [] $ pass0 ! $
            -- [the tail; the y; room for the tail lent on, and its pointer; room for the arrays; room for what the struct reads as; …; table; …; room for the result; …; P]
            move ! (11 ∷ []) $ split ! $ split ! $ move ! (2 ∷ []) $ fsplit ! $ fsplit ! $ drop ! $ twice_dup ! (shared_of R h b o) (op h b o).1 κ $
            feq_i ! (List Val) (vptr b o ∷ []) (vptr b o ∷ []) refl $ fjoin ! $ nothing ! $ move ! (1 ∷ 0 ∷ []) $ fjoin ! $ nothing ! $ move ! (4 ∷ 0 ∷ []) $ join ! $ join ! $
            use0 𝓛 (raw ((c'' (κ, tt) (a.0, tt)).requires (ag.first-ghost κ a.0))) (ag.first-asks κ a.0) $ move ! (1 ∷ 0 ∷ []) $ join ! $ use1 𝓛 (raw (C''.pre z)) (id⊢ 𝓤 (C''.pre z)) $
            -- [what k asks; the struct's borrow; the y's own; the other tokens; the tail; the y; room for the tail lent on, and its pointer; room for the arrays; room for what it reads as; …; table; …; room for the result; …; what f requires]
            calls_from ! (fm_of 𝓤 H 𝓛.laws 𝓣) (raw (C''.pre z)) (vptr b o ∷ []) (C''.post z) (met'' z) (and_then ! (load ! (from ! (stop !)) (look ! 11 refl)) (no_more !)) (λ w.
            use1 𝓛 (later (some (λ (x : X.Denot). ((‵ (flft κ q) ⊛ raw (emp 𝓤)) ⊛ ‵ (X.own_val x (w ∷ []))) ⊛ some (λ (ls : Lasts T'' (κ, tt) (a.0, tt)). ‵ (lasts T'' (κ, tt) (a.0, tt) ls) ⊛ raw ((c'' (κ, tt) (a.0, tt)).ensures (ag.first-ghost κ a.0) x (at_exit T'' (κ, tt) (a.0, tt) ls)))))) (id⊢ 𝓤 (C''.post z w)) $
            await ! tt $ pick ! (λ x. split ! $ move ! (1 ∷ []) $ pick ! (λ ms. split ! $ drop ! $ use1 𝓛 (raw (fact 𝓤 (reads h x))) (ag.first-says κ a.0 x ms) $ heard ! _ (λ rd. split ! $ split ! $ move ! (2 ∷ []) $ peeks ! X (Is X) (shows 𝓛 X) x (w ∷ []) (λ is.
            -- [what the answer owns; the token; nothing; the struct's borrow; the y's own; the other tokens; the tail; the y; room for the tail lent on, and its pointer; room for the arrays; room for what it reads as; …; table; …; room for the result; …; what f requires]
            land ! (from_at ! read-at (stop !)) (init ! 11 refl (ax.typed M 𝓤 𝓛 x w is)) $
            move ! (10 ∷ 13 ∷ []) $ lends-arrays ! 𝓣.C 𝓣.Λ (ay.told, l₀) π l₁ _ _ _ b o fs (place_of σs tl 1) cs arrays $
            move ! (11 ∷ 10 ∷ 8 ∷ []) $ lends-tail ! 𝓣.C 𝓣.Λ _ _ _ tl (suc (suc (past 0 σs))) _ _ rs es fs' tailed pointed sliced zs cut.fits $
            -- [the pointer; the tail lent on; the tail; the arrays; table; what the answer owns; the token; nothing; the struct's borrow; the y's own; the other tokens; the y; what it reads as; …]
            move ! (9 ∷ []) $ recast 𝓛 (‵ (owns (types_at ps' at) (hd.args κs κ a.1) (hd.vals κs κ vss))) (λ i. sem 𝓛 (hd.own κs κ a.1 vss i)) $ move ! (9 ∷ 7 ∷ 0 ∷ []) $
            use3 𝓛 (later (‵ (flft κ q) ⊛ ‵ (owns (types_at (slots_of fs ps') at) (args_of ps' at b o h fs (hd.args κs κ a.1)) (vals_of ps' at b o h fs (hd.vals κs κ vss))))) (made ps' at b o h op κ q fs (one κs b o h) (hd.args κs κ a.1) (hd.vals κs κ vss)) $ await ! tt $ split ! $
            move ! (0 ∷ 9 ∷ []) $ use2 𝓛 (‵ (flft κ (rest-share l q)) ⊛ raw (toks 𝓛 (plus l m) at (shares_of l m q qs.1))) (cut-toks 𝓛 m κ κs.1 qs.1 l q) $ split ! $
            -- [what is left of the token; g's tokens; what the arrays and the y own; the pointer; the tail lent on; the tail; the arrays; table; what the answer owns; nothing; the y; what it reads as; …]
            move ! (8 ∷ 2 ∷ []) $ fjoin ! $ move ! (2 ∷ 0 ∷ []) $ join ! $ move ! (14 ∷ []) $ use1 𝓛 (raw ((c' at (told-of κs a x)).requires (ag.ghost κs a x gh))) (ag.asks κs a x rd gh) $ move ! (1 ∷ 0 ∷ []) $ join ! $ use1 𝓛 (raw (C'.pre (y' x w))) (id⊢ 𝓤 (C'.pre (y' x w))) $
            -- [what g asks; what is left of the token; the pointer; the tail lent on; the tail; the arrays; table; nothing; the y; what it reads as; …; …; room for the result; …]
            calls_from ! (fm_of 𝓤 H 𝓛.laws 𝓣) (raw (C'.pre (y' x w))) (w ∷ (slice_vals fs b o ++ (ys ++ (zs ++ [])))) (C'.post (y' x w)) (asked x w)
            (and_then ! (load ! (from_at ! read-at (stop !)) (look ! 9 refl)) (arrays-read ! 5 _ b o (place_of σs tl 1) fs cs arrays refl (operands ! 8 _ 2 σs ds ys cut.typed kept refl (operands ! 3 _ (place_of σs tl (suc (past (past 0 (pointers tl)) (array_types fs)))) (slices tl) fs' zs (slices-typed tl zs cut.fits) sliced refl (no_more !))))) (λ u.
            use1 𝓛 (later (some (λ (y : Y.Denot). (raw (toks 𝓛 (plus l m) at (shares_of l m q qs.1)) ⊛ ‵ (Y.own_val y (u ∷ []))) ⊛ some (λ (ls : Lasts Teller at (told-of κs a x)). ‵ (lasts Teller at (told-of κs a x) ls) ⊛ raw ((c' at (told-of κs a x)).ensures (ag.ghost κs a x gh) y (at_exit Teller at (told-of κs a x) ls)))))) (id⊢ 𝓤 (C'.post (y' x w) u)) $
            await ! tt $ pick ! (λ y. split ! $ move ! (1 ∷ []) $ pick ! (λ ls. split ! $ move ! (2 ∷ []) $ split ! $ move ! (1 ∷ []) $ peeks ! Y (Is Y) (shows 𝓛 Y) y (u ∷ []) (λ is'.
            -- [what the answer owns; g's tokens; the last values; what g ensures; what is left of the token; the pointer; the tail lent on; the tail; the arrays; table; nothing; the y; what it reads as; …; …; room for the result; …]
            land ! (from ! (stop !)) (init ! 15 refl (ay.typed M 𝓤 𝓛 y u is')) $ returns ! (look ! 15 refl) $ forget ! 9 refl $ forget ! 12 refl $ forget ! 15 refl $
            move ! (15 ∷ 16 ∷ []) $ free1 ! $ move ! (9 ∷ 14 ∷ []) $ free1 ! $ move ! (10 ∷ []) $ frees_all ! σs ds ys cut.typed _ $ move ! (7 ∷ []) $ frees_all ! (tail_types tl) rs zs (tail-typed tl zs cut.fits) _ $ move ! (9 ∷ 10 ∷ []) $ free1 ! $
            move ! (7 ∷ []) $ frees_all ! (array_types fs) cs (array_vals fs b o) (array-typed fs b o) _ $ move ! (5 ∷ []) $ frees_all ! (pointers tl) es (pointer_vals tl zs) (pointers-typed tl zs cut.fits) _ $ move ! (5 ∷ []) $ frees_all ! (slices tl) fs' zs (slices-typed tl zs cut.fits) _ $ free0 ! $
            -- [what the answer owns; g's tokens; the last values; what g ensures; what is left of the token; nothing]
            move ! (4 ∷ 1 ∷ []) $ use2 𝓛 (‵ (flft κ q) ⊛ raw (toks 𝓛 m κs.1 qs.1)) (join-toks 𝓛 m κ κs.1 qs.1 l q) $ updating ! $ at_once ! $
            show ! (λ (y'' : Y.Denot). sep 𝓤 (Back 𝓛 T.signature (κs, qs, tt, a, (vptr b o ∷ [], vss)) u y'') (ensured 𝓛 T c κs a gh y'')) y $ move ! (0 ∷ 1 ∷ []) $ join ! $ frame ! $
            show ! (λ (ls' : Lasts T κs a). sep 𝓤 (sem 𝓛 (lasts T κs a ls')) ((c κs a).ensures gh y (at_exit T κs a ls'))) (told-back κs a x ls) $
            use1 𝓛 (‵ (lasts T κs a (told-back κs a x ls))) (says-lasts x ls) $ frame ! $ move ! (1 ∷ []) $ drop ! $ by ! (ag.says κs a x rd gh y ls))))))))))))))))))

      pub read-first : Meets 𝓛 T.signature (WpFn 𝓤 H 𝓣.C 𝓣.Λ code) (closing 𝓛 T c)
      read-first = enters-at 𝓛 (suc m) (λ κs. ShrRef (named 0) κs.0 (row TT)) ps (plain (λ _. Y)) (λ κs. shr_vals) (λ κs. shr_Tells (named 0) κs.0 (row TT)) (closing 𝓛 T c) (WpFn 𝓤 H 𝓣.C 𝓣.Λ code) (λ κs qs a vss gh are.
          subst (λ (vs : List Val). ent 𝓤 (Pre κs qs a vss gh are) (WpFn 𝓤 H 𝓣.C 𝓣.Λ code (vptr a.0.ref_ptr.0 a.0.ref_ptr.1 ∷ vs) (Out κs qs a vss gh are))) (sym (spelled κs qs a vss gh are)) (core κs qs a vss gh are))
