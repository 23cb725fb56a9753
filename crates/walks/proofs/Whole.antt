-- A thin function that hands its table on whole meets its contract, if the functions beneath it meet theirs and these say the same.
--     fn f(table, x.., y..) -> Y { h(g(table, c(x).., y..)) }      table is a `&T` or a `&mut T`, the x are turned by a call each (`Turned.antt`), and the y are handed on as they are
--     Agrees       from f's contract to those of g and h: what f is given g may have, and what g and h ensure is what f ensures
--     whole        the theorem, for any x and any y, and a `&mut [E]` behind them or not (`Tails.antt`)
-- Assumes nothing.
use mathlib.Core.Path.{◌≡◌, refl, sym, ◌∙◌, ap, subst}
use Prim.Native.Nat.{ℕ, suc}
use mathlib.Core.List.{List, [], ◌∷◌, ◌++◌, append-nil}
use seplogic.Ra.Ura.{Ura}
use mir.Syntax.{Callee, Fn, Ty, Mutability, ty_ref, named, place, copy, call, return, seq, local, value_local}
use mir.Val.{Val, vptr}
use base.Logic.{SProp, ent, emp, sep, id⊢, mono_r}
use prog.Wp.{Tables, WpFn}
use types.Logic.{Logic, sem}
use contract.Lifetimes.{Lfts, Shares, toks}
use types.Kit.{‵, raw, some, later, ◌⊛◌, ◌$◌, ◌∵◌, !, qed, by, move, drop, use0, use1, split, join, pick, fsplit, fjoin, frame, await, updating, now as at_once, show, done}
use types.Run.{look, init, forget, stop, from, load, and_then, no_more, land, returns, enter, alloc1, alloc0, params1, pass1, pass0, free1, free0}
use sound.WpLaws.{fm_of}
use denote.Exit.{left, yes}
use denote.Laws.{Is, Ises, Are, Tells, Typed, Lawfuls, shows, all_Typed}
use denote.RattleType.{RattleType, Denots, Valss, flat, owns, mirs}
use denote.Signature.{Slot, plain, types_at}
use denote.Steps.{peeks, nothing}
use denote.Triple.Call.{calls_from}
use denote.Triple.Clauses.{Ended, Clauses, Lasts, at_exit, lasts, ensured, closing}
use denote.Triple.End.{Kepts}
use denote.Triple.Entry.{Args}
use denote.Triple.Spec.{Meets, Back, triple_of}
use denote.Triple.Statement.{Contract, Triple}
use Rattle.walks.proofs.Answered.{Answer}
use Rattle.walks.proofs.Enters.{enters-at}
use Rattle.walks.proofs.Frames.{locals, copies, past, behind, allocs-all, passes-all, frees_all, from_at, operands}
use Rattle.walks.proofs.Tails.{heads, head_vals, again, head-operands, head-typed, lends-head, heads-read, Inside, heads-stand, Tail, tail_types, pointers, slices, lending, Points, Split, split-at, pointer_vals, tail-typed, pointers-typed, slices-typed, lends-tail, beyond-all, after-all, first-all, second-all, third-all, results-stand, pointers-stand, slices-stand}
use Rattle.walks.proofs.Turned.{Turning, before_types, after_types, turned-by, Results, froms, tos, from_kepts, to_kepts, Given, args_of, rest_args, rest_vals, turned_vals, vals_of, fins_of, flat-froms, turned-typed, rest_are, flat-tos, says-fins, Meetings, turns-all}

-- local i of those after f's parameters: the x, the y and the tail
abbrev pub place_of : (ts : List Turning) (τs : List Ty) (tl : Tail) → ℕ → ℕ
place_of ts τs tl i = suc (suc (past (past (past i (tail_types tl)) τs) (before_types ts)))

-- n and k count lifetimes and parameters; δ is the answer's type, and ξ that of what g answers; π is the table's type as it is written behind a reference, σ as it lies there
abbrev pub handing : (n k : ℕ) (μ : Mutability) (δ ξ σ π : Ty) (ts : List Turning) (τs : List Ty) (tl : Tail) → (g h : Callee) → Fn
handing n k μ δ ξ σ π ts τs tl g h = record {
  lifetimes = n;
  outlives = [];
  ty_params = [];
  givens = 0;
  params = k;
  locals = local δ value_local ∷ local (ty_ref (named 0) μ π) value_local ∷ locals (before_types ts) (locals τs (locals (tail_types tl)
      (local ξ value_local ∷ locals (heads μ π) (locals (after_types ts) (locals (pointers tl) (locals (slices tl) []))))));
  body = again μ σ (place_of ts τs tl 1)
      (turned-by 2 (place_of ts τs tl (suc (past 0 (heads μ π)))) ts
      (lending tl (suc (suc (past (past 0 τs) (before_types ts)))) (place_of ts τs tl (suc (past (past 0 (after_types ts)) (heads μ π)))) (place_of ts τs tl (suc (past (past (past 0 (pointers tl)) (after_types ts)) (heads μ π))))
      (seq (call g (head-operands μ (place_of ts τs tl 1) (copies (place_of ts τs tl (suc (past 0 (heads μ π)))) (after_types ts) (copies (suc (suc (past 0 (before_types ts)))) τs (copies (place_of ts τs tl (suc (past (past (past 0 (pointers tl)) (after_types ts)) (heads μ π)))) (slices tl) []))))
      (place (place_of ts τs tl 0) []))
      (seq (call h (copy (place (place_of ts τs tl 0) []) ∷ []) (place 0 [])) return))));
}

-- the contracts' shapes: of f, of g, and of h
module _ (n : ℕ) (F : Lfts n → RattleType) (ts : List Turning) (ps : List (Slot n)) (ks : Kepts ps) (X Y : RattleType) where
  abbrev pub Outer : Ended
  Outer = record { signature = record { lifetimes = n; outlives = []; params = plain F ∷ froms ts ps; result = plain (λ _. Y) }; kept = (yes, from_kepts ps ts ks) }

  abbrev pub Inner : Ended
  Inner = record { signature = record { lifetimes = n; outlives = []; params = plain F ∷ tos ts ps; result = plain (λ _. X) }; kept = (yes, to_kepts ps ts ks) }

  abbrev pub Final : Ended
  Final = record { signature = record { lifetimes = 0; outlives = []; params = plain (λ _. X) ∷ []; result = plain (λ _. Y) }; kept = (yes, tt) }

  -- what g is handed, and the last values at f's exit
  abbrev pub handed : (κs : Lfts n) → Args Outer.signature κs → Results ts → Args Inner.signature κs
  handed κs a rs = (a.0, args_of ps κs ts a.1 rs)

  abbrev pub handed-back : (κs : Lfts n) (a : Args Outer.signature κs) (rs : Results ts) → Lasts Inner κs (handed κs a rs) → Lasts Outer κs a
  handed-back κs a rs ls = (ls.0, fins_of ps κs ts ks a.1 rs ls.1)

  module _ {M : Type 1} {𝓤 : Ura M} (c : Clauses 𝓤 Outer) (c' : Clauses 𝓤 Inner) (c'' : Clauses 𝓤 Final) where
    pub record Agrees : Type 1 where
      pub ghost : (κs : Lfts n) (a : Args Outer.signature κs) (rs : Results ts) → (c κs a).ghost → (c' κs (handed κs a rs)).ghost
      pub asks : (κs : Lfts n) (a : Args Outer.signature κs) (rs : Results ts) → Given ps κs ts a.1 rs → (g : (c κs a).ghost) → ent 𝓤 ((c κs a).requires g) ((c' κs (handed κs a rs)).requires (ghost κs a rs g))
      pub last-ghost : (x : X.Denot) → (c'' tt (x, tt)).ghost
      pub last-asks : (x : X.Denot) → ent 𝓤 (emp 𝓤) ((c'' tt (x, tt)).requires (last-ghost x))
      pub says : (κs : Lfts n) (a : Args Outer.signature κs) (rs : Results ts) → Given ps κs ts a.1 rs → (g : (c κs a).ghost) (x : X.Denot) (ls : Lasts Inner κs (handed κs a rs)) (y : Y.Denot) (ms : Lasts Final tt (x, tt))
          → ent 𝓤 (sep 𝓤 ((c' κs (handed κs a rs)).ensures (ghost κs a rs g) x (at_exit Inner κs (handed κs a rs) ls)) ((c'' tt (x, tt)).ensures (last-ghost x) y (at_exit Final tt (x, tt) ms)))
          ((c κs a).ensures g y (at_exit Outer κs a (handed-back κs a rs ls)))

module _ {M : Type 1} {𝓤 : Ura M} (𝓛 : Logic 𝓤) (n : ℕ) (F : Lfts n → RattleType) (ts : List Turning) (ps : List (Slot n)) (ks : Kepts ps) (X Y : RattleType)
    (addr_at : (κs : Lfts n) → (F κs).Denot → ℕ × ℕ) (tells : (κs : Lfts n) → Tells (F κs) (Is (F κs)) (λ x. vptr (addr_at κs x).0 (addr_at κs x).1 ∷ []))
    (τs : List Ty) (tl : Tail) (types : (κs : Lfts n) → mirs (types_at ps κs) ≡ τs ++ tail_types tl) (points : (κs : Lfts n) (a : Denots (types_at ps κs)) (vss : Valss (types_at ps κs)) → Are (types_at ps κs) (Ises (types_at ps κs)) a vss → Points tl (flat (types_at ps κs) vss)) (laws : (κs : Lfts n) → Lawfuls 𝓛 (types_at ps κs)) (ax : Answer X) (ay : Answer Y) where
  open 𝓛 use {H}

  abbrev T : Ended
  T = Outer n F ts ps ks X Y

  abbrev T' : Ended
  T' = Inner n F ts ps ks X Y

  abbrev T'' : Ended
  T'' = Final n F ts ps ks X Y

  abbrev to : (κs : Lfts n) → Args T.signature κs → Results ts → Args T'.signature κs
  to = handed n F ts ps ks X Y

  abbrev back_to : (κs : Lfts n) (a : Args T.signature κs) (rs : Results ts) → Lasts T' κs (to κs a rs) → Lasts T κs a
  back_to = handed-back n F ts ps ks X Y

  module _ (c : Clauses 𝓤 T) (c' : Clauses 𝓤 T') (c'' : Clauses 𝓤 T'') where
    abbrev C' : Contract 𝓤
    C' = triple_of 𝓛 T'.signature (closing 𝓛 T' c')

    abbrev C'' : Contract 𝓤
    C'' = triple_of 𝓛 T''.signature (closing 𝓛 T'' c'')

    module _ (ag : Agrees n F ts ps ks X Y c c' c'') (μ : Mutability) (σ π : Ty) (g h : Callee) (k : ℕ) (𝓣 : Tables 𝓤 H) (ms : Meetings 𝓛 𝓣 ts) (met : Triple 𝓤 (𝓣.C g) C') (met' : Triple 𝓤 (𝓣.C h) C'') where
      abbrev code : Fn
      code = handing n k μ ay.told ax.told σ π ts τs tl g h

      -- what h's triple binds outside
      abbrev z : X.Denot → Val → C''.Ghost
      z x w = ((tt, tt, tt, (x, tt), (w ∷ [], tt)), ag.last-ghost x)

      at_last : (x : X.Denot) (w : Val) → ent 𝓤 (sem 𝓛 (X.own_val x (w ∷ []))) (C''.pre (z x w))
      at_last x w = qed 𝓛 (‵ (X.own_val x (w ∷ [])) ∷ []) ∵ nothing ! $ move ! (1 ∷ 0 ∷ []) $ fjoin ! $ nothing ! $ join ! $ frame ! $ use0 𝓛 (raw ((c'' tt (x, tt)).requires (ag.last-ghost x))) (ag.last-asks x) $ done !

      module _ (κs : Lfts n) (qs : Shares n) (a : Args T.signature κs) (vss : Valss (types_at (froms ts ps) κs)) (gh : (c κs a).ghost) (are : Are (types_at (froms ts ps) κs) (Ises (types_at (froms ts ps) κs)) a.1 vss) where
        abbrev v₀ : Val
        v₀ = vptr (addr_at κs a.0).0 (addr_at κs a.0).1

        abbrev Pre : SProp 𝓤
        Pre = sep 𝓤 (sep 𝓤 (toks 𝓛 n κs qs) (sem 𝓛 (owns (F κs ∷ types_at (froms ts ps) κs) a (v₀ ∷ [], vss)))) ((c κs a).requires gh)

        abbrev Out : Val → SProp 𝓤
        Out = (triple_of 𝓛 T.signature (closing 𝓛 T c)).post ((κs, qs, tt, a, (v₀ ∷ [], vss)), gh)

        abbrev us : List Val
        us = turned_vals ps κs ts vss

        abbrev xs : List Val
        xs = flat (types_at ps κs) (rest_vals ps κs ts vss)

        ty-us : Typed (before_types ts) us
        ty-us = turned-typed 𝓛 ps κs ts a.1 vss are

        cut : Split τs tl xs
        cut = split-at τs tl xs (subst (λ (ρs : List Ty). Typed ρs xs) (types κs) (all_Typed 𝓛 (types_at ps κs) (laws κs) (rest_args ps κs ts a.1) (rest_vals ps κs ts vss) (rest_are 𝓛 ps κs ts a.1 vss are))) (points κs (rest_args ps κs ts a.1) (rest_vals ps κs ts vss) (rest_are 𝓛 ps κs ts a.1 vss are))

        abbrev ys : List Val
        ys = cut.front

        abbrev zs : List Val
        zs = cut.last

        -- what g's triple binds outside
        abbrev y' : Results ts → List Val → C'.Ghost
        y' rs ws = ((κs, qs, tt, to κs a rs, (v₀ ∷ [], vals_of ps κs ts vss ws)), ag.ghost κs a rs gh)

        says-lasts : (rs : Results ts) (ls : Lasts T' κs (to κs a rs)) → ent 𝓤 (sem 𝓛 (lasts T' κs (to κs a rs) ls)) (sem 𝓛 (lasts T κs a (back_to κs a rs ls)))
        says-lasts rs ls = mono_r 𝓤 (sem 𝓛 (left ((F κs).exit yes) a.0 ls.0)) (says-fins 𝓛 ps κs ts ks a.1 rs ls.1)

        -- the call of g, at the values as they stand in its operands
        spelled : xs ≡ ys ++ (zs ++ [])
        spelled = cut.is ∙ ap (λ (vs : List Val). ys ++ vs) (sym (append-nil zs))

        asked : (rs : Results ts) (ws : List Val) → Typed (after_types ts) ws → ent 𝓤 (C'.pre (y' rs ws)) (𝓣.C g (v₀ ∷ (ws ++ (ys ++ (zs ++ [])))) (C'.post (y' rs ws)))
        asked rs ws ty = subst (λ (vs : List Val). ent 𝓤 (C'.pre (y' rs ws)) (𝓣.C g (v₀ ∷ vs) (C'.post (y' rs ws)))) (flat-tos 𝓛 ps κs ts vss ws ty ∙ ap (λ (vs : List Val). ws ++ vs) spelled) (met (y' rs ws))

        core : ent 𝓤 Pre (WpFn 𝓤 H 𝓣.C 𝓣.Λ code (v₀ ∷ (us ++ (ys ++ (zs ++ [])))) Out)
        core =
            qed 𝓛 ((raw (toks 𝓛 n κs qs) ⊛ ‵ (owns (F κs ∷ types_at (froms ts ps) κs) a (v₀ ∷ [], vss))) ∷ raw ((c κs a).requires gh) ∷ []) ∵ enter ! 𝓣.C 𝓣.Λ code (v₀ ∷ (us ++ (ys ++ (zs ++ [])))) Out $
            alloc1 ! (λ l₀. alloc1 ! (λ l₁. allocs-all ! (before_types ts) (λ bs. allocs-all ! τs (λ ds. allocs-all ! (tail_types tl) (λ rs. alloc1 ! (λ l₃. allocs-all ! (heads μ π) (λ hs. allocs-all ! (after_types ts) (λ cs. allocs-all ! (pointers tl) (λ es. allocs-all ! (slices tl) (λ fs. alloc0 ! $ params1 ! $ pass1 ! (init ! 9 refl (tt, tt)) $
            let G = Inside (heads μ π) hs (after_types ts) cs (pointers tl) es (slices tl) fs [] in
            let there = beyond-all (ay.told, l₀) (ty_ref (named 0) μ π, l₁) (before_types ts) bs τs ds (tail_types tl) rs ((ax.told, l₃) ∷ G) in
            let answered = after-all (ay.told, l₀) (ty_ref (named 0) μ π, l₁) (before_types ts) bs τs ds (tail_types tl) rs ((ax.told, l₃) ∷ G) 0 in
            let again-at = there 1 (heads μ π) hs (behind (ax.told, l₃) G 0 (heads μ π) hs (heads-stand (heads μ π) hs (after_types ts) cs (pointers tl) es (slices tl) fs [])) in
            let results = there (suc (past 0 (heads μ π))) (after_types ts) cs (behind (ax.told, l₃) G (past 0 (heads μ π)) (after_types ts) cs (results-stand (heads μ π) hs (after_types ts) cs (pointers tl) es (slices tl) fs [])) in
            let pointed = there (suc (past (past 0 (after_types ts)) (heads μ π))) (pointers tl) es (behind (ax.told, l₃) G (past (past 0 (after_types ts)) (heads μ π)) (pointers tl) es (pointers-stand (heads μ π) hs (after_types ts) cs (pointers tl) es (slices tl) fs [])) in
            let sliced = there (suc (past (past (past 0 (pointers tl)) (after_types ts)) (heads μ π))) (slices tl) fs (behind (ax.told, l₃) G (past (past (past 0 (pointers tl)) (after_types ts)) (heads μ π)) (slices tl) fs (slices-stand (heads μ π) hs (after_types ts) cs (pointers tl) es (slices tl) fs [])) in
            let turned = first-all (ay.told, l₀) (ty_ref (named 0) μ π, l₁) (before_types ts) bs τs ds (tail_types tl) rs ((ax.told, l₃) ∷ G) 0 in
            let kept = second-all (ay.told, l₀) (ty_ref (named 0) μ π, l₁) (before_types ts) bs τs ds (tail_types tl) rs ((ax.told, l₃) ∷ G) 0 in
            let tailed = third-all (ay.told, l₀) (ty_ref (named 0) μ π, l₁) (before_types ts) bs τs ds (tail_types tl) rs ((ax.told, l₃) ∷ G) 0 in
            move ! (8 ∷ []) $ passes-all ! (before_types ts) bs us ty-us _ (ys ++ (zs ++ [])) $ move ! (8 ∷ []) $ passes-all ! τs ds ys cut.typed _ (zs ++ []) $ move ! (8 ∷ []) $ passes-all ! (tail_types tl) rs zs (tail-typed tl zs cut.fits) _ [] $ pass0 ! $ move ! (0 ∷ 1 ∷ 2 ∷ 7 ∷ 8 ∷ []) $
            -- [the tail; the y; the x; room for g's answer; …; room for the tail lent on, and its pointer; room for the results; room for the table; table; …; room for the result; …; P]
            move ! (8 ∷ 9 ∷ []) $ lends-head ! 𝓣.C 𝓣.Λ (ay.told, l₀) μ σ π l₁ _ _ _ (place_of ts τs tl 1) hs again-at (addr_at κs a.0).0 (addr_at κs a.0).1 $
            -- [the table; table; the tail; the y; the x; room for g's answer; …; room for the tail lent on, and its pointer; room for the results; …; room for the result; …; P]
            move ! (13 ∷ []) $ split ! $ move ! (1 ∷ []) $ fsplit ! $ move ! (1 ∷ 12 ∷ 7 ∷ []) $
            turns-all 𝓛 𝓣 ps κs (fm_of 𝓤 H 𝓛.laws 𝓣) _ _ _ ! ts ms 2 (place_of ts τs tl (suc (past 0 (heads μ π)))) bs cs turned results a.1 vss are (λ rs' ws gs ty-ws.
            -- [what the parameters after the table own; the results; the x; what the table owns; the tokens; the table; table; the tail; the y; room for g's answer; …; room for the tail lent on, and its pointer; …; room for the result; …; what f requires]
            move ! (12 ∷ 11 ∷ 7 ∷ []) $ lends-tail ! 𝓣.C 𝓣.Λ _ _ _ tl (suc (suc (past (past 0 τs) (before_types ts)))) (place_of ts τs tl (suc (past (past 0 (after_types ts)) (heads μ π)))) (place_of ts τs tl (suc (past (past (past 0 (pointers tl)) (after_types ts)) (heads μ π)))) rs es fs tailed pointed sliced zs cut.fits $
            move ! (6 ∷ 3 ∷ []) $ fjoin ! $ move ! (6 ∷ 0 ∷ []) $ join ! $ move ! (14 ∷ []) $ use1 𝓛 (raw ((c' κs (to κs a rs')).requires (ag.ghost κs a rs' gh))) (ag.asks κs a rs' gs gh) $ move ! (1 ∷ 0 ∷ []) $ join ! $
            use1 𝓛 (raw (C'.pre (y' rs' ws))) (id⊢ 𝓤 (C'.pre (y' rs' ws))) $
            -- [what g asks; the pointer; the tail lent on; the tail; the results; the x; the table; table; the y; room for g's answer; …; …; room for the result; …]
            calls_from ! (fm_of 𝓤 H 𝓛.laws 𝓣) (raw (C'.pre (y' rs' ws))) (v₀ ∷ (ws ++ (ys ++ (zs ++ [])))) (C'.post (y' rs' ws)) (asked rs' ws ty-ws)
            (heads-read ! 6 7 (ay.told, l₀) μ π l₁ _ (place_of ts τs tl 1) hs again-at (addr_at κs a.0).0 (addr_at κs a.0).1 refl refl (operands ! 4 _ (place_of ts τs tl (suc (past 0 (heads μ π)))) (after_types ts) cs ws ty-ws results refl
            (operands ! 8 _ (suc (suc (past 0 (before_types ts)))) τs ds ys cut.typed kept refl (operands ! 2 _ (place_of ts τs tl (suc (past (past (past 0 (pointers tl)) (after_types ts)) (heads μ π)))) (slices tl) fs zs (slices-typed tl zs cut.fits) sliced refl (no_more !))))) (λ w.
            use1 𝓛 (later (some (λ (x : X.Denot). (raw (toks 𝓛 n κs qs) ⊛ ‵ (X.own_val x (w ∷ []))) ⊛ some (λ (ls : Lasts T' κs (to κs a rs')). ‵ (lasts T' κs (to κs a rs') ls) ⊛ raw ((c' κs (to κs a rs')).ensures (ag.ghost κs a rs' gh) x (at_exit T' κs (to κs a rs') ls)))))) (id⊢ 𝓤 (C'.post (y' rs' ws) w)) $
            await ! tt $ pick ! (λ x. split ! $ move ! (1 ∷ []) $ pick ! (λ ls. split ! $ move ! (2 ∷ []) $ split ! $ move ! (1 ∷ []) $ peeks ! X (Is X) (shows 𝓛 X) x (w ∷ []) (λ is.
            -- [what g's answer owns; the tokens; the last values; what g ensures; the pointer; the tail lent on; the tail; the results; the x; the table; table; the y; room for g's answer; …; …; room for the result; …]
            land ! (from_at ! answered (stop !)) (init ! 12 refl (ax.typed M 𝓤 𝓛 x w is)) $ use1 𝓛 (raw (C''.pre (z x w))) (at_last x w) $
            calls_from ! (fm_of 𝓤 H 𝓛.laws 𝓣) (raw (C''.pre (z x w))) (w ∷ []) (C''.post (z x w)) (met' (z x w)) (and_then ! (load ! (from_at ! answered (stop !)) (look ! 12 refl)) (no_more !)) (λ u.
            use1 𝓛 (later (some (λ (y : Y.Denot). (raw (emp 𝓤) ⊛ ‵ (Y.own_val y (u ∷ []))) ⊛ some (λ (os : Lasts T'' tt (x, tt)). ‵ (lasts T'' tt (x, tt) os) ⊛ raw ((c'' tt (x, tt)).ensures (ag.last-ghost x) y (at_exit T'' tt (x, tt) os)))))) (id⊢ 𝓤 (C''.post (z x w) u)) $
            await ! tt $ pick ! (λ y. split ! $ move ! (1 ∷ []) $ pick ! (λ os. split ! $ drop ! $ move ! (1 ∷ []) $ split ! $ drop ! $ peeks ! Y (Is Y) (shows 𝓛 Y) y (u ∷ []) (λ is'.
            -- [what the answer owns; what h ensures; the tokens; the last values; what g ensures; the pointer; the tail lent on; the tail; the results; the x; the table; table; the y; g's answer; …; …; room for the result; …]
            land ! (from ! (stop !)) (init ! 16 refl (ay.typed M 𝓤 𝓛 y u is')) $ returns ! (look ! 16 refl) $ forget ! 11 refl $ forget ! 13 refl $ forget ! 16 refl $
            move ! (16 ∷ 17 ∷ []) $ free1 ! $ move ! (11 ∷ 15 ∷ []) $ free1 ! $ move ! (9 ∷ []) $ frees_all ! (before_types ts) bs us ty-us _ $ move ! (10 ∷ []) $ frees_all ! τs ds ys cut.typed _ $ move ! (7 ∷ []) $ frees_all ! (tail_types tl) rs zs (tail-typed tl zs cut.fits) _ $
            move ! (9 ∷ 10 ∷ []) $ free1 ! $ move ! (8 ∷ []) $ frees_all ! (heads μ π) hs (head_vals μ v₀) (head-typed μ π (addr_at κs a.0).0 (addr_at κs a.0).1) _ $ move ! (7 ∷ []) $ frees_all ! (after_types ts) cs ws ty-ws _ $ move ! (5 ∷ []) $ frees_all ! (pointers tl) es (pointer_vals tl zs) (pointers-typed tl zs cut.fits) _ $
            move ! (5 ∷ []) $ frees_all ! (slices tl) fs zs (slices-typed tl zs cut.fits) _ $ free0 ! $ updating ! $ at_once ! $
            show ! (λ (y' : Y.Denot). sep 𝓤 (Back 𝓛 T.signature (κs, qs, tt, a, (v₀ ∷ [], vss)) u y') (ensured 𝓛 T c κs a gh y')) y $ move ! (2 ∷ 0 ∷ []) $ join ! $ frame ! $
            show ! (λ (ls' : Lasts T κs a). sep 𝓤 (sem 𝓛 (lasts T κs a ls')) ((c κs a).ensures gh y (at_exit T κs a ls'))) (back_to κs a rs' ls) $
            move ! (1 ∷ []) $ use1 𝓛 (‵ (lasts T κs a (back_to κs a rs' ls))) (says-lasts rs' ls) $ frame ! $ move ! (1 ∷ 0 ∷ []) $ by ! (ag.says κs a rs' gs gh x ls y os))))))))))))))))))))

      pub whole : Meets 𝓛 T.signature (WpFn 𝓤 H 𝓣.C 𝓣.Λ code) (closing 𝓛 T c)
      whole = enters-at 𝓛 n F (froms ts ps) (plain (λ _. Y)) (λ κs x. vptr (addr_at κs x).0 (addr_at κs x).1 ∷ []) tells (closing 𝓛 T c) (WpFn 𝓤 H 𝓣.C 𝓣.Λ code) (λ κs qs a vss gh are.
          subst (λ (vs : List Val). ent 𝓤 (Pre κs qs a vss gh are) (WpFn 𝓤 H 𝓣.C 𝓣.Λ code (vptr (addr_at κs a.0).0 (addr_at κs a.0).1 ∷ vs) (Out κs qs a vss gh are)))
          (sym (flat-froms 𝓛 ps κs ts a.1 vss are ∙ ap (λ (vs : List Val). us κs qs a vss gh are ++ vs) (spelled κs qs a vss gh are))) (core κs qs a vss gh are))
