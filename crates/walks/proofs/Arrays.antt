-- Arrays of a plain struct behind a `&` that a thin function lends on whole, each as a `&[E]`.
--     Lend         one of them: its elements, how many, its place in the struct, and the callee's lifetime
--     slots_of, kepts_of, args_of, vals_of       the callee's parameters, with others behind them
--     made         what the `&` to the struct holds has what these own
--     lends-arrays, arrays-read      the walk through the statements that lend them, and the slices as a call's operands
-- Assumes `Logic`.
use mathlib.Core.Path.{◌≡◌, refl, sym, ap, subst}
use Prim.Native.Nat.{ℕ, zero, suc, ◌+◌, ◌^◌}
use mathlib.Core.Option.{some as just}
use mathlib.Core.List.{List, [], ◌∷◌, ◌++◌}
use lib.Dec.{T as Holds, ltb}
use lib.ListN.{length}
use seplogic.Ra.Ura.{Ura}
use base.Fraction.{full_share}
use mir.Syntax.{Ty, w64, ty_ref, named, erased, imm, deref, field, place, Opd, copy, int, addr_of, aggregate, Body, assign, seq}
use mir.Val.{Val, vptr}
use base.Logic.{SProp, ent, sep, ex, wand, via, id⊢, snd∗}
use base.Fml.{Lft, Share, Fml, fat, fdies, flft, fsep}
use prog.Memory.{field_at}
use prog.Wp.{Env, Calls, Loops, eval_opds, read}
use types.Logic.{Logic, sem}
use contract.Lifetimes.{Lfts, Within, lft_at}
use types.Kit.{Item, ‵, raw, mean, ⋆, nth, del, pull, unpull, later, ◌⊛◌, Post, runs, Step, step, ◌$◌, ◌∵◌, !, qed, by, move, drop, use1, use2, use3, split, fsplit, fjoin, feq_l, feq_i, frame, assume, await, updating, now as at_once, show, rewrite, done}
use types.Run.{Opds, look, init, stop, hop, fld, from, load, addr, lit, and_then, no_more, assigns}
use types.Part.{agg}
use denote.Array.{Array}
use denote.Exit.{yes, left}
use denote.Laws.{Typed}
use denote.Memory.{lone, shared_of, hidden_shr, pointee}
use denote.Opens.{Opens, twice_dup, hide, unhide}
use denote.RattleType.{RattleType, Denots, Valss, flat, owns}
use denote.Shadow.{pure_i}
use denote.Signature.{Slot, shr_slice, types_at}
use denote.Slice.{ShrSlice, Room, room, slice_ty, slice_val}
use denote.Struct.Declared.{Declared, row}
use denote.Triple.End.{Kepts, Fins, lasts_of}
use borrow.Struct.Share.{Parts}
use Rattle.walks.proofs.Changed.{lies}
use Rattle.walks.proofs.Frames.{Blocks, Stands, rooms, full, from_at}
use Rattle.walks.proofs.Picked.{tys}
use Rattle.walks.proofs.Thin.{Of}

pub record Lend {M : Type 1} {𝓤 : Ura M} (𝓛 : Logic 𝓤) (TT : Declared) (n : ℕ) : Type 2 where
  pub elem : RattleType
  pub count : ℕ
  pub k : ℕ
  pub d : ℕ
  pub sub : TT.D → List elem.Denot
  pub stands : field_at zero (tys TT) k ≡ just (lone (Array elem count).mir, d)
  pub part : Parts 𝓛 (row TT) (Array elem count) (λ o. o + d) sub
  pub fits : Room elem count
  pub small : Holds (ltb count (2 ^ 64))
  pub j : ℕ
  pub ok : Within n j

abbrev pub Lends : {M : Type 1} {𝓤 : Ura M} → Logic 𝓤 → Declared → ℕ → Type 2
Lends 𝓛 TT n = List (Lend 𝓛 TT n)

module _ {M : Type 1} {𝓤 : Ura M} {𝓛 : Logic 𝓤} {TT : Declared} {n : ℕ} where
  -- the locals: the array's pointer, and the slice
  abbrev pub array_types : Lends 𝓛 TT n → List Ty
  array_types [] = []
  array_types (f ∷ fs) = ty_ref erased imm (pointee (Array f.elem f.count).written) ∷ slice_ty (ty_ref erased imm (pointee (f.elem).written)) ∷ array_types fs

  abbrev pub array_vals : Lends 𝓛 TT n → ℕ → ℕ → List Val
  array_vals [] b o = []
  array_vals (f ∷ fs) b o = vptr b (o + f.d) ∷ slice_val (b, o + f.d) f.count ∷ array_vals fs b o

  abbrev pub slice_vals : Lends 𝓛 TT n → ℕ → ℕ → List Val
  slice_vals [] b o = []
  slice_vals (f ∷ fs) b o = slice_val (b, o + f.d) f.count ∷ slice_vals fs b o

  -- from local i on
  abbrev pub lending-arrays : ℕ → Lends 𝓛 TT n → Body → Body
  lending-arrays i [] rest = rest
  lending-arrays i (f ∷ fs) rest =
      seq (assign (place i []) (addr_of (place 1 (deref (lies TT) ∷ field f.k ∷ []))))
      (seq (assign (place (suc i) []) (aggregate (copy (place i []) ∷ int w64 f.count ∷ []))) (lending-arrays (suc (suc i)) fs rest))

  abbrev pub slice-copies : ℕ → Lends 𝓛 TT n → List Opd → List Opd
  slice-copies i [] xs = xs
  slice-copies i (f ∷ fs) xs = copy (place (suc i) []) ∷ slice-copies (suc (suc i)) fs xs

  abbrev pub slots_of : Lends 𝓛 TT n → List (Slot n) → List (Slot n)
  slots_of [] ps = ps
  slots_of (f ∷ fs) ps = shr_slice f.j f.ok (λ _. f.elem) ∷ slots_of fs ps

  module _ (ps : List (Slot n)) where
    abbrev pub kepts_of : (fs : Lends 𝓛 TT n) → Kepts ps → Kepts (slots_of fs ps)
    kepts_of [] ks = ks
    kepts_of (f ∷ fs) ks = (yes, kepts_of fs ks)

    module _ (κs : Lfts n) (b o : ℕ) (h : TT.D) where
      abbrev pub args_of : (fs : Lends 𝓛 TT n) → Denots (types_at ps κs) → Denots (types_at (slots_of fs ps) κs)
      args_of [] a = a
      args_of (f ∷ fs) a = (record { ref_ptr = (b, o + f.d); now = f.sub h }, args_of fs a)

      abbrev pub vals_of : (fs : Lends 𝓛 TT n) → Valss (types_at ps κs) → Valss (types_at (slots_of fs ps) κs)
      vals_of [] vss = vss
      vals_of (f ∷ fs) vss = (slice_val (b, o + f.d) f.count ∷ [], vals_of fs vss)

      pub flats : (fs : Lends 𝓛 TT n) (vss : Valss (types_at ps κs)) → flat (types_at (slots_of fs ps) κs) (vals_of fs vss) ≡ slice_vals fs b o ++ flat (types_at ps κs) vss
      flats [] vss = refl
      flats (f ∷ fs) vss = ap (λ (us : List Val). slice_val (b, o + f.d) f.count ∷ us) (flats fs vss)

      -- the last values of the others
      abbrev pub rest_of : (fs : Lends 𝓛 TT n) (ks : Kepts ps) (a : Denots (types_at ps κs)) → Fins κs (slots_of fs ps) (kepts_of fs ks) (args_of fs a) → Fins κs ps ks a
      rest_of [] ks a ls = ls
      rest_of (f ∷ fs) ks a ls = rest_of fs ks a ls.1

      pub says-rest : (fs : Lends 𝓛 TT n) (ks : Kepts ps) (a : Denots (types_at ps κs)) (ls : Fins κs (slots_of fs ps) (kepts_of fs ks) (args_of fs a))
          → ent 𝓤 (sem 𝓛 (lasts_of κs (slots_of fs ps) (kepts_of fs ks) (args_of fs a) ls)) (sem 𝓛 (lasts_of κs ps ks a (rest_of fs ks a ls)))
      says-rest [] ks a ls = id⊢ 𝓤 (sem 𝓛 (lasts_of κs ps ks a ls))
      says-rest (f ∷ fs) ks a ls = via 𝓤 (sem 𝓛 (lasts_of κs (slots_of fs ps) (kepts_of fs ks) (args_of fs a) ls.1))
          (snd∗ 𝓤 (sem 𝓛 (left (((shr_slice f.j f.ok (λ _. f.elem)).row κs).exit yes) (record { ref_ptr = (b, o + f.d); now = f.sub h }) ls.0)) (sem 𝓛 (lasts_of κs (slots_of fs ps) (kepts_of fs ks) (args_of fs a) ls.1)))
          (says-rest fs ks a ls.1)

      -- the arrays' lifetimes are one
      abbrev pub At : Lft → Lends 𝓛 TT n → Type 0
      At κ [] = Unit {0}
      At κ (f ∷ fs) = (lft_at n f.j f.ok κs ≡ κ) × At κ fs

      open 𝓛 use {H, A}

      whole-slice : (f : Lend 𝓛 TT n) (κ : Lft) → ent 𝓤 (sem 𝓛 (hidden_shr (Array f.elem f.count) κ (f.sub h) b (o + f.d)))
          (sem 𝓛 ((ShrSlice (named f.j) κ f.elem).own_val (record { ref_ptr = (b, o + f.d); now = f.sub h }) (slice_val (b, o + f.d) f.count ∷ [])))
      whole-slice f κ = qed 𝓛 (‵ (hidden_shr (Array f.elem f.count) κ (f.sub h) b (o + f.d)) ∷ []) ∵ unhide ! $ fsplit ! $ feq_l ! (λ e. hide ! $
          pure_i ! (room f.elem (length (f.sub h))) (tt, tt) (subst (Room f.elem) (sym e) f.fits) $
          feq_i ! (List Val) (slice_val (b, o + f.d) f.count ∷ []) (slice_val (b, o + f.d) (length (f.sub h)) ∷ []) (ap (λ (m : ℕ). slice_val (b, o + f.d) m ∷ []) (sym e)) $ fjoin ! $ fjoin ! $ done !)

      module _ (op : Opens 𝓛 (row TT)) (κ : Lft) (q : Share) where
        pub made : (fs : Lends 𝓛 TT n) → At κ fs → (a : Denots (types_at ps κs)) (vss : Valss (types_at ps κs))
            → ent 𝓤 (sep 𝓤 (sem 𝓛 (hidden_shr (row TT) κ h b o)) (sep 𝓤 (A.lft κ q) (sem 𝓛 (owns (types_at ps κs) a vss)))) (H.⇛ (sep 𝓤 (A.lft κ q) (sem 𝓛 (owns (types_at (slots_of fs ps) κs) (args_of fs a) (vals_of fs vss)))))
        made [] at a vss = qed 𝓛 (‵ (hidden_shr (row TT) κ h b o) ∷ ‵ (flft κ q) ∷ ‵ (owns (types_at ps κs) a vss) ∷ []) ∵ updating ! $ at_once ! $ drop ! $ done !
        made (f ∷ fs) at a vss =
            qed 𝓛 (‵ (hidden_shr (row TT) κ h b o) ∷ ‵ (flft κ q) ∷ ‵ (owns (types_at ps κs) a vss) ∷ []) ∵ updating ! $ twice_dup ! (shared_of (row TT) h b o) (op h b o).1 κ $ move ! (0 ∷ 2 ∷ []) $
            use2 𝓛 (later (‵ (hidden_shr (Array f.elem f.count) κ (f.sub h) b (o + f.d)) ⊛ ‵ (flft κ q))) (f.part κ q h b o) $ await ! tt $ split ! $
            use1 𝓛 (‵ ((ShrSlice (named f.j) κ f.elem).own_val (record { ref_ptr = (b, o + f.d); now = f.sub h }) (slice_val (b, o + f.d) f.count ∷ []))) (whole-slice f κ) $
            rewrite ! 0 (λ (β : Lft). ‵ ((ShrSlice (named f.j) β f.elem).own_val (record { ref_ptr = (b, o + f.d); now = f.sub h }) (slice_val (b, o + f.d) f.count ∷ []))) (sym at.0) refl $
            -- [the slice; the token; the struct's borrow; the others]
            move ! (2 ∷ 1 ∷ 3 ∷ []) $ use3 𝓛 (later (‵ (flft κ q) ⊛ ‵ (owns (types_at (slots_of fs ps) κs) (args_of fs a) (vals_of fs vss)))) (made fs at.1 a vss) $ await ! tt $ split ! $
            at_once ! $ frame ! $ move ! (1 ∷ 0 ∷ []) $ fjoin ! $ done !

  of-slice : (f : Lend 𝓛 TT n) (b o : ℕ) → Of (slice_ty (ty_ref erased imm (pointee (f.elem).written))) (slice_val (b, o + f.d) f.count)
  of-slice f b o = (tt, (tt, (record { fits = f.fits.0 }, tt)))

  pub array-typed : (fs : Lends 𝓛 TT n) (b o : ℕ) → Typed (array_types fs) (array_vals fs b o)
  array-typed [] b o = tt
  array-typed (f ∷ fs) b o = ((tt, tt), (of-slice f b o, array-typed fs b o))

  module _ {K : Type 0} where
    open 𝓛 use {H}

    pub lends-arrays : K → (C : Calls 𝓤 H) (Λ : Loops 𝓤 H) (e₀ : Ty × ℕ) (π : Ty) (l₁ : ℕ) (G : List (Ty × ℕ)) (q : Post 𝓤 H) (rest : Body) (b o : ℕ) (fs : Lends 𝓛 TT n) (i : ℕ) (cs : Blocks (array_types fs))
        → Stands (e₀ ∷ (ty_ref (named 0) imm π, l₁) ∷ G) i (array_types fs) cs → {Γ : List (Item 𝓤)}
        → Step K 𝓛 (‵ (full (array_types fs) cs (array_vals fs b o)) ∷ ‵ (fat full_share (ty_ref (named 0) imm π) l₁ 0 (vptr b o)) ∷ Γ) (runs C Λ (e₀ ∷ (ty_ref (named 0) imm π, l₁) ∷ G) rest q)
        (‵ (rooms (array_types fs) cs) ∷ ‵ (fat full_share (ty_ref (named 0) imm π) l₁ 0 (vptr b o)) ∷ Γ) (runs C Λ (e₀ ∷ (ty_ref (named 0) imm π, l₁) ∷ G) (lending-arrays i fs rest) q)
    lends-arrays t C Λ e₀ π l₁ G q rest b o [] i cs st = step (λ s. s)
    lends-arrays t C Λ e₀ π l₁ G q rest b o (f ∷ fs) i cs st = step (λ s. fsplit t $ fsplit t $ move t (2 ∷ []) $ fsplit t $ fsplit t $
        -- [room for the slice; …; the other room; room for the pointer; …; the struct's pointer]
        assigns t (addr t (from t (hop t (look t 5 refl) (fld t f.stands (stop t))))) (from_at t st.0 (stop t)) (init t 3 refl (tt, tt)) $
        assigns t (agg t (and_then t (load t (from_at t st.0 (stop t)) (look t 3 refl)) (and_then t (lit t f.small) (no_more t)))) (from_at t st.1.0 (stop t)) (init t 0 refl (of-slice f b o)) $
        move t (2 ∷ 5 ∷ []) $ lends-arrays t C Λ e₀ π l₁ G q rest b o fs (suc (suc i)) cs.1.1 st.1.1 $
        move t (2 ∷ 3 ∷ []) $ fjoin t $ fjoin t $ move t (2 ∷ 3 ∷ []) $ fjoin t $ fjoin t $ s)

  -- the slices are read one after the other, each with the rest as its frame
  reads-slices : (E : Env 𝓤 𝓛.H) (xs : List Opd) (b o : ℕ) (i : ℕ) (fs : Lends 𝓛 TT n) (cs : Blocks (array_types fs)) → Stands E i (array_types fs) cs → (R : SProp 𝓤) (Q : List Val → SProp 𝓤)
      → ent 𝓤 (sep 𝓤 (sem 𝓛 (full (array_types fs) cs (array_vals fs b o))) R) (eval_opds 𝓤 𝓛.H E xs (λ vs. Q (slice_vals fs b o ++ vs)))
      → ent 𝓤 (sep 𝓤 (sem 𝓛 (full (array_types fs) cs (array_vals fs b o))) R) (eval_opds 𝓤 𝓛.H E (slice-copies i fs xs) Q)
  reads-slices E xs b o i [] cs st R Q h = h
  reads-slices E xs b o i (f ∷ fs) cs st R Q h =
      subst (λ (l : Ty × ℕ). ent 𝓤 (sep 𝓤 (sem 𝓛 (full (array_types (f ∷ fs)) cs (array_vals (f ∷ fs) b o))) R) (read 𝓤 𝓛.H l.0 l.1 zero Rest)) (sym st.1.0)
      (qed 𝓛 (‵ (full (array_types (f ∷ fs)) cs (array_vals (f ∷ fs) b o)) ∷ raw R ∷ []) ∵ show ! (λ (q : Share). ex 𝓤 (λ (v : Val). sep 𝓤 (𝓛.H.at q σ cs.1.0 zero v) (wand 𝓤 (𝓛.H.at q σ cs.1.0 zero v) (Rest v)))) full_share $
      show ! (λ (v : Val). sep 𝓤 (𝓛.H.at full_share σ cs.1.0 zero v) (wand 𝓤 (𝓛.H.at full_share σ cs.1.0 zero v) (Rest v))) u $
      fsplit ! $ move ! (1 ∷ []) $ fsplit ! $ fsplit ! $ frame ! $ assume ! (‵ (fat full_share σ cs.1.0 zero u)) $
      -- [the slice; its block; the others; the pointer; R]
      fjoin ! $ move ! (1 ∷ 0 ∷ 2 ∷ 3 ∷ []) $ by ! (reads-slices E xs b o (suc (suc i)) fs cs.1.1 st.1.1 (sep 𝓤 (sem 𝓛 Slice) (sep 𝓤 (sem 𝓛 Pointer) R)) (λ vs. Q (u ∷ vs))
      (qed 𝓛 (‵ (full (array_types fs) cs.1.1 (array_vals fs b o)) ∷ ‵ Slice ∷ ‵ Pointer ∷ raw R ∷ []) ∵ move ! (1 ∷ 0 ∷ []) $ fjoin ! $ move ! (1 ∷ 0 ∷ []) $ fjoin ! $ by ! h)))
    where
      σ : Ty
      σ = slice_ty (ty_ref erased imm (pointee (f.elem).written))

      u : Val
      u = slice_val (b, o + f.d) f.count

      Slice : Fml
      Slice = fsep (fat full_share σ cs.1.0 zero u) (fdies σ cs.1.0)

      Pointer : Fml
      Pointer = fsep (fat full_share (ty_ref erased imm (pointee (Array f.elem f.count).written)) cs.0 zero (vptr b (o + f.d))) (fdies (ty_ref erased imm (pointee (Array f.elem f.count).written)) cs.0)

      Rest : Val → SProp 𝓤
      Rest v = eval_opds 𝓤 𝓛.H E (slice-copies (suc (suc i)) fs xs) (λ vs. Q (v ∷ vs))

  -- entry k of the context has the locals
  pub arrays-read : {K : Type 0} {Γ : List (Item 𝓤)} → K → (k : ℕ) (E : Env 𝓤 𝓛.H) (b o : ℕ) (i : ℕ) (fs : Lends 𝓛 TT n) (cs : Blocks (array_types fs)) → Stands E i (array_types fs) cs
      → nth 𝓛 k Γ ≡ ‵ (full (array_types fs) cs (array_vals fs b o)) → {xs : List Opd} {vs : List Val} → Opds K 𝓛 Γ E xs vs → Opds K 𝓛 Γ E (slice-copies i fs xs) (slice_vals fs b o ++ vs)
  arrays-read {K} {Γ} t k E b o i fs cs st e {xs} {vs} more = record {
    go = λ Kt h.
        via 𝓤 (sep 𝓤 (sem 𝓛 (full (array_types fs) cs (array_vals fs b o))) (⋆ 𝓛 (del 𝓛 k Γ)))
        (subst (λ (j : Item 𝓤). ent 𝓤 (⋆ 𝓛 Γ) (sep 𝓤 (mean 𝓛 j) (⋆ 𝓛 (del 𝓛 k Γ)))) e (pull 𝓛 k Γ))
        (reads-slices E xs b o i fs cs st (⋆ 𝓛 (del 𝓛 k Γ)) Kt
        (via 𝓤 (⋆ 𝓛 Γ) (subst (λ (j : Item 𝓤). ent 𝓤 (sep 𝓤 (mean 𝓛 j) (⋆ 𝓛 (del 𝓛 k Γ))) (⋆ 𝓛 Γ)) e (unpull 𝓛 k Γ)) (more.go (λ ws. Kt (slice_vals fs b o ++ ws)) h)));
  }
