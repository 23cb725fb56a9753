-- The walk of the MIR of a thin function that changes its table, once for every signature. What is owned stays in the hands of whoever uses it (`Changed.antt`): here it is four assertions.
--     changing     fn f(table: &mut T, ..) -> A { let step = g(*table, ..); *table = step.table; step.answer }
--     changes      its run. P is owned at entry, and gives the table's cell, what the call asks (Q) and a frame (F). What the call gives with the frame gives, for some z, that the result is the struct of `d z` and `t z`, and what is left (G z)
-- Assumes `Logic`, and that the table of calls is monotone under a frame.
use mathlib.Core.Path.{◌≡◌, refl}
use Prim.Native.Nat.{ℕ, zero, suc}
use mathlib.Core.Option.{some as just}
use mathlib.Core.List.{List, [], ◌∷◌, ◌++◌}
use seplogic.Ra.Ura.{Ura}
use base.Fraction.{full_share}
use lib.Dec.{T as Holds}
use mir.Syntax.{Sym, Callee, Ty, Tys, tcons, tnil, ty_struct, ty_ref, named, mut, deref, field, place, copy, rv_opd, assign, call, return, seq, local, value_local, Fn}
use mir.Raw.{raw as raw_ty}
use mir.Val.{Val, vptr, vstruct, vcons, vnil, WT, has_ty}
use base.Logic.{SProp, ent, sep, ex, guard, id⊢}
use base.Fml.{fat}
use prog.Memory.{field_at}
use prog.Wp.{Calls, Loops, WpFn}
use types.Logic.{Logic}
use types.Kit.{‵, raw, some, given, later, ◌⊛◌, ◌$◌, ◌∵◌, !, qed, by, move, use1, use2, split3, pick, learn, rewrite, await}
use types.Run.{look, init, store, forget, stop, hop, fld, from, load, of_opd, and_then, no_more, well_typed, assigns, land, returns, enter, alloc1, alloc0, params1, pass1, pass0, free1, free0}
use types.Part.{whole, sub, look_in}
use sound.WpLaws.{FmC}
use denote.Laws.{Typed}
use denote.Triple.Call.{calls_from}
use Rattle.walks.proofs.Frames.{env, locals, copies, past, stands, behind, after, from_at, allocs-all, passes-all, frees_all, operands}

-- the value has the type
abbrev pub Of : Ty → Val → Type 0
Of τ v = Holds (has_ty τ v) × WT v

-- two fields in a struct
abbrev pub two : Ty → Ty → Tys
two δ τ = tcons δ (tcons τ tnil)

-- π is the table's type as it is written behind a reference, τ as it lies there; δ is the answer's, and ν the name of the struct of both. n and k count lifetimes and parameters
abbrev pub changing : (n k : ℕ) (ν : Sym) (δ τ π : Ty) (τs : List Ty) → Callee → Fn
changing n k ν δ τ π τs g = record {
  lifetimes = n;
  outlives = [];
  ty_params = [];
  givens = 0;
  params = k;
  locals = local δ value_local ∷ local (ty_ref (named 0) mut π) value_local ∷ locals τs (local (ty_struct ν (two δ τ)) value_local ∷ local τ value_local ∷ local τ value_local ∷ []);
  body = seq (assign (place (suc (suc (past 1 τs))) []) (rv_opd (copy (place 1 (deref τ ∷ [])))))
      (seq (call g (copy (place (suc (suc (past 1 τs))) []) ∷ copies 2 τs []) (place (suc (suc (past 0 τs))) []))
      (seq (assign (place (suc (suc (past 2 τs))) []) (rv_opd (copy (place (suc (suc (past 0 τs))) (field 1 ∷ [])))))
      (seq (assign (place 1 (deref τ ∷ [])) (rv_opd (copy (place (suc (suc (past 2 τs))) []))))
      (seq (assign (place 0 []) (rv_opd (copy (place (suc (suc (past 0 τs))) (field 0 ∷ []))))) return))));
}

module _ {M : Type 1} {𝓤 : Ura M} (𝓛 : Logic 𝓤) (C : Calls 𝓤 𝓛.H) (Λ : Loops 𝓤 𝓛.H) (fm : FmC 𝓤 𝓛.H 𝓛.laws C) where
  open 𝓛 use {H}

  pub changes : (n k : ℕ) (ν : Sym) (δ τ π : Ty) (τs : List Ty) (g : Callee) (i j : ℕ) → field_at zero (two δ τ) 0 ≡ just (δ, i) → field_at zero (two δ τ) 1 ≡ just (τ, j)
      → (b o : ℕ) (v : Val) (us : List Val) → Typed τs us → (P Q F : SProp 𝓤) (Ret Out : Val → SProp 𝓤) (Z : Type 0) (d t : Z → Val) (G : Z → SProp 𝓤)
      → ent 𝓤 P (H.⇛ (sep 𝓤 (H.at full_share (raw_ty τ) b o v) (sep 𝓤 Q F)))
      → ent 𝓤 Q (C g (v ∷ (us ++ [])) Ret)
      → ((w : Val) → ent 𝓤 (sep 𝓤 (Ret w) F) (H.⇛ (ex 𝓤 (λ (z : Z). guard 𝓤 ((w ≡ vstruct (vcons (d z) (vcons (t z) vnil))) × Of (ty_struct ν (two δ τ)) w × Of δ (d z) × Of τ (t z)) (G z)))))
      → ((z : Z) → ent 𝓤 (sep 𝓤 (H.at full_share (raw_ty τ) b o (t z)) (G z)) (Out (d z)))
      → ent 𝓤 P (WpFn 𝓤 H C Λ (changing n k ν δ τ π τs g) (vptr b o ∷ (us ++ [])) Out)
  changes n k ν δ τ π τs g i j e₀ e₁ b o v us ty P Q F Ret Out Z d t G before met back ends =
      qed 𝓛 (raw P ∷ []) ∵ enter ! C Λ (changing n k ν δ τ π τs g) (vptr b o ∷ (us ++ [])) Out $
      alloc1 ! (λ l₀. alloc1 ! (λ l₁. allocs-all ! τs (λ bs. alloc1 ! (λ l₂. alloc1 ! (λ l₃. alloc1 ! (λ l₄. alloc0 ! $ params1 ! $ pass1 ! (init ! 7 refl (tt, tt)) $
      move ! (6 ∷ []) $ passes-all ! τs bs us ty _ [] $ pass0 ! $
      -- [the parameters; room for the new table; …; room for the table's copy; …; room for the step; …; table; …; room for the result; …; P]
      move ! (11 ∷ []) $ use1 𝓛 (later (‵ (fat full_share (raw_ty τ) b o v) ⊛ raw Q ⊛ raw F)) before $ await ! tt $ split3 ! $
      use1 𝓛 (‵ (fat full_share τ b o v)) (𝓛.laws.raw_at full_share τ b o v) $ well_typed ! (λ wt.
      -- [the table's cell; Q; F; the parameters; room for the new table; …; room for the copy; …; room for the step; …; table; …; room for the result; …]
      assigns ! (of_opd ! (load ! (from ! (hop ! (look ! 10 refl) (stop !))) (look ! 0 refl))) (from_at ! (after 1 τs bs _) (stop !)) (init ! 6 refl wt) $
      move ! (1 ∷ []) $ calls_from ! fm (raw Q) (v ∷ (us ++ [])) Ret met
      (and_then ! (load ! (from_at ! (after 1 τs bs _) (stop !)) (look ! 6 refl)) (operands ! 3 _ 2 τs bs us ty (behind _ ((ty_ref (named 0) mut π, l₁) ∷ env τs bs ((ty_struct ν (two δ τ), l₂) ∷ (τ, l₃) ∷ (τ, l₄) ∷ [])) 1 τs bs (behind (ty_ref (named 0) mut π, l₁) (env τs bs ((ty_struct ν (two δ τ), l₂) ∷ (τ, l₃) ∷ (τ, l₄) ∷ [])) 0 τs bs (stands τs bs ((ty_struct ν (two δ τ), l₂) ∷ (τ, l₃) ∷ (τ, l₄) ∷ [])))) refl (no_more !))) (λ w.
      move ! (0 ∷ 2 ∷ []) $ use2 𝓛 (later (some (λ (z : Z). given ((w ≡ vstruct (vcons (d z) (vcons (t z) vnil))) × Of (ty_struct ν (two δ τ)) w × Of δ (d z) × Of τ (t z)) (raw (G z))))) (back w) $ await ! tt $ pick ! (λ z. learn ! (λ is.
      -- [G; the table's cell; the parameters; room for the new table; …; the copy; …; room for the step; …; table; …; room for the result; …]
      land ! (from_at ! (after 0 τs bs _) (stop !)) (init ! 7 refl is.1) $ rewrite ! 7 (λ (u : Val). ‵ (fat full_share (ty_struct ν (two δ τ)) l₂ 0 u)) is.0 refl $
      assigns ! (of_opd ! (load ! (from_at ! (after 0 τs bs _) (fld ! e₁ (stop !))) (look_in ! 7 (sub ! 1 e₁ (whole !))))) (from_at ! (after 2 τs bs _) (stop !)) (init ! 3 refl is.3) $
      assigns ! (of_opd ! (load ! (from_at ! (after 2 τs bs _) (stop !)) (look ! 3 refl))) (from ! (hop ! (look ! 9 refl) (stop !))) (store ! 1 refl is.3) $
      assigns ! (of_opd ! (load ! (from_at ! (after 0 τs bs _) (fld ! e₀ (stop !))) (look_in ! 7 (sub ! 0 e₀ (whole !))))) (from ! (stop !)) (init ! 11 refl is.2) $
      returns ! (look ! 11 refl) $ forget ! 3 refl $ forget ! 5 refl $ forget ! 7 refl $ forget ! 9 refl $ forget ! 11 refl $
      move ! (11 ∷ 12 ∷ []) $ free1 ! $ move ! (9 ∷ 10 ∷ []) $ free1 ! $ move ! (2 ∷ []) $ frees_all ! τs bs us ty _ $ move ! (6 ∷ 7 ∷ []) $ free1 ! $ move ! (4 ∷ 5 ∷ []) $ free1 ! $ move ! (2 ∷ 3 ∷ []) $ free1 ! $ free0 ! $
      use1 𝓛 (raw (G z)) (id⊢ 𝓤 (G z)) $ move ! (1 ∷ 0 ∷ []) $ use1 𝓛 (‵ (fat full_share (raw_ty τ) b o (t z))) (𝓛.laws.at_raw full_share τ b o (t z)) $ by ! (ends z)))))))))))
