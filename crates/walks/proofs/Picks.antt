-- The walk of a function on a `&` or a `&mut` that lends parts of the table, and copies nothing but numbers.
--     fn f(table: &T, ..) -> A { g(&table.x, table.n, .., ..) }      fn f(table: &mut T, ..) -> A { g(&mut table.x, &table.y, table.n, .., ..) }
--     Pick         a part that is handed to the callee: the field k, lent, or the number there, read. d is where the field begins, τ its type, and ε the type as it is written behind a reference
--     picking      the function.        picks      its run: P gives a share of the table's cell, one of S, and a frame (F), which give what the call asks (Q)
-- Assumes `Logic`, and that the table of calls is monotone under a frame.
use mathlib.Core.Path.{◌≡◌, refl, ◌∙◌}
use Prim.Native.Nat.{ℕ, zero, suc, ◌+◌}
use mathlib.Core.Option.{some as just}
use mathlib.Core.List.{List, [], ◌∷◌, ◌++◌}
use seplogic.Ra.Ura.{Ura}
use mir.Fields.{get_v}
use mir.Raw.{raw as raw_ty}
use mir.Syntax.{Sym, Callee, Lifetime, Mutability, Ty, Tys, ty_struct, ty_ref, named, erased, mut, imm, deref, field, place, copy, Rv, rv_opd, addr_of, aggregate, Body, assign, call, return, seq, local, value_local, Fn}
use mir.Val.{Val, Vals, vptr, vstruct, vcons, vnil}
use base.Logic.{SProp, ent, sep, ex, guard}
use base.Fml.{Share, fat}
use prog.Memory.{field_at}
use prog.Wp.{Calls, Loops, WpFn}
use types.Logic.{Logic}
use types.Kit.{Item, ‵, raw, some, given, later, ◌⊛◌, Post, runs, Step, step, ◌$◌, ◌∵◌, !, qed, move, use1, use2, split, pick, learn, fsplit, fjoin, await, done}
use types.Run.{look, init, forget, stop, hop, fld, from, load, addr, of_opd, and_then, no_more, assigns, land, returns, enter, alloc1, alloc0, params1, pass1, pass0, free1, free0}
use types.Part.{agg, whole, sub, look_in}
use base.Fraction.{full_share}
use sound.WpLaws.{FmC}
use denote.Laws.{Typed}
use denote.Slice.{slice_ty}
use denote.Triple.Call.{calls_from}
use Rattle.walks.proofs.Frames.{Blocks, Stands, locals, copies, past, env, rooms, full, stands, behind, after, from_at, allocs-all, passes-all, frees_all, operands}
use Rattle.walks.proofs.Thin.{Of}

pub data Pick : Type 0 where
  lend : (μ : Mutability) (k d : ℕ) (τ ε : Ty) → Pick
  read : (k d : ℕ) (τ : Ty) → Pick

-- the local's type, its value where the table's fields vs lie at (b, o), and what fills it
abbrev pub type-of : Pick → Ty
type-of (lend μ k d τ ε) = ty_ref erased μ ε
type-of (read k d τ) = τ

abbrev pub value_of : ℕ → ℕ → Vals → Pick → Val
value_of b o vs (lend μ k d τ ε) = vptr b (o + d)
value_of b o vs (read k d τ) = get_v vs k

abbrev filled : Ty → Pick → Rv
filled σ (lend μ k d τ ε) = addr_of (place 1 (deref σ ∷ field k ∷ []))
filled σ (read k d τ) = rv_opd (copy (place 1 (deref σ ∷ field k ∷ [])))

-- the field is there, and what is read has its type
abbrev pub Good : Tys → Vals → Pick → Type 0
Good fs vs (lend μ k d τ ε) = field_at zero fs k ≡ just (τ, d)
Good fs vs (read k d τ) = (field_at zero fs k ≡ just (τ, d)) × Of τ (get_v vs k)

abbrev pub types_of : List Pick → List Ty
types_of [] = []
types_of (p ∷ pk) = type-of p ∷ types_of pk

abbrev pub values_of : ℕ → ℕ → Vals → List Pick → List Val
values_of b o vs [] = []
values_of b o vs (p ∷ pk) = value_of b o vs p ∷ values_of b o vs pk

abbrev pub AllGood : Tys → Vals → List Pick → Type 0
AllGood fs vs [] = Unit {0}
AllGood fs vs (p ∷ pk) = Good fs vs p × AllGood fs vs pk

of-pick : (fs : Tys) (b o : ℕ) (vs : Vals) (p : Pick) → Good fs vs p → Of (type-of p) (value_of b o vs p)
of-pick fs b o vs (lend μ k d τ ε) g = (tt, tt)
of-pick fs b o vs (read k d τ) g = g.1

of-picks : (fs : Tys) (b o : ℕ) (vs : Vals) (pk : List Pick) → AllGood fs vs pk → Typed (types_of pk) (values_of b o vs pk)
of-picks fs b o vs [] g = tt
of-picks fs b o vs (p ∷ pk) g = (of-pick fs b o vs p g.0, of-picks fs b o vs pk g.1)

abbrev fills : Ty → ℕ → List Pick → Body → Body
fills σ i [] rest = rest
fills σ i (p ∷ pk) rest = seq (assign (place i []) (filled σ p)) (fills σ (suc i) pk rest)

abbrev pub picking : (n k : ℕ) (μ : Mutability) (δ σ π : Ty) (τs : List Ty) (pk : List Pick) → Callee → Fn
picking n k μ δ σ π τs pk g = record {
  lifetimes = n;
  outlives = [];
  ty_params = [];
  givens = 0;
  params = k;
  locals = local δ value_local ∷ local (ty_ref (named 0) μ π) value_local ∷ locals τs (locals (types_of pk) []);
  body = fills σ (suc (suc (past 0 τs))) pk (seq (call g (copies (suc (suc (past 0 τs))) (types_of pk) (copies 2 τs [])) (place 0 [])) return);
}

-- the same with a `&mut [E]` after the other parameters, which is lent on
abbrev pub picking-into : (n k : ℕ) (δ σ π : Ty) (τs : List Ty) (ℓ : Lifetime) (ε : Ty) (pk : List Pick) → Callee → Fn
picking-into n k δ σ π τs ℓ ε pk g = record {
  lifetimes = n;
  outlives = [];
  ty_params = [];
  givens = 0;
  params = k;
  locals = local δ value_local ∷ local (ty_ref (named 0) imm π) value_local ∷ locals τs (local (slice_ty (ty_ref ℓ mut ε)) value_local ∷ locals (types_of pk) (local (ty_ref erased mut ε) value_local ∷ local (slice_ty (ty_ref erased mut ε)) value_local ∷ []));
  body = fills σ (suc (suc (past 1 τs))) pk
      (seq (assign (place (suc (suc (past (suc (past 0 (types_of pk))) τs))) []) (addr_of (place (suc (suc (past 0 τs))) (field 0 ∷ deref ε ∷ []))))
      (seq (assign (place (suc (suc (past (suc (past 1 (types_of pk))) τs))) []) (aggregate (copy (place (suc (suc (past (suc (past 0 (types_of pk))) τs))) []) ∷ copy (place (suc (suc (past 0 τs))) (field 1 ∷ [])) ∷ [])))
      (seq (call g (copies (suc (suc (past 1 τs))) (types_of pk) (copies 2 τs (copy (place (suc (suc (past (suc (past 1 (types_of pk))) τs))) []) ∷ []))) (place 0 [])) return)));
}

-- the locals of ρs stand after those of τs
pub beyond : (τs : List Ty) (bs : Blocks τs) (E : List (Ty × ℕ)) (i : ℕ) (ρs : List Ty) (cs : Blocks ρs) → Stands E i ρs cs → Stands (env τs bs E) (past i τs) ρs cs
beyond [] bs E i ρs cs st = st
beyond (τ ∷ τs) bs E i ρs cs st = behind (τ, bs.0) (env τs bs.1 E) (past i τs) ρs cs (beyond τs bs.1 E i ρs cs st)

module _ {M : Type 1} {𝓤 : Ura M} {𝓛 : Logic 𝓤} {K : Type 0} where
  open 𝓛 use {H}

  takes : K → (C : Calls 𝓤 H) (Λ : Loops 𝓤 H) (e₀ : Ty × ℕ) (μ : Mutability) (π : Ty) (l₁ : ℕ) (E : List (Ty × ℕ)) (q : Post 𝓤 H) (s : Share) (ν : Sym) (fs : Tys) (b o : ℕ) (vs : Vals) (rest : Body) (i : ℕ) (pk : List Pick) (cs : Blocks (types_of pk))
      → AllGood fs vs pk → Stands (e₀ ∷ (ty_ref (named 0) μ π, l₁) ∷ E) i (types_of pk) cs → {Γ : List (Item 𝓤)}
      → Step K 𝓛 (‵ (full (types_of pk) cs (values_of b o vs pk)) ∷ ‵ (fat s (ty_struct ν fs) b o (vstruct vs)) ∷ ‵ (fat full_share (ty_ref (named 0) μ π) l₁ 0 (vptr b o)) ∷ Γ) (runs C Λ (e₀ ∷ (ty_ref (named 0) μ π, l₁) ∷ E) rest q)
      (‵ (rooms (types_of pk) cs) ∷ ‵ (fat s (ty_struct ν fs) b o (vstruct vs)) ∷ ‵ (fat full_share (ty_ref (named 0) μ π) l₁ 0 (vptr b o)) ∷ Γ) (runs C Λ (e₀ ∷ (ty_ref (named 0) μ π, l₁) ∷ E) (fills (ty_struct ν fs) i pk rest) q)
  takes t C Λ e₀ μ π l₁ E q s ν fs b o vs rest i [] cs good st = step (λ z. z)
  takes t C Λ e₀ μ π l₁ E q s ν fs b o vs rest i (lend μ' k d τ ε ∷ pk) cs good st = step (λ z. fsplit t $ fsplit t $
      assigns t (addr t (from t (hop t (look t 4 refl) (fld t good.0 (stop t))))) (from_at t st.0 (stop t)) (init t 0 refl (tt, tt)) $
      move t (2 ∷ 3 ∷ 4 ∷ []) $ takes t C Λ e₀ μ π l₁ E q s ν fs b o vs rest (suc i) pk cs.1 good.1 st.1 $ move t (3 ∷ 4 ∷ 0 ∷ []) $ fjoin t $ fjoin t $ z)
  takes t C Λ e₀ μ π l₁ E q s ν fs b o vs rest i (read k d τ ∷ pk) cs good st = step (λ z. fsplit t $ fsplit t $
      assigns t (of_opd t (load t (from t (hop t (look t 4 refl) (fld t good.0.0 (stop t)))) (look_in t 3 (sub t k good.0.0 (whole t))))) (from_at t st.0 (stop t)) (init t 0 refl good.0.1) $
      move t (2 ∷ 3 ∷ 4 ∷ []) $ takes t C Λ e₀ μ π l₁ E q s ν fs b o vs rest (suc i) pk cs.1 good.1 st.1 $ move t (3 ∷ 4 ∷ 0 ∷ []) $ fjoin t $ fjoin t $ z)

pub picks : {M : Type 1} {𝓤 : Ura M} (𝓛 : Logic 𝓤) (C : Calls 𝓤 𝓛.H) (Λ : Loops 𝓤 𝓛.H) → FmC 𝓤 𝓛.H 𝓛.laws C
    → (n k : ℕ) (μ : Mutability) (δ : Ty) (ν : Sym) (fs : Tys) (π : Ty) (τs : List Ty) (pk : List Pick) (g : Callee) (b o : ℕ) (vs : Vals) (us : List Val) → Typed τs us → (S : Type 0) (share : S → Share) (P : SProp 𝓤) (F : S → SProp 𝓤) (Q : SProp 𝓤) (Ret Out : Val → SProp 𝓤)
    → ent 𝓤 P (𝓛.H.⇛ (ex 𝓤 (λ (s : S). guard 𝓤 (AllGood fs vs pk) (sep 𝓤 (𝓛.H.at (share s) (raw_ty (ty_struct ν fs)) b o (vstruct vs)) (F s)))))
    → ((s : S) → ent 𝓤 (sep 𝓤 (𝓛.H.at (share s) (raw_ty (ty_struct ν fs)) b o (vstruct vs)) (F s)) (𝓛.H.⇛ Q))
    → ent 𝓤 Q (C g (values_of b o vs pk ++ (us ++ [])) Ret)
    → ((w : Val) → ent 𝓤 (Ret w) (𝓛.H.⇛ (guard 𝓤 (Of δ w) (Out w))))
    → ent 𝓤 P (WpFn 𝓤 𝓛.H C Λ (picking n k μ δ (ty_struct ν fs) π τs pk g) (vptr b o ∷ (us ++ [])) Out)
picks 𝓛 C Λ fm n k μ δ ν fs π τs pk g b o vs us ty S share P F Q Ret Out before mid met back =
    qed 𝓛 (raw P ∷ []) ∵ enter ! C Λ (picking n k μ δ (ty_struct ν fs) π τs pk g) (vptr b o ∷ (us ++ [])) Out $
    alloc1 ! (λ l₀. alloc1 ! (λ l₁. allocs-all ! τs (λ bs. allocs-all ! (types_of pk) (λ cs. alloc0 ! $ params1 ! $ pass1 ! (init ! 2 refl (tt, tt)) $
    move ! (1 ∷ []) $ passes-all ! τs bs us ty _ [] $ pass0 ! $
    -- [the parameters; room for the parts; table; …; room for the result; …; P]
    move ! (6 ∷ []) $ use1 𝓛 (later (some (λ (s : S). given (AllGood fs vs pk) (‵ (fat (share s) (raw_ty (ty_struct ν fs)) b o (vstruct vs)) ⊛ raw (F s))))) before $ await ! tt $ pick ! (λ s. learn ! (λ good. split ! $
    use1 𝓛 (‵ (fat (share s) (ty_struct ν fs) b o (vstruct vs))) (𝓛.laws.raw_at (share s) (ty_struct ν fs) b o (vstruct vs)) $
    -- [the table's cell; F; the parameters; room for the parts; table; …; room for the result; …]
    move ! (3 ∷ 0 ∷ 4 ∷ []) $ takes ! C Λ _ μ π l₁ _ _ (share s) ν fs b o vs _ (suc (suc (past 0 τs))) pk cs good
    (behind _ ((ty_ref (named 0) μ π, l₁) ∷ env τs bs (env (types_of pk) cs [])) (suc (past 0 τs)) (types_of pk) cs (behind (ty_ref (named 0) μ π, l₁) _ (past 0 τs) (types_of pk) cs (beyond τs bs _ 0 (types_of pk) cs (stands (types_of pk) cs [])))) $
    -- [the parts; the table's cell; table; F; the parameters; …; room for the result; …]
    move ! (1 ∷ []) $ use1 𝓛 (‵ (fat (share s) (raw_ty (ty_struct ν fs)) b o (vstruct vs))) (𝓛.laws.at_raw (share s) (ty_struct ν fs) b o (vstruct vs)) $ move ! (0 ∷ 3 ∷ []) $ use2 𝓛 (later (raw Q)) (mid s) $ await ! tt $
    calls_from ! fm (raw Q) (values_of b o vs pk ++ (us ++ [])) Ret met
    (operands ! 1 _ (suc (suc (past 0 τs))) (types_of pk) cs (values_of b o vs pk) (of-picks fs b o vs pk good) (behind _ ((ty_ref (named 0) μ π, l₁) ∷ env τs bs (env (types_of pk) cs [])) (suc (past 0 τs)) (types_of pk) cs (behind (ty_ref (named 0) μ π, l₁) _ (past 0 τs) (types_of pk) cs (beyond τs bs _ 0 (types_of pk) cs (stands (types_of pk) cs [])))) refl
    (operands ! 3 _ 2 τs bs us ty (behind _ ((ty_ref (named 0) μ π, l₁) ∷ env τs bs (env (types_of pk) cs [])) 1 τs bs (behind (ty_ref (named 0) μ π, l₁) _ 0 τs bs (stands τs bs (env (types_of pk) cs [])))) refl (no_more !))) (λ w.
    use1 𝓛 (later (given (Of δ w) (raw (Out w)))) (back w) $ await ! tt $ learn ! (λ of.
    -- [what is to be shown; the parts; table; the parameters; …; room for the result; …]
    land ! (from ! (stop !)) (init ! 5 refl of) $ returns ! (look ! 5 refl) $ forget ! 2 refl $ forget ! 5 refl $
    move ! (5 ∷ 6 ∷ []) $ free1 ! $ move ! (2 ∷ 4 ∷ []) $ free1 ! $ move ! (2 ∷ []) $ frees_all ! τs bs us ty _ $ move ! (1 ∷ []) $ frees_all ! (types_of pk) cs (values_of b o vs pk) (of-picks fs b o vs pk good) [] $ free0 ! $ done !))))))))

pub picks-into : {M : Type 1} {𝓤 : Ura M} (𝓛 : Logic 𝓤) (C : Calls 𝓤 𝓛.H) (Λ : Loops 𝓤 𝓛.H) → FmC 𝓤 𝓛.H 𝓛.laws C
    → (n k : ℕ) (δ : Ty) (ν : Sym) (fs : Tys) (π : Ty) (τs : List Ty) (ℓ : Lifetime) (ε : Ty) (pk : List Pick) (g : Callee) (b o : ℕ) (vs : Vals) (us : List Val) → Typed τs us → (i j : ℕ) (c : Val) → Of (slice_ty (ty_ref ℓ mut ε)) (vstruct (vcons (vptr i j) (vcons c vnil)))
    → (P : SProp 𝓤) (F : Share → SProp 𝓤) (Q : SProp 𝓤) (Ret Out : Val → SProp 𝓤)
    → ent 𝓤 P (𝓛.H.⇛ (ex 𝓤 (λ (s : Share). guard 𝓤 (AllGood fs vs pk) (sep 𝓤 (𝓛.H.at s (raw_ty (ty_struct ν fs)) b o (vstruct vs)) (F s)))))
    → ((s : Share) → ent 𝓤 (sep 𝓤 (𝓛.H.at s (raw_ty (ty_struct ν fs)) b o (vstruct vs)) (F s)) (𝓛.H.⇛ Q))
    → ent 𝓤 Q (C g (values_of b o vs pk ++ (us ++ (vstruct (vcons (vptr i j) (vcons c vnil)) ∷ []))) Ret)
    → ((w : Val) → ent 𝓤 (Ret w) (𝓛.H.⇛ (guard 𝓤 (Of δ w) (Out w))))
    → ent 𝓤 P (WpFn 𝓤 𝓛.H C Λ (picking-into n k δ (ty_struct ν fs) π τs ℓ ε pk g) (vptr b o ∷ (us ++ (vstruct (vcons (vptr i j) (vcons c vnil)) ∷ []))) Out)
picks-into 𝓛 C Λ fm n k δ ν fs π τs ℓ ε pk g b o vs us ty i j c of-slice P F Q Ret Out before mid met back =
    qed 𝓛 (raw P ∷ []) ∵ enter ! C Λ (picking-into n k δ (ty_struct ν fs) π τs ℓ ε pk g) (vptr b o ∷ (us ++ (vstruct (vcons (vptr i j) (vcons c vnil)) ∷ []))) Out $
    alloc1 ! (λ l₀. alloc1 ! (λ l₁. allocs-all ! τs (λ bs. alloc1 ! (λ l₂. allocs-all ! (types_of pk) (λ cs. alloc1 ! (λ l₃. alloc1 ! (λ l₄. alloc0 ! $ params1 ! $ pass1 ! (init ! 8 refl (tt, tt)) $
    move ! (7 ∷ []) $ passes-all ! τs bs us ty _ (vstruct (vcons (vptr i j) (vcons c vnil)) ∷ []) $ pass1 ! (init ! 6 refl of-slice) $ pass0 ! $
    -- [the parameters; room for the slice that is lent on; …; room for its pointer; …; room for the parts; the slice; …; table; …; room for the result; …; P]
    move ! (12 ∷ []) $ use1 𝓛 (later (some (λ (s : Share). given (AllGood fs vs pk) (‵ (fat s (raw_ty (ty_struct ν fs)) b o (vstruct vs)) ⊛ raw (F s))))) before $ await ! tt $ pick ! (λ s. learn ! (λ good. split ! $
    use1 𝓛 (‵ (fat s (ty_struct ν fs) b o (vstruct vs))) (𝓛.laws.raw_at s (ty_struct ν fs) b o (vstruct vs)) $
    move ! (7 ∷ 0 ∷ 10 ∷ []) $ takes ! C Λ _ imm π l₁ _ _ s ν fs b o vs _ (suc (suc (past 1 τs))) pk cs good
    (behind _ ((ty_ref (named 0) imm π, l₁) ∷ env τs bs ((slice_ty (ty_ref ℓ mut ε), l₂) ∷ env (types_of pk) cs ((ty_ref erased mut ε, l₃) ∷ (slice_ty (ty_ref erased mut ε), l₄) ∷ []))) (suc (past 1 τs)) (types_of pk) cs (behind (ty_ref (named 0) imm π, l₁) _ (past 1 τs) (types_of pk) cs (beyond τs bs ((slice_ty (ty_ref ℓ mut ε), l₂) ∷ env (types_of pk) cs ((ty_ref erased mut ε, l₃) ∷ (slice_ty (ty_ref erased mut ε), l₄) ∷ [])) 1 (types_of pk) cs (behind (slice_ty (ty_ref ℓ mut ε), l₂) _ 0 (types_of pk) cs (stands (types_of pk) cs ((ty_ref erased mut ε, l₃) ∷ (slice_ty (ty_ref erased mut ε), l₄) ∷ [])))))) $
    -- [the parts; the table's cell; table; F; the parameters; room for the slice that is lent on; …; room for its pointer; …; the slice; …; …; room for the result; …]
    assigns ! (addr ! (from_at ! (after 0 τs bs _) (fld ! refl (hop ! (look_in ! 9 (sub ! 0 refl (whole !))) (stop !))))) (from_at ! (after (suc (past 0 (types_of pk))) τs bs _ ∙ after 0 (types_of pk) cs _) (stop !)) (init ! 7 refl (tt, tt)) $
    assigns ! (agg ! (and_then ! (load ! (from_at ! (after (suc (past 0 (types_of pk))) τs bs _ ∙ after 0 (types_of pk) cs _) (stop !)) (look ! 7 refl)) (and_then ! (load ! (from_at ! (after 0 τs bs _) (fld ! refl (stop !))) (look_in ! 9 (sub ! 1 refl (whole !)))) (no_more !))))
    (from_at ! (after (suc (past 1 (types_of pk))) τs bs _ ∙ after 1 (types_of pk) cs _) (stop !)) (init ! 5 refl of-slice) $
    move ! (1 ∷ []) $ use1 𝓛 (‵ (fat s (raw_ty (ty_struct ν fs)) b o (vstruct vs))) (𝓛.laws.at_raw s (ty_struct ν fs) b o (vstruct vs)) $ move ! (0 ∷ 3 ∷ []) $ use2 𝓛 (later (raw Q)) (mid s) $ await ! tt $
    calls_from ! fm (raw Q) (values_of b o vs pk ++ (us ++ (vstruct (vcons (vptr i j) (vcons c vnil)) ∷ []))) Ret met
    (operands ! 1 _ (suc (suc (past 1 τs))) (types_of pk) cs (values_of b o vs pk) (of-picks fs b o vs pk good) (behind _ ((ty_ref (named 0) imm π, l₁) ∷ env τs bs ((slice_ty (ty_ref ℓ mut ε), l₂) ∷ env (types_of pk) cs ((ty_ref erased mut ε, l₃) ∷ (slice_ty (ty_ref erased mut ε), l₄) ∷ []))) (suc (past 1 τs)) (types_of pk) cs (behind (ty_ref (named 0) imm π, l₁) _ (past 1 τs) (types_of pk) cs (beyond τs bs ((slice_ty (ty_ref ℓ mut ε), l₂) ∷ env (types_of pk) cs ((ty_ref erased mut ε, l₃) ∷ (slice_ty (ty_ref erased mut ε), l₄) ∷ [])) 1 (types_of pk) cs (behind (slice_ty (ty_ref ℓ mut ε), l₂) _ 0 (types_of pk) cs (stands (types_of pk) cs ((ty_ref erased mut ε, l₃) ∷ (slice_ty (ty_ref erased mut ε), l₄) ∷ [])))))) refl
    (operands ! 3 _ 2 τs bs us ty (behind _ ((ty_ref (named 0) imm π, l₁) ∷ env τs bs ((slice_ty (ty_ref ℓ mut ε), l₂) ∷ env (types_of pk) cs ((ty_ref erased mut ε, l₃) ∷ (slice_ty (ty_ref erased mut ε), l₄) ∷ []))) 1 τs bs (behind (ty_ref (named 0) imm π, l₁) _ 0 τs bs (stands τs bs ((slice_ty (ty_ref ℓ mut ε), l₂) ∷ env (types_of pk) cs ((ty_ref erased mut ε, l₃) ∷ (slice_ty (ty_ref erased mut ε), l₄) ∷ []))))) refl (and_then ! (load ! (from_at ! (after (suc (past 1 (types_of pk))) τs bs _ ∙ after 1 (types_of pk) cs _) (stop !)) (look ! 4 refl)) (no_more !)))) (λ w.
    use1 𝓛 (later (given (Of δ w) (raw (Out w)))) (back w) $ await ! tt $ learn ! (λ of.
    land ! (from ! (stop !)) (init ! 11 refl of) $ returns ! (look ! 11 refl) $ forget ! 2 refl $ forget ! 4 refl $ forget ! 6 refl $ forget ! 8 refl $ forget ! 11 refl $
    move ! (11 ∷ 12 ∷ []) $ free1 ! $ move ! (2 ∷ 10 ∷ []) $ free1 ! $ move ! (2 ∷ []) $ frees_all ! τs bs us ty _ $ move ! (6 ∷ 7 ∷ []) $ free1 ! $ move ! (1 ∷ []) $ frees_all ! (types_of pk) cs (values_of b o vs pk) (of-picks fs b o vs pk good) _ $
    move ! (3 ∷ 4 ∷ []) $ free1 ! $ move ! (1 ∷ 2 ∷ []) $ free1 ! $ free0 ! $ done !)))))))))))
