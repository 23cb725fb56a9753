-- The parameters that a thin function hands on as they are: any of them, and behind them nothing, or a `&mut [E]`, which is lent on.
--     Tail         what stands behind the others.        tail_types, pointers, slices      its type, and those of the locals by which it is lent on
--     Split        the machine values, cut before it.        split-at      from their types
--     lends-tail   how it is lent on
--     beyond-all, after-all, first-all, second-all, third-all      where locals stand after a first two and three lists of others, and where those lists do
--     Inside, heads-stand, results-stand, pointers-stand, slices-stand      the locals after those: the table's, those of the results of calls, the pointer, the tail lent on, and others
--     heads, lends-head, heads-read     the table as it is handed on
-- Assumes `Logic`.
use mathlib.Core.Path.{◌≡◌, refl, sym, ◌∙◌, ap, subst}
use Prim.Native.Nat.{ℕ, zero, suc}
use mathlib.Core.List.{List, [], ◌∷◌, ◌++◌, append-nil}
use lib.ListN.{get_or}
use seplogic.Ra.Ura.{Ura}
use base.Fraction.{full_share}
use base.Fml.{fat}
use mir.Syntax.{Lifetime, Mutability, Ty, ty_ref, ty_enum, ttnil, named, erased, mut, imm, deref, field, place, Opd, copy, addr_of, aggregate, Body, assign, seq}
use mir.Val.{Val, vptr, vstruct, vcons, vnil}
use prog.Wp.{Calls, Loops, Env}
use types.Logic.{Logic}
use types.Kit.{Item, ‵, nth, Post, runs, Step, step, ◌$◌, move, fsplit, fjoin}
use types.Run.{Opds, look, init, stop, hop, fld, from, load, addr, and_then, no_more, assigns}
use types.Part.{agg, whole, sub, look_in}
use denote.Laws.{Typed}
use denote.Slice.{slice_ty}
use denote.Steps.{only}
use Rattle.walks.proofs.Frames.{Blocks, Stands, past, env, rooms, full, behind, stands, after, from_at, operands}
use Rattle.walks.proofs.Picks.{beyond}
use Rattle.walks.proofs.Slices.{lastly, EndsSliced, sliced}
use Rattle.walks.proofs.Thin.{Of}

pub data Tail : Type 0 where
  nothing-more : Tail
  lent-on : Lifetime → Ty → Tail

abbrev pub tail_types : Tail → List Ty
tail_types nothing-more = []
tail_types (lent-on ℓ ε) = slice_ty (ty_ref ℓ mut ε) ∷ []

abbrev pub pointers : Tail → List Ty
pointers nothing-more = []
pointers (lent-on ℓ ε) = ty_ref erased mut ε ∷ []

abbrev pub slices : Tail → List Ty
slices nothing-more = []
slices (lent-on ℓ ε) = slice_ty (ty_ref erased mut ε) ∷ []

-- the pointer in local j and the slice in local k, from local i
abbrev pub lending : Tail → ℕ → ℕ → ℕ → Body → Body
lending nothing-more i j k rest = rest
lending (lent-on ℓ ε) i j k rest =
    seq (assign (place j []) (addr_of (place i (field 0 ∷ deref ε ∷ []))))
    (seq (assign (place k []) (aggregate (copy (place j []) ∷ copy (place i (field 1 ∷ [])) ∷ []))) rest)

abbrev pub Fits : Tail → List Val → Type 0
Fits nothing-more vs = vs ≡ []
Fits (lent-on ℓ ε) vs = (i : ℕ) × (j : ℕ) × (c : Val) × (vs ≡ vstruct (vcons (vptr i j) (vcons c vnil)) ∷ []) × Of (slice_ty (ty_ref ℓ mut ε)) (vstruct (vcons (vptr i j) (vcons c vnil)))

abbrev pub Points : Tail → List Val → Type 0
Points nothing-more vs = Unit {0}
Points (lent-on ℓ ε) vs = EndsSliced vs

pub record Split (τs : List Ty) (tl : Tail) (vs : List Val) : Type 0 where
  pub front : List Val
  pub last : List Val
  pub is : vs ≡ front ++ last
  pub typed : Typed τs front
  pub fits : Fits tl last

pub split-at : (τs : List Ty) (tl : Tail) (vs : List Val) → Typed (τs ++ tail_types tl) vs → Points tl vs → Split τs tl vs
split-at τs nothing-more vs ty p = record { front = vs; last = []; is = sym (append-nil vs); typed = subst (λ (ρs : List Ty). Typed ρs vs) (append-nil τs) ty; fits = refl }
split-at τs (lent-on ℓ ε) vs ty p =
    let l = lastly τs (slice_ty (ty_ref ℓ mut ε)) vs ty in
    let s = sliced l.0 l.1 vs l.2 p in
    record { front = l.0; last = l.1 ∷ []; is = l.2; typed = l.3; fits = (s.0, s.1, s.2, ap (λ (v : Val). v ∷ []) s.3, subst (Of (slice_ty (ty_ref ℓ mut ε))) s.3 l.4) }

-- the values of the locals by which it is lent on
abbrev pointer-of : Val → Val
pointer-of (vstruct (vcons p vs)) = p
pointer-of v = v

abbrev pub pointer_vals : Tail → List Val → List Val
pointer_vals nothing-more vs = []
pointer_vals (lent-on ℓ ε) vs = pointer-of (only vs) ∷ []

pub tail-typed : (tl : Tail) (vs : List Val) → Fits tl vs → Typed (tail_types tl) vs
tail-typed nothing-more vs e = subst (Typed []) (sym e) tt
tail-typed (lent-on ℓ ε) vs (i, j, c, e, of) = subst (Typed (slice_ty (ty_ref ℓ mut ε) ∷ [])) (sym e) (of, tt)

pub pointers-typed : (tl : Tail) (vs : List Val) → Fits tl vs → Typed (pointers tl) (pointer_vals tl vs)
pointers-typed nothing-more vs e = tt
pointers-typed (lent-on ℓ ε) vs (i, j, c, e, of) = subst (λ (us : List Val). Typed (ty_ref erased mut ε ∷ []) (pointer-of (only us) ∷ [])) (sym e) ((tt, tt), tt)

pub slices-typed : (tl : Tail) (vs : List Val) → Fits tl vs → Typed (slices tl) vs
slices-typed nothing-more vs e = subst (Typed []) (sym e) tt
slices-typed (lent-on ℓ ε) vs (i, j, c, e, of) = subst (Typed (slice_ty (ty_ref erased mut ε) ∷ [])) (sym e) (of, tt)

module _ {M : Type 1} {𝓤 : Ura M} {𝓛 : Logic 𝓤} {K : Type 0} where
  open 𝓛 use {H}

  pub lends-tail : K → (C : Calls 𝓤 H) (Λ : Loops 𝓤 H) (E : Env 𝓤 H) (q : Post 𝓤 H) (rest : Body) (tl : Tail) (i j k : ℕ) (rs : Blocks (tail_types tl)) (es : Blocks (pointers tl)) (fs : Blocks (slices tl))
      → Stands E i (tail_types tl) rs → Stands E j (pointers tl) es → Stands E k (slices tl) fs → (zs : List Val) → Fits tl zs → {Γ : List (Item 𝓤)}
      → Step K 𝓛 (‵ (full (pointers tl) es (pointer_vals tl zs)) ∷ ‵ (full (slices tl) fs zs) ∷ ‵ (full (tail_types tl) rs zs) ∷ Γ) (runs C Λ E rest q)
      (‵ (rooms (pointers tl) es) ∷ ‵ (rooms (slices tl) fs) ∷ ‵ (full (tail_types tl) rs zs) ∷ Γ) (runs C Λ E (lending tl i j k rest) q)
  lends-tail t C Λ E q rest nothing-more i j k rs es fs st st' st'' zs fits = step (λ s. s)
  lends-tail t C Λ E q rest (lent-on ℓ ε) i j k rs es fs st st' st'' zs (x, y, c, e, of) {Γ} =
      subst (λ (us : List Val). Step K 𝓛 (‵ (full (ty_ref erased mut ε ∷ []) es (pointer-of (only us) ∷ [])) ∷ ‵ (full (slice_ty (ty_ref erased mut ε) ∷ []) fs us) ∷ ‵ (full (slice_ty (ty_ref ℓ mut ε) ∷ []) rs us) ∷ Γ) (runs C Λ E rest q)
      (‵ (rooms (ty_ref erased mut ε ∷ []) es) ∷ ‵ (rooms (slice_ty (ty_ref erased mut ε) ∷ []) fs) ∷ ‵ (full (slice_ty (ty_ref ℓ mut ε) ∷ []) rs us) ∷ Γ) (runs C Λ E (lending (lent-on ℓ ε) i j k rest) q)) (sym e)
      (step (λ s. fsplit t $ fsplit t $ move t (3 ∷ []) $ fsplit t $ fsplit t $ move t (6 ∷ []) $ fsplit t $ fsplit t $
      -- [the slice; …; nothing; room for the slice lent on; …; nothing; room for its pointer; …; nothing]
      assigns t (addr t (from_at t st.0 (fld t refl (hop t (look_in t 0 (sub t 0 refl (whole t))) (stop t))))) (from_at t st'.0 (stop t)) (init t 6 refl (tt, tt)) $
      assigns t (agg t (and_then t (load t (from_at t st'.0 (stop t)) (look t 6 refl)) (and_then t (load t (from_at t st.0 (fld t refl (stop t))) (look_in t 0 (sub t 1 refl (whole t)))) (no_more t)))) (from_at t st''.0 (stop t)) (init t 3 refl of) $
      fjoin t $ fjoin t $ move t (1 ∷ 2 ∷ 3 ∷ []) $ fjoin t $ fjoin t $ move t (2 ∷ 3 ∷ 4 ∷ []) $ fjoin t $ fjoin t $ s))

-- ════ Where the locals stand ════

abbrev none : Ty × ℕ
none = (ty_enum [] ttnil, zero)

module _ (e₀ e₁ : Ty × ℕ) (σs : List Ty) (bs : Blocks σs) (τs : List Ty) (ds : Blocks τs) (ρs : List Ty) (rs : Blocks ρs) (F : List (Ty × ℕ)) (i : ℕ) where
  pub beyond-all : (υs : List Ty) (cs : Blocks υs) → Stands F i υs cs → Stands (e₀ ∷ e₁ ∷ env σs bs (env τs ds (env ρs rs F))) (suc (suc (past (past (past i ρs) τs) σs))) υs cs
  beyond-all υs cs st =
      behind e₀ (e₁ ∷ env σs bs (env τs ds (env ρs rs F))) (suc (past (past (past i ρs) τs) σs)) υs cs (behind e₁ (env σs bs (env τs ds (env ρs rs F))) (past (past (past i ρs) τs) σs) υs cs
      (beyond σs bs (env τs ds (env ρs rs F)) (past (past i ρs) τs) υs cs (beyond τs ds (env ρs rs F) (past i ρs) υs cs (beyond ρs rs F i υs cs st))))

  pub after-all : get_or (e₀ ∷ e₁ ∷ env σs bs (env τs ds (env ρs rs F))) (suc (suc (past (past (past i ρs) τs) σs))) none ≡ get_or F i none
  after-all = after (past (past i ρs) τs) σs bs (env τs ds (env ρs rs F)) ∙ after (past i ρs) τs ds (env ρs rs F) ∙ after i ρs rs F

  pub first-all : Stands (e₀ ∷ e₁ ∷ env σs bs (env τs ds (env ρs rs F))) 2 σs bs
  first-all = behind e₀ (e₁ ∷ env σs bs (env τs ds (env ρs rs F))) 1 σs bs (behind e₁ (env σs bs (env τs ds (env ρs rs F))) 0 σs bs (stands σs bs (env τs ds (env ρs rs F))))

  pub second-all : Stands (e₀ ∷ e₁ ∷ env σs bs (env τs ds (env ρs rs F))) (suc (suc (past 0 σs))) τs ds
  second-all =
      behind e₀ (e₁ ∷ env σs bs (env τs ds (env ρs rs F))) (suc (past 0 σs)) τs ds (behind e₁ (env σs bs (env τs ds (env ρs rs F))) (past 0 σs) τs ds
      (beyond σs bs (env τs ds (env ρs rs F)) 0 τs ds (stands τs ds (env ρs rs F))))

  pub third-all : Stands (e₀ ∷ e₁ ∷ env σs bs (env τs ds (env ρs rs F))) (suc (suc (past (past 0 τs) σs))) ρs rs
  third-all =
      behind e₀ (e₁ ∷ env σs bs (env τs ds (env ρs rs F))) (suc (past (past 0 τs) σs)) ρs rs (behind e₁ (env σs bs (env τs ds (env ρs rs F))) (past (past 0 τs) σs) ρs rs
      (beyond σs bs (env τs ds (env ρs rs F)) (past 0 τs) ρs rs (beyond τs ds (env ρs rs F) 0 ρs rs (stands ρs rs F))))

module _ (ηs : List Ty) (hs : Blocks ηs) (δs : List Ty) (cs : Blocks δs) (πs : List Ty) (es : Blocks πs) (ss : List Ty) (fs : Blocks ss) (e : List (Ty × ℕ)) where
  abbrev pub Inside : List (Ty × ℕ)
  Inside = env ηs hs (env δs cs (env πs es (env ss fs e)))

  pub heads-stand : Stands Inside 0 ηs hs
  heads-stand = stands ηs hs (env δs cs (env πs es (env ss fs e)))

  pub results-stand : Stands Inside (past 0 ηs) δs cs
  results-stand = beyond ηs hs (env δs cs (env πs es (env ss fs e))) 0 δs cs (stands δs cs (env πs es (env ss fs e)))

  pub pointers-stand : Stands Inside (past (past 0 δs) ηs) πs es
  pointers-stand = beyond ηs hs (env δs cs (env πs es (env ss fs e))) (past 0 δs) πs es (beyond δs cs (env πs es (env ss fs e)) 0 πs es (stands πs es (env ss fs e)))

  pub slices-stand : Stands Inside (past (past (past 0 πs) δs) ηs) ss fs
  slices-stand =
      beyond ηs hs (env δs cs (env πs es (env ss fs e))) (past (past 0 πs) δs) ss fs (beyond δs cs (env πs es (env ss fs e)) (past 0 πs) ss fs (beyond πs es (env ss fs e) 0 ss fs (stands ss fs e)))

-- ════ The table, handed on: a `&T` as it is, a `&mut T` lent again ════

abbrev pub heads : Mutability → Ty → List Ty
heads mut π = ty_ref erased mut π ∷ []
heads imm π = []

abbrev pub head_vals : Mutability → Val → List Val
head_vals mut v = v ∷ []
head_vals imm v = []

-- into local i
abbrev pub again : Mutability → Ty → ℕ → Body → Body
again mut σ i rest = seq (assign (place i []) (addr_of (place 1 (deref σ ∷ [])))) rest
again imm σ i rest = rest

abbrev pub head-operands : Mutability → ℕ → List Opd → List Opd
head-operands mut i xs = copy (place i []) ∷ xs
head-operands imm i xs = copy (place 1 []) ∷ xs

pub head-typed : (μ : Mutability) (π : Ty) (b o : ℕ) → Typed (heads μ π) (head_vals μ (vptr b o))
head-typed mut π b o = ((tt, tt), tt)
head-typed imm π b o = tt

module _ {M : Type 1} {𝓤 : Ura M} {𝓛 : Logic 𝓤} {K : Type 0} where
  open 𝓛 use {H}

  pub lends-head : K → (C : Calls 𝓤 H) (Λ : Loops 𝓤 H) (e₀ : Ty × ℕ) (μ : Mutability) (σ π : Ty) (l₁ : ℕ) (G : List (Ty × ℕ)) (q : Post 𝓤 H) (rest : Body) (i : ℕ) (hs : Blocks (heads μ π)) → Stands (e₀ ∷ (ty_ref (named 0) μ π, l₁) ∷ G) i (heads μ π) hs → (b o : ℕ) → {Γ : List (Item 𝓤)}
      → Step K 𝓛 (‵ (full (heads μ π) hs (head_vals μ (vptr b o))) ∷ ‵ (fat full_share (ty_ref (named 0) μ π) l₁ 0 (vptr b o)) ∷ Γ) (runs C Λ (e₀ ∷ (ty_ref (named 0) μ π, l₁) ∷ G) rest q)
      (‵ (rooms (heads μ π) hs) ∷ ‵ (fat full_share (ty_ref (named 0) μ π) l₁ 0 (vptr b o)) ∷ Γ) (runs C Λ (e₀ ∷ (ty_ref (named 0) μ π, l₁) ∷ G) (again μ σ i rest) q)
  lends-head t C Λ e₀ mut σ π l₁ G q rest i hs st b o = step (λ s. fsplit t $ fsplit t $
      assigns t (addr t (from t (hop t (look t 3 refl) (stop t)))) (from_at t st.0 (stop t)) (init t 0 refl (tt, tt)) $ fjoin t $ fjoin t $ s)
  lends-head t C Λ e₀ imm σ π l₁ G q rest i hs st b o = step (λ s. s)

  -- entry n has the locals, and entry k the table's
  pub heads-read : K → (n k : ℕ) (e₀ : Ty × ℕ) (μ : Mutability) (π : Ty) (l₁ : ℕ) (G : List (Ty × ℕ)) (i : ℕ) (hs : Blocks (heads μ π)) → Stands (e₀ ∷ (ty_ref (named 0) μ π, l₁) ∷ G) i (heads μ π) hs → (b o : ℕ) → {Γ : List (Item 𝓤)}
      → nth 𝓛 n Γ ≡ ‵ (full (heads μ π) hs (head_vals μ (vptr b o))) → nth 𝓛 k Γ ≡ ‵ (fat full_share (ty_ref (named 0) μ π) l₁ 0 (vptr b o)) → {xs : List Opd} {vs : List Val} → Opds K 𝓛 Γ (e₀ ∷ (ty_ref (named 0) μ π, l₁) ∷ G) xs vs
      → Opds K 𝓛 Γ (e₀ ∷ (ty_ref (named 0) μ π, l₁) ∷ G) (head-operands μ i xs) (vptr b o ∷ vs)
  heads-read t n k e₀ mut π l₁ G i hs st b o e e' more = operands t n (e₀ ∷ (ty_ref (named 0) mut π, l₁) ∷ G) i (ty_ref erased mut π ∷ []) hs (vptr b o ∷ []) ((tt, tt), tt) st e more
  heads-read t n k e₀ imm π l₁ G i hs st b o e e' more = and_then t (load t (from t (stop t)) (look t k e')) more
