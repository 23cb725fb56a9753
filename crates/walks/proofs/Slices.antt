-- The machine values of parameters of which the last is a `&mut [E]`.
--     Lastly, lastly       values of the types τs and then one of the type ρ
--     Sliced               a value is a pointer and a count.        EndsSliced, sliced     the last of several is
--     ends-lent            so is that of a `&mut [E]`.        ends-after     and with others in front
--     lent-last, last-lent     the last of several MIR types is that of a `&mut [E]`
--     Pointed              where it is so of a type, the last of its values is a pointer and a count.        a-lent-points, ends-none, ends-front     a `&mut [E]`;  no values;  those of one type, and then others
-- Assumes nothing.
use mathlib.Core.Path.{◌≡◌, refl, sym, ◌∙◌, ap, subst}
use mathlib.Core.Bool.{Bool, true, false}
use Prim.Native.Nat.{ℕ}
use mathlib.Core.List.{List, [], ◌∷◌, ◌++◌, append-nil}
use mir.Syntax.{Lifetime, Ty, ty_struct, ty_ref, ty_int, tcons, tnil, mut, w64, named}
use mir.Table.{same_sym}
use mir.Val.{Val, vptr, vstruct, vcons, vnil}
use base.Fml.{Lft}
use contract.Lifetimes.{Lfts, Within, lft_at}
use denote.RattleType.{RattleType, Denots, Valss, flat}
use denote.Laws.{Typed, Is, Are, Ises}
use denote.Signature.{mut_slice, types_at}
use denote.Slice.{MutSlice, slice_name, slice_ty, mut_slice_Tells}
use Rattle.walks.proofs.Thin.{Of}

abbrev pub Lastly : List Ty → Ty → List Val → Type 0
Lastly τs ρ vs = (us : List Val) × (u : Val) × (vs ≡ us ++ (u ∷ [])) × Typed τs us × Of ρ u

pub lastly : (τs : List Ty) (ρ : Ty) (vs : List Val) → Typed (τs ++ (ρ ∷ [])) vs → Lastly τs ρ vs
lastly [] ρ [] ty = absurd ty
lastly [] ρ (u ∷ []) ty = ([], u, refl, tt, ty.0)
lastly [] ρ (u ∷ v ∷ vs) ty = absurd ty.1
lastly (τ ∷ τs) ρ [] ty = absurd ty
lastly (τ ∷ τs) ρ (v ∷ vs) ty =
    let r : Lastly τs ρ vs = lastly τs ρ vs ty.1 in
    (v ∷ r.0, r.1, ap (λ (l : List Val). v ∷ l) r.2, (ty.0, r.3), r.4)

abbrev pub Sliced : Val → Type 0
Sliced u = (i : ℕ) × (j : ℕ) × (c : Val) × (u ≡ vstruct (vcons (vptr i j) (vcons c vnil)))

-- the last of the values is a pointer and a count. Its MIR type alone does not say so: the null pointer has a reference's type too
abbrev pub EndsSliced : List Val → Type 0
EndsSliced [] = ⊥
EndsSliced (u ∷ []) = Sliced u
EndsSliced (u ∷ v ∷ vs) = EndsSliced (v ∷ vs)

pub sliced : (us : List Val) (u : Val) (vs : List Val) → vs ≡ us ++ (u ∷ []) → EndsSliced vs → Sliced u
sliced us u vs e h = at_end us (subst EndsSliced e h)
  where
    at_end : (us : List Val) → EndsSliced (us ++ (u ∷ [])) → Sliced u
    at_end [] h = h
    at_end (v ∷ []) h = h
    at_end (v ∷ w ∷ us) h = at_end (w ∷ us) h

-- a `&mut [E]` that is the one parameter after the first
pub ends-lent : (n j : ℕ) (ok : Within n j) (R : RattleType) (κs : Lfts n) (a : Denots (types_at (mut_slice j ok (λ _. R) ∷ []) κs)) (vss : Valss (types_at (mut_slice j ok (λ _. R) ∷ []) κs))
    → Are (types_at (mut_slice j ok (λ _. R) ∷ []) κs) (Ises (types_at (mut_slice j ok (λ _. R) ∷ []) κs)) a vss → EndsSliced (flat (types_at (mut_slice j ok (λ _. R) ∷ []) κs) vss)
ends-lent n j ok R κs a vss are = subst (λ (us : List Val). EndsSliced (us ++ [])) (sym (mut_slice_Tells (named j) (lft_at n j ok κs) R a.0 vss.0 are.0)) (a.0.ref_ptr.0, a.0.ref_ptr.1, _, refl)

pub ends-after : (us vs : List Val) → EndsSliced vs → EndsSliced (us ++ vs)
ends-after [] vs h = h
ends-after (u ∷ us) vs h = front (us ++ vs) (ends-after us vs h)
  where
    front : (ws : List Val) → EndsSliced ws → EndsSliced (u ∷ ws)
    front [] h = absurd h
    front (w ∷ ws) h = h

-- the MIR type of a `&mut [E]`: no struct of the source has its name
abbrev is-lent : Ty → Bool
is-lent (ty_struct ν (tcons (ty_ref ℓ mut ε) (tcons (ty_int w64) tnil))) = same_sym ν slice_name
is-lent τ = false

abbrev pub lent-last : List Ty → Bool
lent-last [] = false
lent-last (τ ∷ []) = is-lent τ
lent-last (τ ∷ σ ∷ τs) = lent-last (σ ∷ τs)

pub last-lent : (τs : List Ty) (ℓ : Lifetime) (ε : Ty) → lent-last (τs ++ (slice_ty (ty_ref ℓ mut ε) ∷ [])) ≡ true
last-lent [] ℓ ε = refl
last-lent (τ ∷ []) ℓ ε = refl
last-lent (τ ∷ σ ∷ τs) ℓ ε = last-lent (σ ∷ τs) ℓ ε

past-front : (σs : List Ty) (τ : Ty) (τs : List Ty) → lent-last (σs ++ (τ ∷ τs)) ≡ lent-last (τ ∷ τs)
past-front [] τ τs = refl
past-front (σ ∷ []) τ τs = refl
past-front (σ ∷ ρ ∷ σs) τ τs = past-front (ρ ∷ σs) τ τs

abbrev When : Bool → Type 0 → Type 0
When true X = X
When false X = Unit {0}

-- of a type whose last MIR type is another this asks nothing
abbrev pub Pointed : RattleType → Type 0
Pointed R = When (lent-last R.mir) ((x : R.Denot) (vs : List Val) → Is R x vs → EndsSliced vs)

pub a-lent-points : (ℓ : Lifetime) (κ : Lft) (R : RattleType) → Pointed (MutSlice ℓ κ R)
a-lent-points ℓ κ R x vs is = subst EndsSliced (sym (mut_slice_Tells ℓ κ R x vs is)) (x.ref_ptr.0, x.ref_ptr.1, _, refl)

pub ends-none : lent-last [] ≡ true → EndsSliced []
ends-none e = subst (λ (b : Bool). When b ⊥ → ⊥) (sym e) (λ h. h) tt

pub ends-front : (R : RattleType) → Pointed R → (σs τs : List Ty) → R.mir ≡ σs → (x : R.Denot) (us vs : List Val) → Is R x us → Typed τs vs → (lent-last τs ≡ true → EndsSliced vs) → lent-last (σs ++ τs) ≡ true → EndsSliced (us ++ vs)
ends-front R p σs [] mir x us [] is ty h e =
    subst EndsSliced (sym (append-nil us)) (subst (λ (b : Bool). When b ((y : R.Denot) (ws : List Val) → Is R y ws → EndsSliced ws)) (ap lent-last mir ∙ (ap lent-last (sym (append-nil σs)) ∙ e)) p x us is)
ends-front R p σs [] mir x us (v ∷ vs) is ty h e = absurd ty
ends-front R p σs (τ ∷ τs) mir x us vs is ty h e = ends-after us vs (h (sym (past-front σs τ τs) ∙ e))
