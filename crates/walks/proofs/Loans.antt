-- A struct's cell is cut into its fields', which are lent for a lifetime, as `&mut` and as `&`, or stay, and come back with what the `&mut`s hold last.
--     Part         a field: its number k, where it begins (d), its type and what is known of the type
--     How          what the callee gets of a field: a `&mut` (change) or a `&` (look) at its lifetime j, its value (take), or nothing (keep). n counts the callee's lifetimes
--     Split        the struct is its parts, in the struct's order
--     lends-parts, parts-back       the two ghost steps
-- Assumes `Logic`.
use mathlib.Core.Path.{◌≡◌, refl, sym, ap, subst}
use Prim.Native.Nat.{ℕ, zero, ◌+◌}
use mathlib.Core.Option.{some as just}
use mathlib.Core.List.{List, [], ◌∷◌, ◌++◌}
use seplogic.Ra.Ura.{Ura}
use base.Fraction.{full_share}
use mir.Fields.{get_v}
use mir.Syntax.{Ty, Tys, tcons, tnil, ty_struct, named, mut, imm}
use mir.Val.{Val, Vals, vptr, vstruct, vcons, vnil}
use base.Logic.{SProp, ent, sep, ex, emp, guard, id⊢}
use base.Fml.{Lft, GName, Fml, fat, fdead, flent}
use prog.Memory.{field_at, up, align, size}
use prog.Model.{fields_at}
use types.Logic.{Logic, sem}
use contract.Lifetimes.{Lfts, Within, lft_at}
use types.Kit.{Item, ‵, raw, some, given, later, ◌⊛◌, ◌$◌, ◌∵◌, !, qed, by, move, keep as hold, drop, use1, use2, use3, split, join, pick, learn, rewrite, fsplit, fjoin, frame, await, updating, now as at_once, show, check, done}
use types.SemTy.{Body}
use denote.RattleType.{RattleType, Denots, Valss, flat, owns}
use denote.Exit.{yes}
use denote.Laws.{Is, Tells, Makes, shows}
use denote.Lend.{lends_ref, ref_back, lends_free}
use denote.Lends
use denote.Memory.{lone, mem, part_at, shared_of, pointee}
use denote.Ref.{MutRef, ShrRef}
use denote.Signature.{Slot, plain, mut_ref_to, shr_ref_to, types_at}
use denote.Steps.{owned, peeks, only}
use denote.Struct.Declared.{Declared, shape, row}
use denote.Struct.Laws as LL
use denote.Struct.Struct.{layout}
use denote.Triple.End.{Kepts, Fins, lasts_of}
use borrow.Table.OneValue.{One, part_in, part_out}
use Rattle.walks.proofs.Picks.{Pick, lend, read, AllGood, values_of}
use Rattle.walks.proofs.Thin.{Of}

pub data How (n : ℕ) : Type 0 where
  change look : (j : ℕ) → Within n j → How n
  take keep : How n

pub record Part : Type 2 where
  pub F : RattleType
  pub k : ℕ
  pub d : ℕ
  pub spell : F.Denot → Val
  pub tells : Tells F (Is F) (λ x. spell x ∷ [])
  pub one : One F
  pub typed : (M : Type 1) (𝓤 : Ura M) (𝓛 : Logic 𝓤) → (x : F.Denot) (w : Val) → Is F x (w ∷ []) → Of (lone F.mir) w
  pub makes : (M : Type 1) (𝓤 : Ura M) (𝓛 : Logic 𝓤) → Makes 𝓛 F (Is F)
  pub lends : (M : Type 1) (𝓤 : Ura M) (𝓛 : Logic 𝓤) (x : F.Denot) (b o : ℕ) → Lends.Lent 𝓛 (part_at F full_share x b o) (shared_of F x b o)

abbrev pub Parts : ℕ → Type 2
Parts n = List (How n × Part)

abbrev τ : {n : ℕ} → How n × Part → Ty
τ p = lone p.1.F.mir

abbrev pub Whole : {n : ℕ} → Parts n → Type 0
Whole [] = Unit {0}
Whole (p ∷ ps) = p.1.F.Denot × Whole ps

abbrev pub spelled : {n : ℕ} (ps : Parts n) → Whole ps → Vals
spelled [] x = vnil
spelled (p ∷ ps) x = vcons (p.1.spell x.0) (spelled ps x.1)

abbrev pub tys-of : {n : ℕ} → Parts n → Tys
tys-of [] = tnil
tys-of (p ∷ ps) = tcons (τ p) (tys-of ps)

abbrev pub AllIs : {n : ℕ} (ps : Parts n) → Whole ps → Type 0
AllIs [] x = Unit {0}
AllIs (p ∷ ps) x = Is p.1.F x.0 (p.1.spell x.0 ∷ []) × AllIs ps x.1

-- each part lies where the layout puts it;  the machine finds it there;  and reads it
abbrev pub Laid : {n : ℕ} → ℕ → Parts n → Type 0
Laid e [] = Unit {0}
Laid e (p ∷ ps) = (p.1.d ≡ up (align (τ p)) e) × Laid (up (align (τ p)) e + size (τ p)) ps

abbrev pub Placed : {n : ℕ} → Tys → Parts n → Type 0
Placed τs [] = Unit {0}
Placed τs (p ∷ ps) = (field_at zero τs p.1.k ≡ just (τ p, p.1.d)) × Placed τs ps

abbrev pub Gets : {n : ℕ} → Vals → (ps : Parts n) → Whole ps → Type 0
Gets vs [] x = Unit {0}
Gets vs (p ∷ ps) x = (get_v vs p.1.k ≡ p.1.spell x.0) × Gets vs ps x.1

abbrev pub picks_of : {n : ℕ} → Parts n → List Pick
picks_of [] = []
picks_of ((change j ok, f) ∷ ps) = lend mut f.k f.d (lone f.F.mir) (pointee f.F.written) ∷ picks_of ps
picks_of ((look j ok, f) ∷ ps) = lend imm f.k f.d (lone f.F.mir) (pointee f.F.written) ∷ picks_of ps
picks_of ((take, f) ∷ ps) = read f.k f.d (lone f.F.mir) ∷ picks_of ps
picks_of ((keep, f) ∷ ps) = picks_of ps

-- the struct is its parts
pub record Split (TT : Declared) (L : LL.Laws TT) {n : ℕ} (ps : Parts n) : Type 2 where
  pub apart : TT.D → Whole ps
  pub shut : Whole ps → TT.D
  pub lies : layout (shape TT) ≡ ty_struct TT.name (tys-of ps)
  pub spells : (h : TT.D) → LL.val TT L h ≡ vstruct (spelled ps (apart h))
  pub spells' : (x : Whole ps) → LL.val TT L (shut x) ≡ vstruct (spelled ps x)
  pub parts : (h : TT.D) → Is (row TT) h (LL.vals TT L h) → AllIs ps (apart h)
  pub whole : (x : Whole ps) → AllIs ps x → Is (row TT) (shut x) (LL.vals TT L (shut x))
  pub laid : Laid zero ps
  pub placed : Placed (tys-of ps) ps
  pub gets : (x : Whole ps) → Gets (spelled ps x) ps x

-- the lifetimes of what is lent are all α
abbrev pub Ends : {n : ℕ} → Lfts n → Lft → Parts n → Type 0
Ends κs α [] = Unit {0}
Ends {n} κs α ((change j ok, f) ∷ ps) = (lft_at n j ok κs ≡ α) × Ends κs α ps
Ends {n} κs α ((look j ok, f) ∷ ps) = (lft_at n j ok κs ≡ α) × Ends κs α ps
Ends κs α ((take, f) ∷ ps) = Ends κs α ps
Ends κs α ((keep, f) ∷ ps) = Ends κs α ps

abbrev pub Names : {n : ℕ} → Parts n → Type 0
Names [] = Unit {0}
Names (p ∷ ps) = GName × Names ps

module _ {n : ℕ} (rest : List (Slot n)) where
  abbrev pub slots : Parts n → List (Slot n)
  slots [] = rest
  slots ((change j ok, f) ∷ ps) = mut_ref_to (j ∷ []) ok (plain (λ _. f.F)) ∷ slots ps
  slots ((look j ok, f) ∷ ps) = shr_ref_to (j ∷ []) ok (plain (λ _. f.F)) ∷ slots ps
  slots ((take, f) ∷ ps) = plain (λ _. f.F) ∷ slots ps
  slots ((keep, f) ∷ ps) = slots ps

  abbrev pub kepts : Kepts rest → (ps : Parts n) → Kepts (slots ps)
  kepts ks [] = ks
  kepts ks ((change j ok, f) ∷ ps) = (yes, kepts ks ps)
  kepts ks ((look j ok, f) ∷ ps) = (yes, kepts ks ps)
  kepts ks ((take, f) ∷ ps) = (yes, kepts ks ps)
  kepts ks ((keep, f) ∷ ps) = kepts ks ps

  module _ (κs : Lfts n) (b o : ℕ) where
    abbrev pub args : Denots (types_at rest κs) → (ps : Parts n) → Whole ps → Names ps → Denots (types_at (slots ps) κs)
    args a [] x γs = a
    args a ((change j ok, f) ∷ ps) x γs = (record { ref_ptr = (b, o + f.d); ghost_name = γs.0; now = x.0 }, args a ps x.1 γs.1)
    args a ((look j ok, f) ∷ ps) x γs = (record { ref_ptr = (b, o + f.d); now = x.0 }, args a ps x.1 γs.1)
    args a ((take, f) ∷ ps) x γs = (x.0, args a ps x.1 γs.1)
    args a ((keep, f) ∷ ps) x γs = args a ps x.1 γs.1

    abbrev pub vals : Valss (types_at rest κs) → (ps : Parts n) → Whole ps → Valss (types_at (slots ps) κs)
    vals vss [] x = vss
    vals vss ((change j ok, f) ∷ ps) x = (vptr b (o + f.d) ∷ [], vals vss ps x.1)
    vals vss ((look j ok, f) ∷ ps) x = (vptr b (o + f.d) ∷ [], vals vss ps x.1)
    vals vss ((take, f) ∷ ps) x = (f.spell x.0 ∷ [], vals vss ps x.1)
    vals vss ((keep, f) ∷ ps) x = vals vss ps x.1

    pub flats : (vss : Valss (types_at rest κs)) (vs : Vals) (ps : Parts n) (x : Whole ps) → Gets vs ps x → flat (types_at (slots ps) κs) (vals vss ps x) ≡ values_of b o vs (picks_of ps) ++ flat (types_at rest κs) vss
    flats vss vs [] x g = refl
    flats vss vs ((change j ok, f) ∷ ps) x g = ap (λ (us : List Val). vptr b (o + f.d) ∷ us) (flats vss vs ps x.1 g.1)
    flats vss vs ((look j ok, f) ∷ ps) x g = ap (λ (us : List Val). vptr b (o + f.d) ∷ us) (flats vss vs ps x.1 g.1)
    flats vss vs ((take, f) ∷ ps) x g = λ i. sym g.0 i ∷ flats vss vs ps x.1 g.1 i
    flats vss vs ((keep, f) ∷ ps) x g = flats vss vs ps x.1 g.1

    -- what the parts hold last, and the last values of the other parameters
    abbrev pub latest : (ks : Kepts rest) (a : Denots (types_at rest κs)) (ps : Parts n) (x : Whole ps) (γs : Names ps) → Fins κs (slots ps) (kepts ks ps) (args a ps x γs) → Whole ps
    latest ks a [] x γs ws = tt
    latest ks a ((change j ok, f) ∷ ps) x γs ws = (ws.0, latest ks a ps x.1 γs.1 ws.1)
    latest ks a ((look j ok, f) ∷ ps) x γs ws = (x.0, latest ks a ps x.1 γs.1 ws.1)
    latest ks a ((take, f) ∷ ps) x γs ws = (x.0, latest ks a ps x.1 γs.1 ws.1)
    latest ks a ((keep, f) ∷ ps) x γs ws = (x.0, latest ks a ps x.1 γs.1 ws)

    abbrev pub others : (ks : Kepts rest) (a : Denots (types_at rest κs)) (ps : Parts n) (x : Whole ps) (γs : Names ps) → Fins κs (slots ps) (kepts ks ps) (args a ps x γs) → Fins κs rest ks a
    others ks a [] x γs ws = ws
    others ks a ((change j ok, f) ∷ ps) x γs ws = others ks a ps x.1 γs.1 ws.1
    others ks a ((look j ok, f) ∷ ps) x γs ws = others ks a ps x.1 γs.1 ws.1
    others ks a ((take, f) ∷ ps) x γs ws = others ks a ps x.1 γs.1 ws.1
    others ks a ((keep, f) ∷ ps) x γs ws = others ks a ps x.1 γs.1 ws

pub good : {n : ℕ} {M : Type 1} {𝓤 : Ura M} (𝓛 : Logic 𝓤) (τs : Tys) (vs : Vals) (ps : Parts n) (x : Whole ps) → Placed τs ps → Gets vs ps x → AllIs ps x → AllGood τs vs (picks_of ps)
good 𝓛 τs vs [] x p g is = tt
good 𝓛 τs vs ((change j ok, f) ∷ ps) x p g is = (p.0, good 𝓛 τs vs ps x.1 p.1 g.1 is.1)
good 𝓛 τs vs ((look j ok, f) ∷ ps) x p g is = (p.0, good 𝓛 τs vs ps x.1 p.1 g.1 is.1)
good {M = M} {𝓤 = 𝓤} 𝓛 τs vs ((take, f) ∷ ps) x p g is = ((p.0, subst (Of (lone f.F.mir)) (sym g.0) (f.typed M 𝓤 𝓛 x.0 _ is.0)), good 𝓛 τs vs ps x.1 p.1 g.1 is.1)
good 𝓛 τs vs ((keep, f) ∷ ps) x p g is = good 𝓛 τs vs ps x.1 p.1 g.1 is.1

module _ {M : Type 1} {𝓤 : Ura M} (𝓛 : Logic 𝓤) where
  open 𝓛 use {H, A}

  abbrev pub cells : {n : ℕ} (ps : Parts n) (b o : ℕ) → Whole ps → SProp 𝓤
  cells [] b o x = emp 𝓤
  cells (p ∷ ps) b o x = sep 𝓤 (H.at full_share (τ p) b (o + p.1.d) (p.1.spell x.0)) (cells ps b o x.1)

  pub same : {n : ℕ} (e : ℕ) (ps : Parts n) → Laid e ps → (b o : ℕ) (x : Whole ps) → fields_at 𝓤 H full_share (tys-of ps) e b o (spelled ps x) ≡ cells ps b o x
  same e [] laid b o x = refl
  same e (p ∷ ps) laid b o x = λ i. sep 𝓤 (H.at full_share (τ p) b (o + sym laid.0 i) (p.1.spell x.0)) (same (up (align (τ p)) e + size (τ p)) ps laid.1 b o x.1 i)

  -- the lender's part
  abbrev pub owed : {n : ℕ} (ps : Parts n) → Lfts n → (b o : ℕ) → Whole ps → Names ps → SProp 𝓤
  owed [] κs b o x γs = emp 𝓤
  owed {n} ((change j ok, f) ∷ ps) κs b o x γs = sep 𝓤 (sem 𝓛 (flent (lft_at n j ok κs) (Body (mem f.F) b (o + f.d) γs.0))) (owed ps κs b o x.1 γs.1)
  owed {n} ((look j ok, f) ∷ ps) κs b o x γs = sep 𝓤 (sem 𝓛 (flent (lft_at n j ok κs) (part_at f.F full_share x.0 b (o + f.d)))) (owed ps κs b o x.1 γs.1)
  owed ((take, f) ∷ ps) κs b o x γs = sep 𝓤 (H.at full_share (lone f.F.mir) b (o + f.d) (f.spell x.0)) (owed ps κs b o x.1 γs.1)
  owed ((keep, f) ∷ ps) κs b o x γs = sep 𝓤 (H.at full_share (lone f.F.mir) b (o + f.d) (f.spell x.0)) (owed ps κs b o x.1 γs.1)

  module _ {n : ℕ} (rest : List (Slot n)) (κs : Lfts n) (b o : ℕ) (a : Denots (types_at rest κs)) where
    abbrev Got : Valss (types_at rest κs) → (ps : Parts n) → Whole ps → Names ps → Fml
    Got vss ps x γs = owns (types_at (slots rest ps) κs) (args rest κs b o a ps x γs) (vals rest κs b o vss ps x)

    abbrev pub Lent : Valss (types_at rest κs) → (ps : Parts n) → Whole ps → Names ps → SProp 𝓤
    Lent vss ps x γs = sep 𝓤 (sem 𝓛 (Got vss ps x γs)) (owed ps κs b o x γs)

    -- a field's cell is what can be lent of it; what comes back is its cell, with the value's machine value in it
    module _ (f : Part) (x : f.F.Denot) where
      abbrev cell : Fml
      cell = fat full_share (lone f.F.mir) b (o + f.d) (f.spell x)

      abbrev part : Fml
      part = part_at f.F full_share x b (o + f.d)

      of-cell : Is f.F x (f.spell x ∷ []) → ent 𝓤 (sem 𝓛 cell) (sem 𝓛 part)
      of-cell is = qed 𝓛 (‵ cell ∷ []) ∵ owned ! f.F (Is f.F) (f.makes M 𝓤 𝓛) x _ is $ move ! (1 ∷ 0 ∷ []) $ by ! (part_in 𝓛 f.F f.one full_share x b (o + f.d) (f.spell x))

      to_cell : ent 𝓤 (sem 𝓛 part) (guard 𝓤 (Is f.F x (f.spell x ∷ [])) (sem 𝓛 cell))
      to_cell = qed 𝓛 (‵ part ∷ []) ∵ use1 𝓛 (some (λ (v : Val). ‵ (fat full_share (lone f.F.mir) b (o + f.d) v) ⊛ ‵ (f.F.own_val x (v ∷ [])))) (part_out 𝓛 f.F f.one full_share x b (o + f.d)) $ pick ! (λ v. split ! $ move ! (1 ∷ []) $
          peeks ! f.F (Is f.F) (shows 𝓛 f.F) x (v ∷ []) (λ p. drop ! $ rewrite ! 0 (λ (u : Val). ‵ (fat full_share (lone f.F.mir) b (o + f.d) u)) (ap only (f.tells x (v ∷ []) p)) refl $
          check ! (subst (λ (us : List Val). Is f.F x us) (f.tells x (v ∷ []) p) p) $ done !))

    -- what the parts after the first are lent as
    abbrev Others : Valss (types_at rest κs) → (ps : Parts n) → Whole ps → Item 𝓤
    Others vss ps x = later (some (λ (γs : Names ps). ‵ (Got vss ps x γs) ⊛ raw (owed ps κs b o x γs)))

    pub lends-parts : (vss : Valss (types_at rest κs)) (ps : Parts n) (x : Whole ps) → AllIs ps x → ent 𝓤 (sep 𝓤 (cells ps b o x) (sem 𝓛 (owns (types_at rest κs) a vss))) (H.⇛ (ex 𝓤 (Lent vss ps x)))
    lends-parts vss [] x is = qed 𝓛 (raw (emp 𝓤) ∷ ‵ (owns (types_at rest κs) a vss) ∷ []) ∵ updating ! $ at_once ! $ show ! (Lent vss [] x) tt $ move ! (1 ∷ 0 ∷ []) $ done !
    lends-parts vss ((change j ok, f) ∷ ps) x is =
        qed 𝓛 ((‵ (cell f x.0) ⊛ raw (cells ps b o x.1)) ∷ ‵ (owns (types_at rest κs) a vss) ∷ []) ∵ updating ! $ split ! $ use1 𝓛 (‵ (part f x.0)) (of-cell f x.0 is.0) $
        use1 𝓛 (later (some (λ (γ : GName). ‵ ((MutRef (named j) (lft_at n j ok κs) f.F).own_val (record { ref_ptr = (b, o + f.d); ghost_name = γ; now = x.0 }) (vptr b (o + f.d) ∷ [])) ⊛ ‵ (flent (lft_at n j ok κs) (Body (mem f.F) b (o + f.d) γ))))) (lends_ref 𝓛 f.F (named j) (lft_at n j ok κs) x.0 b (o + f.d)) $ await ! tt $ pick ! (λ γ. split ! $
        -- [the reference; the lender's part; the other cells; the other parameters]
        move ! (2 ∷ 3 ∷ []) $ use2 𝓛 (Others vss ps x.1) (lends-parts vss ps x.1 is.1) $ await ! tt $ pick ! (λ γs. split ! $ at_once ! $
        show ! (Lent vss ((change j ok, f) ∷ ps) x) (γ, γs) $ move ! (2 ∷ 0 ∷ []) $ fjoin ! $ frame ! $ move ! (1 ∷ 0 ∷ []) $ done !))
    lends-parts vss ((look j ok, f) ∷ ps) x is =
        qed 𝓛 ((‵ (cell f x.0) ⊛ raw (cells ps b o x.1)) ∷ ‵ (owns (types_at rest κs) a vss) ∷ []) ∵ updating ! $ split ! $ use1 𝓛 (‵ (part f x.0)) (of-cell f x.0 is.0) $
        use1 𝓛 (later (‵ ((ShrRef (named j) (lft_at n j ok κs) f.F).own_val (record { ref_ptr = (b, o + f.d); now = x.0 }) (vptr b (o + f.d) ∷ [])) ⊛ ‵ (flent (lft_at n j ok κs) (part f x.0)))) (lends_free 𝓛 f.F (named j) (lft_at n j ok κs) full_share x.0 b (o + f.d) (f.lends M 𝓤 𝓛 x.0 b (o + f.d))) $ await ! tt $ split ! $
        move ! (2 ∷ 3 ∷ []) $ use2 𝓛 (Others vss ps x.1) (lends-parts vss ps x.1 is.1) $ await ! tt $ pick ! (λ γs. split ! $ at_once ! $
        show ! (Lent vss ((look j ok, f) ∷ ps) x) (0, γs) $ move ! (2 ∷ 0 ∷ []) $ fjoin ! $ frame ! $ move ! (1 ∷ 0 ∷ []) $ done !)
    lends-parts vss ((take, f) ∷ ps) x is =
        qed 𝓛 ((‵ (cell f x.0) ⊛ raw (cells ps b o x.1)) ∷ ‵ (owns (types_at rest κs) a vss) ∷ []) ∵ updating ! $ split ! $
        move ! (1 ∷ 2 ∷ []) $ use2 𝓛 (Others vss ps x.1) (lends-parts vss ps x.1 is.1) $ await ! tt $ pick ! (λ γs. split ! $ at_once ! $
        show ! (Lent vss ((take, f) ∷ ps) x) (0, γs) $ owned ! f.F (Is f.F) (f.makes M 𝓤 𝓛) x.0 _ is.0 $ fjoin ! $ frame ! $ move ! (1 ∷ 0 ∷ []) $ done !)
    lends-parts vss ((keep, f) ∷ ps) x is =
        qed 𝓛 ((‵ (cell f x.0) ⊛ raw (cells ps b o x.1)) ∷ ‵ (owns (types_at rest κs) a vss) ∷ []) ∵ updating ! $ split ! $
        move ! (1 ∷ 2 ∷ []) $ use2 𝓛 (Others vss ps x.1) (lends-parts vss ps x.1 is.1) $ await ! tt $ pick ! (λ γs. split ! $ at_once ! $
        show ! (Lent vss ((keep, f) ∷ ps) x) (0, γs) $ frame ! $ move ! (1 ∷ 0 ∷ []) $ done !)

    module _ (ks : Kepts rest) (α : Lft) where
      -- the lifetime of what was lent is over
      over : (κ : Lft) → κ ≡ α → ent 𝓤 (A.dead α) (A.dead κ)
      over κ e = subst (λ (β : Lft). ent 𝓤 (A.dead β) (A.dead κ)) e (id⊢ 𝓤 (A.dead κ))

      abbrev Ws : (ps : Parts n) → Whole ps → Names ps → Type 0
      Ws ps x γs = Fins κs (slots rest ps) (kepts rest ks ps) (args rest κs b o a ps x γs)

      abbrev Said : (ps : Parts n) (x : Whole ps) (γs : Names ps) → Ws ps x γs → Fml
      Said ps x γs ws = lasts_of κs (slots rest ps) (kepts rest ks ps) (args rest κs b o a ps x γs) ws

      abbrev New : (ps : Parts n) (x : Whole ps) (γs : Names ps) → Ws ps x γs → Whole ps
      New ps x γs ws = latest rest κs b o ks a ps x γs ws

      abbrev Rest : (ps : Parts n) (x : Whole ps) (γs : Names ps) → Ws ps x γs → Fml
      Rest ps x γs ws = lasts_of κs rest ks a (others rest κs b o ks a ps x γs ws)

      -- what comes back of the parts after the first
      abbrev Returned : (ps : Parts n) (x : Whole ps) (γs : Names ps) → Ws ps x γs → Item 𝓤
      Returned ps x γs ws = later (given (AllIs ps (New ps x γs ws)) (raw (cells ps b o (New ps x γs ws)) ⊛ ‵ (Rest ps x γs ws)))

      pub parts-back : (ps : Parts n) (x : Whole ps) (γs : Names ps) (ws : Ws ps x γs) → Ends κs α ps → AllIs ps x
          → ent 𝓤 (sep 𝓤 (A.dead α) (sep 𝓤 (owed ps κs b o x γs) (sem 𝓛 (Said ps x γs ws)))) (H.⇛ (guard 𝓤 (AllIs ps (New ps x γs ws)) (sep 𝓤 (cells ps b o (New ps x γs ws)) (sem 𝓛 (Rest ps x γs ws)))))
      parts-back [] x γs ws en is = qed 𝓛 (‵ (fdead α) ∷ raw (emp 𝓤) ∷ ‵ (lasts_of κs rest ks a ws) ∷ []) ∵ updating ! $ at_once ! $ check ! tt $ hold ! (1 ∷ 2 ∷ []) $ done !
      parts-back ((change j ok, f) ∷ ps) x γs ws en is =
          qed 𝓛 (‵ (fdead α) ∷ (‵ (flent (lft_at n j ok κs) (Body (mem f.F) b (o + f.d) γs.0)) ⊛ raw (owed ps κs b o x.1 γs.1)) ∷ ‵ (Said ((change j ok, f) ∷ ps) x γs ws) ∷ []) ∵ updating ! $
          use1 𝓛 (‵ (fdead α) ⊛ ‵ (fdead α)) (𝓛.lfts.dead_dup α) $ split ! $ move ! (2 ∷ []) $ split ! $ move ! (4 ∷ []) $ fsplit ! $ fsplit ! $ move ! (1 ∷ []) $ drop ! $
          -- [the last value; the others; the lender's part; the others'; †; †]
          move ! (4 ∷ []) $ use1 𝓛 (‵ (fdead (lft_at n j ok κs))) (over (lft_at n j ok κs) en.0) $ move ! (0 ∷ 3 ∷ 1 ∷ []) $ use3 𝓛 (later (‵ (part f ws.0))) (ref_back 𝓛 f.F (lft_at n j ok κs) γs.0 ws.0 b (o + f.d)) $ await ! tt $
          use1 𝓛 (given (Is f.F ws.0 (f.spell ws.0 ∷ [])) (‵ (cell f ws.0))) (to_cell f ws.0) $ learn ! (λ one.
          -- [the cell; the other last values; the others' lender's part; †]
          move ! (3 ∷ 2 ∷ 1 ∷ []) $ use3 𝓛 (Returned ps x.1 γs.1 ws.1) (parts-back ps x.1 γs.1 ws.1 en.1 is.1) $ await ! tt $ learn ! (λ iss. split ! $ at_once ! $
          check ! (one, iss) $ move ! (2 ∷ 0 ∷ []) $ join ! $ done !))
      parts-back ((look j ok, f) ∷ ps) x γs ws en is =
          qed 𝓛 (‵ (fdead α) ∷ (‵ (flent (lft_at n j ok κs) (part f x.0)) ⊛ raw (owed ps κs b o x.1 γs.1)) ∷ ‵ (Said ((look j ok, f) ∷ ps) x γs ws) ∷ []) ∵ updating ! $
          use1 𝓛 (‵ (fdead α) ⊛ ‵ (fdead α)) (𝓛.lfts.dead_dup α) $ split ! $ move ! (2 ∷ []) $ split ! $ move ! (4 ∷ []) $ fsplit ! $ drop ! $
          -- [the other last values; the lender's part; the others'; †; †]
          move ! (3 ∷ []) $ use1 𝓛 (‵ (fdead (lft_at n j ok κs))) (over (lft_at n j ok κs) en.0) $ move ! (0 ∷ 2 ∷ []) $ use2 𝓛 (later (‵ (part f x.0))) (𝓛.bors.lent_back (lft_at n j ok κs) (part f x.0)) $ await ! tt $
          use1 𝓛 (given (Is f.F x.0 (f.spell x.0 ∷ [])) (‵ (cell f x.0))) (to_cell f x.0) $ learn ! (λ one.
          move ! (3 ∷ 2 ∷ 1 ∷ []) $ use3 𝓛 (Returned ps x.1 γs.1 ws.1) (parts-back ps x.1 γs.1 ws.1 en.1 is.1) $ await ! tt $ learn ! (λ iss. split ! $ at_once ! $
          check ! (one, iss) $ move ! (2 ∷ 0 ∷ []) $ join ! $ done !))
      parts-back ((take, f) ∷ ps) x γs ws en is =
          qed 𝓛 (‵ (fdead α) ∷ (‵ (cell f x.0) ⊛ raw (owed ps κs b o x.1 γs.1)) ∷ ‵ (Said ((take, f) ∷ ps) x γs ws) ∷ []) ∵ updating ! $ move ! (1 ∷ []) $ split ! $ move ! (3 ∷ []) $ fsplit ! $ drop ! $
          -- [the other last values; the cell; the others' lender's part; †]
          move ! (3 ∷ 2 ∷ 0 ∷ []) $ use3 𝓛 (Returned ps x.1 γs.1 ws.1) (parts-back ps x.1 γs.1 ws.1 en is.1) $ await ! tt $ learn ! (λ iss. split ! $ at_once ! $
          check ! (is.0, iss) $ move ! (2 ∷ 0 ∷ []) $ join ! $ done !)
      parts-back ((keep, f) ∷ ps) x γs ws en is =
          qed 𝓛 (‵ (fdead α) ∷ (‵ (cell f x.0) ⊛ raw (owed ps κs b o x.1 γs.1)) ∷ ‵ (Said ps x.1 γs.1 ws) ∷ []) ∵ updating ! $ move ! (1 ∷ []) $ split ! $
          -- [the cell; the others' lender's part; †; the last values]
          move ! (2 ∷ 1 ∷ 3 ∷ []) $ use3 𝓛 (Returned ps x.1 γs.1 ws) (parts-back ps x.1 γs.1 ws en is.1) $ await ! tt $ learn ! (λ iss. split ! $ at_once ! $
          check ! (is.0, iss) $ move ! (2 ∷ 0 ∷ []) $ join ! $ done !)
