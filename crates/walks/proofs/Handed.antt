-- What a thin function hands on as it stands: its parameters after the table's reference, ps at the lifetimes κs, are the callee's parameters ps' after what it is given of the table. The callee's first l lifetimes are those of the parts that are lent, all of them one that is made for the call (κ); its others are the function's own after the first. Where the table goes by value, l is 0.
--     plus, ats    the number of the callee's lifetimes, and these lifetimes
--     Handed       the two lists own the same, and say the same of their last values. τs are their MIR types in a row. Where the last of these is that of a `&mut [E]`, the last machine value is a pointer and a count
--     none, by_value, shared, lent     no more parameters;  and one in front: plain data, a `&[T]`, a `&mut [T]`
-- Assumes nothing.
use mathlib.Core.Path.{◌≡◌, refl, sym, ap, subst}
use mathlib.Core.Bool.{true}
use Prim.Native.Nat.{ℕ, zero, suc}
use mathlib.Core.List.{List, [], ◌∷◌, ◌++◌}
use seplogic.Ra.Ura.{Ura}
use mir.Syntax.{Ty, named}
use mir.Val.{Val}
use base.Fml.{Lft, fsep}
use types.Logic.{Logic}
use contract.Lifetimes.{Lfts, Within, lft_at}
use denote.RattleType.{RattleType, Denots, Valss, flat, owns, mirs}
use denote.Exit.{Last, left, yes}
use denote.Laws.{Are, Ises, Typed, Lawful, Lawfuls, all_Typed}
use denote.Signature.{Slot, plain, types_at, shr_slice, mut_slice}
use denote.Slice.{ShrSlice, MutSlice, shr_slice_Lawful, mut_slice_Lawful}
use denote.Triple.End.{Kepts, Fins, lasts_of}
use Rattle.walks.proofs.Slices.{EndsSliced, lent-last, Pointed, a-lent-points, ends-none, ends-front}

abbrev pub plus : ℕ → ℕ → ℕ
plus zero m = m
plus (suc l) m = suc (plus l m)

abbrev pub ats : (l m : ℕ) → Lft → Lfts m → Lfts (plus l m)
ats zero m α κs = κs
ats (suc l) m α κs = (α, ats l m α κs)

pub record Handed (m l : ℕ) (ps : List (Slot (suc m))) (ks : Kepts ps) (ps' : List (Slot (plus l m))) (ks' : Kepts ps') (τs : List Ty) : Type 2 where
  pub args : (κs : Lfts (suc m)) (κ : Lft) → Denots (types_at ps κs) → Denots (types_at ps' (ats l m κ κs.1))
  pub vals : (κs : Lfts (suc m)) (κ : Lft) → Valss (types_at ps κs) → Valss (types_at ps' (ats l m κ κs.1))
  pub flats : (κs : Lfts (suc m)) (κ : Lft) (vss : Valss (types_at ps κs)) → flat (types_at ps' (ats l m κ κs.1)) (vals κs κ vss) ≡ flat (types_at ps κs) vss
  pub own : (κs : Lfts (suc m)) (κ : Lft) (a : Denots (types_at ps κs)) (vss : Valss (types_at ps κs)) → owns (types_at ps κs) a vss ≡ owns (types_at ps' (ats l m κ κs.1)) (args κs κ a) (vals κs κ vss)
  pub fins : (κs : Lfts (suc m)) (κ : Lft) (a : Denots (types_at ps κs)) → Fins (ats l m κ κs.1) ps' ks' (args κs κ a) → Fins κs ps ks a
  pub lasts : (κs : Lfts (suc m)) (κ : Lft) (a : Denots (types_at ps κs)) (ws : Fins (ats l m κ κs.1) ps' ks' (args κs κ a)) → lasts_of (ats l m κ κs.1) ps' ks' (args κs κ a) ws ≡ lasts_of κs ps ks a (fins κs κ a ws)
  pub types : (κs : Lfts (suc m)) → mirs (types_at ps κs) ≡ τs
  pub laws : (M : Type 1) (𝓤 : Ura M) (𝓛 : Logic 𝓤) (κs : Lfts (suc m)) → Lawfuls 𝓛 (types_at ps κs)
  pub ends : (M : Type 1) (𝓤 : Ura M) (𝓛 : Logic 𝓤) → lent-last τs ≡ true → (κs : Lfts (suc m)) (a : Denots (types_at ps κs)) (vss : Valss (types_at ps κs)) → Are (types_at ps κs) (Ises (types_at ps κs)) a vss → EndsSliced (flat (types_at ps κs) vss)

abbrev pub none : {m l : ℕ} → Handed m l [] tt [] tt []
none = record {
  args = λ κs κ a. tt;
  vals = λ κs κ vss. tt;
  flats = λ κs κ vss. refl;
  own = λ κs κ a vss. refl;
  fins = λ κs κ a ws. tt;
  lasts = λ κs κ a ws. refl;
  types = λ κs. refl;
  laws = λ M 𝓤 𝓛 κs. tt;
  ends = λ M 𝓤 𝓛 e κs a vss are. ends-none e;
}

-- a law of a type in every model, with nothing (`tt`) in front, or, where its last MIR type is that of a `&mut [E]`, that its values end with a pointer and a count
abbrev pub Law : RattleType → Type 2
Law R = Pointed R × ((M : Type 1) (𝓤 : Ura M) (𝓛 : Logic 𝓤) → Lawful 𝓛 R)

-- one parameter in front. r is its type for the caller and r' for the callee, which differ in the MIR type only, since a lifetime has another number there
pub record Same (r r' : RattleType) : Type 2 where
  pub arg : r.Denot → r'.Denot
  pub same-own : (x : r.Denot) (vs : List Val) → r.own_val x vs ≡ r'.own_val (arg x) vs
  pub fin : (x : r.Denot) → Last (r'.exit yes) (arg x) → Last (r.exit yes) x
  pub last : (x : r.Denot) (w : Last (r'.exit yes) (arg x)) → left (r'.exit yes) (arg x) w ≡ left (r.exit yes) x (fin x w)

-- the function's own lifetimes stand behind the l others
abbrev pub past-ok : (l m j : ℕ) → Within m j → Within (plus l m) (plus l j)
past-ok zero m j ok = ok
past-ok (suc l) m j ok = past-ok l m j ok

pub past-lft : (l m j : ℕ) (ok : Within m j) (α : Lft) (κs : Lfts m) → lft_at (plus l m) (plus l j) (past-ok l m j ok) (ats l m α κs) ≡ lft_at m j ok κs
past-lft zero m j ok α κs = refl
past-lft (suc l) m j ok α κs = past-lft l m j ok α κs

module _ {m l : ℕ} {ps : List (Slot (suc m))} {ks : Kepts ps} {ps' : List (Slot (plus l m))} {ks' : Kepts ps'} {τs : List Ty} where
  abbrev pub front : (s : Slot (suc m)) (s' : Slot (plus l m)) (σs : List Ty) → ((κs : Lfts (suc m)) → (s.row κs).mir ≡ σs) → ((κs : Lfts (suc m)) → Law (s.row κs)) → ((κs : Lfts (suc m)) (κ : Lft) → Same (s.row κs) (s'.row (ats l m κ κs.1)))
      → Handed m l ps ks ps' ks' τs → Handed m l (s ∷ ps) (yes, ks) (s' ∷ ps') (yes, ks') (σs ++ τs)
  front s s' σs mir law same h = record {
    args = λ κs κ a. ((same κs κ).arg a.0, h.args κs κ a.1);
    vals = λ κs κ vss. (vss.0, h.vals κs κ vss.1);
    flats = λ κs κ vss. ap (λ (us : List Val). vss.0 ++ us) (h.flats κs κ vss.1);
    own = λ κs κ a vss. λ i. fsep ((same κs κ).same-own a.0 vss.0 i) (h.own κs κ a.1 vss.1 i);
    fins = λ κs κ a ws. ((same κs κ).fin a.0 ws.0, h.fins κs κ a.1 ws.1);
    lasts = λ κs κ a ws. λ i. fsep ((same κs κ).last a.0 ws.0 i) (h.lasts κs κ a.1 ws.1 i);
    types = λ κs. λ i. mir κs i ++ h.types κs i;
    laws = λ M 𝓤 𝓛 κs. ((law κs).1 M 𝓤 𝓛, h.laws M 𝓤 𝓛 κs);
    ends = λ M 𝓤 𝓛 e κs a vss are. ends-front (s.row κs) (law κs).0 σs τs (mir κs) a.0 vss.0 (flat (types_at ps κs) vss.1) are.0
        (subst (λ (ρs : List Ty). Typed ρs (flat (types_at ps κs) vss.1)) (h.types κs) (all_Typed 𝓛 (types_at ps κs) (h.laws M 𝓤 𝓛 κs) a.1 vss.1 are.1)) (λ e'. h.ends M 𝓤 𝓛 e' κs a.1 vss.1 are.1) e;
  }

  abbrev pub by_value : (R : RattleType) → Law R → Handed m l ps ks ps' ks' τs → Handed m l (plain (λ _. R) ∷ ps) (yes, ks) (plain (λ _. R) ∷ ps') (yes, ks') (R.mir ++ τs)
  by_value R law = front (plain (λ _. R)) (plain (λ _. R)) R.mir (λ κs. refl) (λ κs. law) (λ κs κ. record { arg = λ x. x; same-own = λ x vs. refl; fin = λ x w. w; last = λ x w. refl })

  -- a `&[T]` and a `&mut [T]` at the lifetime j of the function's own after the first
  abbrev pub shared : (j : ℕ) (ok : Within m j) (R : RattleType) → Handed m l ps ks ps' ks' τs
      → Handed m l (shr_slice (suc j) ok (λ _. R) ∷ ps) (yes, ks) (shr_slice (plus l j) (past-ok l m j ok) (λ _. R) ∷ ps') (yes, ks') ((ShrSlice (named (suc j)) [] R).mir ++ τs)
  shared j ok R = front (shr_slice (suc j) ok (λ _. R)) (shr_slice (plus l j) (past-ok l m j ok) (λ _. R)) (ShrSlice (named (suc j)) [] R).mir (λ κs. refl) (λ κs. (tt, λ M 𝓤 𝓛. shr_slice_Lawful 𝓛 (named (suc j)) (lft_at m j ok κs.1) R))
      (λ κs κ. record { arg = λ x. x; same-own = λ x vs. ap (λ (β : Lft). (ShrSlice (named (suc j)) β R).own_val x vs) (sym (past-lft l m j ok κ κs.1)); fin = λ x w. w; last = λ x w. refl })

  abbrev pub lent : (j : ℕ) (ok : Within m j) (R : RattleType) → Handed m l ps ks ps' ks' τs
      → Handed m l (mut_slice (suc j) ok (λ _. R) ∷ ps) (yes, ks) (mut_slice (plus l j) (past-ok l m j ok) (λ _. R) ∷ ps') (yes, ks') ((MutSlice (named (suc j)) [] R).mir ++ τs)
  lent j ok R = front (mut_slice (suc j) ok (λ _. R)) (mut_slice (plus l j) (past-ok l m j ok) (λ _. R)) (MutSlice (named (suc j)) [] R).mir (λ κs. refl) (λ κs. (a-lent-points (named (suc j)) (lft_at m j ok κs.1) R, λ M 𝓤 𝓛. mut_slice_Lawful 𝓛 (named (suc j)) (lft_at m j ok κs.1) R))
      (λ κs κ. record { arg = λ x. x; same-own = λ x vs. ap (λ (β : Lft). (MutSlice (named (suc j)) β R).own_val x vs) (sym (past-lft l m j ok κ κs.1)); fin = λ x w. w; last = λ x w. ap (λ (β : Lft). left ((MutSlice (named (suc j)) β R).exit yes) x w) (past-lft l m j ok κ κs.1) })
