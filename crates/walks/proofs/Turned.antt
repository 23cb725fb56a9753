-- Parameters that a thin function turns into others by a call each before it hands them on: `c` of f(table, x.., y..) { h(g(table, c(x).., y..)) }.
--     Turning        one of them, its type before and after, the call, and what the call gives, a fact about both
--     froms, tos     the parameters after the table, as f has them and as g has them
--     args_of, fins_of        g's arguments after the table, from f's and what the calls returned;  the last values at f's exit, from those at g's
--     Given          what the calls have given
-- Assumes nothing.
use Prim.Native.Nat.{ℕ, suc}
use mathlib.Core.Path.{◌≡◌, refl, ap}
use mathlib.Core.List.{List, [], ◌∷◌, ◌++◌}
use seplogic.Ra.Ura.{Ura}
use mir.Syntax.{Callee, Ty, Body, seq, call, copy, place}
use mir.Val.{Val}
use base.Logic.{SProp, ent, emp, ex, guard, via, id⊢}
use base.Fml.{ftrue, fsep}
use prog.Wp.{Env, Tables}
use types.Logic.{Logic, sem}
use types.Kit.{Item, ‵, raw, some, given, later, ◌⊛◌, Post, runs, Seq, ◌$◌, ◌∵◌, !, qed, move, drop, use0, use1, split, join, pick, learn, fsplit, fjoin, frame, await, updating, now as at_once, show, check, rewrite, done}
use types.Run.{look, init, stop, load, and_then, no_more, land}
use sound.WpLaws.{FmC}
use contract.Lifetimes.{Lfts}
use contract.Monad.{fact}
use denote.Exit.{Last, left, yes}
use denote.Laws.{Is, Ises, Are, Typed, shows}
use denote.RattleType.{RattleType, Denots, Valss, flat, owns}
use denote.Signature.{Slot, plain, types_at}
use denote.Steps.{only, nothing, heard, peeks}
use denote.Triple.Call.{calls_from}
use denote.Triple.Clauses.{Ended, Clauses, Lasts, at_exit, lasts, closing}
use denote.Triple.End.{Kepts, Fins, lasts_of}
use denote.Triple.Spec.{triple_of}
use denote.Triple.Statement.{Contract, Triple}
use Rattle.walks.proofs.Frames.{Blocks, Stands, rooms, full, from_at}
use Rattle.walks.proofs.Thin.{Of}

-- a type of one machine value
pub record Single (R : RattleType) : Type 2 where
  pub told : Ty
  pub typed : (M : Type 1) (𝓤 : Ura M) (𝓛 : Logic 𝓤) → (x : R.Denot) (vs : List Val) → Is R x vs → Typed (told ∷ []) vs

pub record Turning : Type 2 where
  pub by : Callee
  pub from : RattleType
  pub to : RattleType
  pub gives : from.Denot → to.Denot → Type 0
  pub before : Single from
  pub after : Single to
  pub fin : (x : from.Denot) → Last (from.exit yes) x
  pub lets-go : (M : Type 1) (𝓤 : Ura M) (𝓛 : Logic 𝓤) (x : from.Denot) → ent 𝓤 (emp 𝓤) (sem 𝓛 (left (from.exit yes) x (fin x)))

abbrev pub before_types : List Turning → List Ty
before_types [] = []
before_types (t ∷ ts) = t.before.told ∷ before_types ts

abbrev pub after_types : List Turning → List Ty
after_types [] = []
after_types (t ∷ ts) = t.after.told ∷ after_types ts

-- the calls, from the locals from i on to those from d on
abbrev pub turned-by : ℕ → ℕ → List Turning → Body → Body
turned-by i d [] rest = rest
turned-by i d (t ∷ ts) rest = seq (call t.by (copy (place i []) ∷ []) (place d [])) (turned-by (suc i) (suc d) ts rest)

abbrev pub Results : List Turning → Type 0
Results [] = Unit {0}
Results (t ∷ ts) = t.to.Denot × Results ts

module _ {n : ℕ} where
  abbrev pub froms : List Turning → List (Slot n) → List (Slot n)
  froms [] ps = ps
  froms (t ∷ ts) ps = plain (λ _. t.from) ∷ froms ts ps

  abbrev pub tos : List Turning → List (Slot n) → List (Slot n)
  tos [] ps = ps
  tos (t ∷ ts) ps = plain (λ _. t.to) ∷ tos ts ps

  module _ (ps : List (Slot n)) where
    abbrev pub from_kepts : (ts : List Turning) → Kepts ps → Kepts (froms ts ps)
    from_kepts [] ks = ks
    from_kepts (t ∷ ts) ks = (yes, from_kepts ts ks)

    abbrev pub to_kepts : (ts : List Turning) → Kepts ps → Kepts (tos ts ps)
    to_kepts [] ks = ks
    to_kepts (t ∷ ts) ks = (yes, to_kepts ts ks)

    module _ (κs : Lfts n) where
      abbrev pub Given : (ts : List Turning) → Denots (types_at (froms ts ps) κs) → Results ts → Type 0
      Given [] a rs = Unit {0}
      Given (t ∷ ts) a rs = t.gives a.0 rs.0 × Given ts a.1 rs.1

      abbrev pub args_of : (ts : List Turning) → Denots (types_at (froms ts ps) κs) → Results ts → Denots (types_at (tos ts ps) κs)
      args_of [] a rs = a
      args_of (t ∷ ts) a rs = (rs.0, args_of ts a.1 rs.1)

      -- the arguments and the machine values of the parameters that are handed on as they are
      abbrev pub rest_args : (ts : List Turning) → Denots (types_at (froms ts ps) κs) → Denots (types_at ps κs)
      rest_args [] a = a
      rest_args (t ∷ ts) a = rest_args ts a.1

      abbrev pub rest_vals : (ts : List Turning) → Valss (types_at (froms ts ps) κs) → Valss (types_at ps κs)
      rest_vals [] vss = vss
      rest_vals (t ∷ ts) vss = rest_vals ts vss.1

      -- the machine values of those that are turned
      abbrev pub turned_vals : (ts : List Turning) → Valss (types_at (froms ts ps) κs) → List Val
      turned_vals [] vss = []
      turned_vals (t ∷ ts) vss = only vss.0 ∷ turned_vals ts vss.1

      -- g's machine values, from what the calls returned
      abbrev pub vals_of : (ts : List Turning) → Valss (types_at (froms ts ps) κs) → List Val → Valss (types_at (tos ts ps) κs)
      vals_of [] vss ws = vss
      vals_of (t ∷ ts) vss [] = ([], vals_of ts vss.1 [])
      vals_of (t ∷ ts) vss (w ∷ ws) = (w ∷ [], vals_of ts vss.1 ws)

      abbrev pub fins_of : (ts : List Turning) (ks : Kepts ps) (a : Denots (types_at (froms ts ps) κs)) (rs : Results ts) → Fins κs (tos ts ps) (to_kepts ts ks) (args_of ts a rs) → Fins κs (froms ts ps) (from_kepts ts ks) a
      fins_of [] ks a rs ws = ws
      fins_of (t ∷ ts) ks a rs ws = (t.fin a.0, fins_of ts ks a.1 rs.1 ws.1)

-- ════ The machine values ════

pub one-of : (τ : Ty) (vs : List Val) → Typed (τ ∷ []) vs → vs ≡ only vs ∷ []
one-of τ [] ty = absurd ty
one-of τ (v ∷ []) ty = refl
one-of τ (v ∷ w ∷ vs) ty = absurd ty.1

pub of-one : (τ : Ty) (vs : List Val) → Typed (τ ∷ []) vs → Of τ (only vs)
of-one τ [] ty = absurd ty
of-one τ (v ∷ []) ty = ty.0
of-one τ (v ∷ w ∷ vs) ty = absurd ty.1

module _ {M : Type 1} {𝓤 : Ura M} (𝓛 : Logic 𝓤) {n : ℕ} (ps : List (Slot n)) (κs : Lfts n) where
  pub flat-froms : (ts : List Turning) (a : Denots (types_at (froms ts ps) κs)) (vss : Valss (types_at (froms ts ps) κs)) → Are (types_at (froms ts ps) κs) (Ises (types_at (froms ts ps) κs)) a vss
      → flat (types_at (froms ts ps) κs) vss ≡ turned_vals ps κs ts vss ++ flat (types_at ps κs) (rest_vals ps κs ts vss)
  flat-froms [] a vss are = refl
  flat-froms (t ∷ ts) a vss are = λ i. one-of t.before.told vss.0 (t.before.typed M 𝓤 𝓛 a.0 vss.0 are.0) i ++ flat-froms ts a.1 vss.1 are.1 i

  pub turned-typed : (ts : List Turning) (a : Denots (types_at (froms ts ps) κs)) (vss : Valss (types_at (froms ts ps) κs)) → Are (types_at (froms ts ps) κs) (Ises (types_at (froms ts ps) κs)) a vss
      → Typed (before_types ts) (turned_vals ps κs ts vss)
  turned-typed [] a vss are = tt
  turned-typed (t ∷ ts) a vss are = (of-one t.before.told vss.0 (t.before.typed M 𝓤 𝓛 a.0 vss.0 are.0), turned-typed ts a.1 vss.1 are.1)

  pub rest_are : (ts : List Turning) (a : Denots (types_at (froms ts ps) κs)) (vss : Valss (types_at (froms ts ps) κs)) → Are (types_at (froms ts ps) κs) (Ises (types_at (froms ts ps) κs)) a vss
      → Are (types_at ps κs) (Ises (types_at ps κs)) (rest_args ps κs ts a) (rest_vals ps κs ts vss)
  rest_are [] a vss are = are
  rest_are (t ∷ ts) a vss are = rest_are ts a.1 vss.1 are.1

  pub flat-tos : (ts : List Turning) (vss : Valss (types_at (froms ts ps) κs)) (ws : List Val) → Typed (after_types ts) ws
      → flat (types_at (tos ts ps) κs) (vals_of ps κs ts vss ws) ≡ ws ++ flat (types_at ps κs) (rest_vals ps κs ts vss)
  flat-tos [] vss [] ty = refl
  flat-tos [] vss (w ∷ ws) ty = absurd ty
  flat-tos (t ∷ ts) vss [] ty = absurd ty
  flat-tos (t ∷ ts) vss (w ∷ ws) ty = ap (λ (us : List Val). w ∷ us) (flat-tos ts vss.1 ws ty.1)

  -- what g says of its last values, f says of its own
  pub says-fins : (ts : List Turning) (ks : Kepts ps) (a : Denots (types_at (froms ts ps) κs)) (rs : Results ts) (ls : Fins κs (tos ts ps) (to_kepts ps ts ks) (args_of ps κs ts a rs))
      → ent 𝓤 (sem 𝓛 (lasts_of κs (tos ts ps) (to_kepts ps ts ks) (args_of ps κs ts a rs) ls)) (sem 𝓛 (lasts_of κs (froms ts ps) (from_kepts ps ts ks) a (fins_of ps κs ts ks a rs ls)))
  says-fins [] ks a rs ls = id⊢ 𝓤 (sem 𝓛 (lasts_of κs ps ks a ls))
  says-fins (t ∷ ts) ks a rs ls =
      qed 𝓛 (‵ (fsep (left (t.to.exit yes) rs.0 ls.0) (lasts_of κs (tos ts ps) (to_kepts ps ts ks) (args_of ps κs ts a.1 rs.1) ls.1)) ∷ []) ∵ fsplit ! $ drop ! $
      use1 𝓛 (‵ (lasts_of κs (froms ts ps) (from_kepts ps ts ks) a.1 (fins_of ps κs ts ks a.1 rs.1 ls.1))) (says-fins ts ks a.1 rs.1 ls.1) $
      use0 𝓛 (‵ (left (t.from.exit yes) a.0 (t.fin a.0))) (t.lets-go M 𝓤 𝓛 a.0) $ fjoin ! $ done !

-- ════ The calls ════

abbrev pub Turner : Turning → Ended
Turner t = record { signature = record { lifetimes = 0; outlives = []; params = plain (λ _. t.from) ∷ []; result = plain (λ _. t.to) }; kept = (yes, tt) }

module _ {M : Type 1} {𝓤 : Ura M} (𝓛 : Logic 𝓤) where
  open 𝓛 use {H}

  -- a contract of the call asks nothing, and says the fact
  pub record Says (t : Turning) (c : Clauses 𝓤 (Turner t)) : Type 1 where
    pub ghost : (x : t.from.Denot) → (c tt (x, tt)).ghost
    pub asks : (x : t.from.Denot) → ent 𝓤 (emp 𝓤) ((c tt (x, tt)).requires (ghost x))
    pub says : (x : t.from.Denot) (r : t.to.Denot) (ls : Lasts (Turner t) tt (x, tt)) → ent 𝓤 ((c tt (x, tt)).ensures (ghost x) r (at_exit (Turner t) tt (x, tt) ls)) (fact 𝓤 (t.gives x r))

  -- the call meets one
  pub record Meeting (t : Turning) (𝓣 : Tables 𝓤 H) : Type 2 where
    pub clauses : Clauses 𝓤 (Turner t)
    pub agrees : Says t clauses
    pub met : Triple 𝓤 (𝓣.C t.by) (triple_of 𝓛 (Turner t).signature (closing 𝓛 (Turner t) clauses))

  abbrev pub Meetings : Tables 𝓤 H → List Turning → Type 2
  Meetings 𝓣 [] = Unit {2}
  Meetings 𝓣 (t ∷ ts) = Meeting t 𝓣 × Meetings 𝓣 ts

  module _ (𝓣 : Tables 𝓤 H) where
    abbrev Gets : (t : Turning) → t.from.Denot → Val → SProp 𝓤
    Gets t x w = H.⇛ (ex 𝓤 (λ (r : t.to.Denot). guard 𝓤 (t.gives x r) (sem 𝓛 (t.to.own_val r (w ∷ [])))))

    called : (t : Turning) → Meeting t 𝓣 → (x : t.from.Denot) (v : Val) → ent 𝓤 (sem 𝓛 (t.from.own_val x (v ∷ []))) (𝓣.C t.by (v ∷ []) (Gets t x))
    called t m x v =
        via 𝓤 (c.pre y) (qed 𝓛 (‵ (t.from.own_val x (v ∷ [])) ∷ []) ∵ nothing ! $ move ! (1 ∷ 0 ∷ []) $ fjoin ! $ nothing ! $ join ! $ frame ! $ use0 𝓛 (raw ((m.clauses tt (x, tt)).requires (m.agrees.ghost x))) (m.agrees.asks x) $ done !)
        (via 𝓤 (𝓣.C t.by (v ∷ []) (c.post y)) (m.met y)
        (𝓣.mono t.by (v ∷ []) (c.post y) (Gets t x) (λ w.
        qed 𝓛 (later (some (λ (r : t.to.Denot). (‵ ftrue ⊛ ‵ (t.to.own_val r (w ∷ []))) ⊛ some (λ (ls : Lasts (Turner t) tt (x, tt)). ‵ (lasts (Turner t) tt (x, tt) ls) ⊛ raw ((m.clauses tt (x, tt)).ensures (m.agrees.ghost x) r (at_exit (Turner t) tt (x, tt) ls))))) ∷ []) ∵ updating ! $
        await ! tt $ pick ! (λ r. split ! $ move ! (1 ∷ []) $ pick ! (λ ls. split ! $ drop ! $ use1 𝓛 (raw (fact 𝓤 (t.gives x r))) (m.agrees.says x r ls) $ heard ! _ (λ g. split ! $ drop ! $ at_once ! $
        show ! (λ (r' : t.to.Denot). guard 𝓤 (t.gives x r') (sem 𝓛 (t.to.own_val r' (w ∷ [])))) r $ check ! g $ done !))))))
      where
        c : Contract 𝓤
        c = triple_of 𝓛 (Turner t).signature (closing 𝓛 (Turner t) m.clauses)

        y : c.Ghost
        y = ((tt, tt, tt, (x, tt), (v ∷ [], tt)), m.agrees.ghost x)

    module _ {K : Type 0} {n : ℕ} (ps : List (Slot n)) (κs : Lfts n) (fm : FmC 𝓤 H 𝓛.laws 𝓣.C) (E : Env 𝓤 H) (rest : Body) (q : Post 𝓤 H) where
      -- the calls, one after the other
      pub turns-all : K → (ts : List Turning) → Meetings 𝓣 ts → (i d : ℕ) (bs : Blocks (before_types ts)) (cs : Blocks (after_types ts)) → Stands E i (before_types ts) bs → Stands E d (after_types ts) cs
          → (a : Denots (types_at (froms ts ps) κs)) (vss : Valss (types_at (froms ts ps) κs)) → Are (types_at (froms ts ps) κs) (Ises (types_at (froms ts ps) κs)) a vss → {Γ : List (Item 𝓤)}
          → ((rs : Results ts) (ws : List Val) → Given ps κs ts a rs → Typed (after_types ts) ws
          → Seq K 𝓛 (‵ (owns (types_at (tos ts ps) κs) (args_of ps κs ts a rs) (vals_of ps κs ts vss ws)) ∷ ‵ (full (after_types ts) cs ws) ∷ ‵ (full (before_types ts) bs (turned_vals ps κs ts vss)) ∷ Γ) (runs 𝓣.C 𝓣.Λ E rest q))
          → Seq K 𝓛 (‵ (owns (types_at (froms ts ps) κs) a vss) ∷ ‵ (rooms (after_types ts) cs) ∷ ‵ (full (before_types ts) bs (turned_vals ps κs ts vss)) ∷ Γ) (runs 𝓣.C 𝓣.Λ E (turned-by i d ts rest) q)
      turns-all t [] ms i d bs cs st st' a vss are k = k tt [] tt tt
      turns-all t (tn ∷ ts) ms i d bs cs st st' a vss are k =
          fsplit t $ rewrite t 0 (λ (vs : List Val). ‵ (tn.from.own_val a.0 vs)) (one-of tn.before.told vss.0 (tn.before.typed M 𝓤 𝓛 a.0 vss.0 are.0)) refl $
          move t (2 ∷ []) $ fsplit t $ fsplit t $ move t (5 ∷ []) $ fsplit t $ fsplit t $ move t (6 ∷ []) $
          -- [what is handed to the call; its cell; …; the other cells; room for the result; …; the other room; what the others own]
          calls_from t fm (‵ (tn.from.own_val a.0 (only vss.0 ∷ []))) (only vss.0 ∷ []) (Gets tn a.0) (called tn ms.0 a.0 (only vss.0)) (and_then t (load t (from_at t st.0 (stop t)) (look t 1 refl)) (no_more t)) (λ w.
          use1 𝓛 (later (some (λ (r : tn.to.Denot). given (tn.gives a.0 r) (‵ (tn.to.own_val r (w ∷ [])))))) (id⊢ 𝓤 (Gets tn a.0 w)) $ await t tt $ pick t (λ r. learn t (λ g.
          peeks t tn.to (Is tn.to) (shows 𝓛 tn.to) r (w ∷ []) (λ is. land t (from_at t st'.0 (stop t)) (init t 4 refl (tn.after.typed M 𝓤 𝓛 r (w ∷ []) is).0) $ move t (7 ∷ 6 ∷ 3 ∷ []) $
          turns-all t ts ms.1 (suc i) (suc d) bs.1 cs.1 st.1 st'.1 a.1 vss.1 are.1 (λ rs ws gs ty.
          -- [what the others own; their results; their cells; what the result owns; the cell; …; the result; …]
          move t (3 ∷ 0 ∷ []) $ fjoin t $ move t (5 ∷ 6 ∷ []) $ fjoin t $ move t (0 ∷ 2 ∷ []) $ fjoin t $ move t (3 ∷ 4 ∷ []) $ fjoin t $ move t (0 ∷ 3 ∷ []) $ fjoin t $ move t (2 ∷ 1 ∷ 0 ∷ []) $
          k (r, rs) (w ∷ ws) (g, gs) ((tn.after.typed M 𝓤 𝓛 r (w ∷ []) is).0, ty))))))
