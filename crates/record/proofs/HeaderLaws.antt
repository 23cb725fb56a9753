-- The header comes apart into its four numbers, each in its range.
-- Assumes nothing.
use mathlib.Core.Path.{◌≡◌, ◌∙◌, ap}
use mathlib.Core.List.{List}
use Prim.Native.Nat.{ℕ, ◌-◌}
use Rattle.farm.specs.Limits.{Limits}
use Rattle.record.specs.declared.header.Header.{Header}
use Rattle.record.specs.Taking.{value, ◌>>=◌}
use Rattle.record.specs.Numbers.{take_within}
use Rattle.record.specs.Header.{take_header}
use Rattle.record.proofs.TakingLaws.{bind-value, Tail, tail-trans}
use Rattle.record.proofs.NumberLaws.{within-tail}

module _ (L : Limits) where
  -- The four numbers of a header, one after the other.
  pub record HeaderTook (bytes : List ℕ) (h : Header) (rest : List ℕ) : Type 0 where
    pub after-n : List ℕ
    pub after-t : List ℕ
    pub after-R : List ℕ
    pub n : take_within L L.fewest_seats L.most_seats bytes ≡ value h.seats after-n
    pub t : take_within L 0 (h.seats - 1) after-n ≡ value h.bound after-t
    pub R : take_within L 0 L.most_rounds after-t ≡ value h.rounds after-R
    pub E : take_within L 0 L.most_edits after-R ≡ value h.edits rest

  pub header-took : (bytes : List ℕ) (h : Header) (rest : List ℕ) → take_header L bytes ≡ value h rest → HeaderTook bytes h rest
  unfolding take_header
  header-took bytes h rest e =
      let n = bind-value (take_within L L.fewest_seats L.most_seats bytes) _ h rest e in
      let t = bind-value (take_within L 0 (n.0 - 1) n.1) _ h rest n.3 in
      let R = bind-value (take_within L 0 L.most_rounds t.1) _ h rest t.3 in
      let E = bind-value (take_within L 0 L.most_edits R.1) _ h rest R.3 in
      let made : record { seats = n.0; bound = t.0; rounds = R.0; edits = E.0 } ≡ h = cc in
      let ends : E.1 ≡ rest = cc in
      by n.0 t.0 R.0 E.0 n.1 t.1 R.1 made n.2 t.2 R.2 (E.2 ∙ ap (value E.0) ends)
    where
      by : (n t R E : ℕ) (after-n after-t after-R : List ℕ) → record { seats = n; bound = t; rounds = R; edits = E } ≡ h
          → take_within L L.fewest_seats L.most_seats bytes ≡ value n after-n
          → take_within L 0 (n - 1) after-n ≡ value t after-t
          → take_within L 0 L.most_rounds after-t ≡ value R after-R
          → take_within L 0 L.most_edits after-R ≡ value E rest
          → HeaderTook bytes h rest
      by n t R E after-n after-t after-R made a b c d =
          rw (← made) (record { after-n = after-n; after-t = after-t; after-R = after-R; n = a; t = b; R = c; E = d })

  -- The same the other way round.
  pub header-good : (bytes : List ℕ) (h : Header) (rest : List ℕ) → HeaderTook bytes h rest → take_header L bytes ≡ value h rest
  unfolding take_header ◌>>=◌
  header-good bytes h rest w = rw (w.n, w.t, w.R, w.E)

  pub header-tail : (bytes : List ℕ) (h : Header) (rest : List ℕ) → take_header L bytes ≡ value h rest → Tail rest bytes
  header-tail bytes h rest e =
      let w = header-took bytes h rest e in
      tail-trans (within-tail L _ _ _ _ _ w.E)
      (tail-trans (within-tail L _ _ _ _ _ w.R) (tail-trans (within-tail L _ _ _ _ _ w.t) (within-tail L _ _ _ _ _ w.n)))
