-- The tests of a good record say what document 01's words say.
-- Assumes nothing.
use Rattle.std.specs.Prelude.{Option, Some, None}
use mathlib.Core.Path.{◌≡◌, refl}
use mathlib.Core.Logic.{◌↔◌}
use mathlib.Core.Bool.{true}
use mathlib.Core.List.{List, [], ◌∷◌}
use Prim.Native.Nat.{ℕ, ◌*◌, ◌<◌}
use native.Mathlib.Omega.{arith}
use lib.Dec.{eqb}
use lib.ListN.{length}
use borrow.Author.Tests.{eq-eqb}
use Rattle.farm.specs.Limits.{limits}
use Rattle.farm.specs.Sets.{Seats}
use Rattle.farm.proofs.Cases.{and_intro, and-elim}
use Rattle.record.specs.declared.header.Header.{Header}
use Rattle.record.specs.declared.edits.Edit.{Edit}
use Rattle.record.specs.Edits.{follows}
use Rattle.record.specs.Good.{good_header, good_sets, good_rounds, good_edit, good_edits, good_record}
use Rattle.record.specs.Losses.{first_seat}
use Rattle.record.specs.Record.{Record}
use Rattle.record.proofs.GoodLaws.{header-facts, header-from-facts, edit-facts, edit-from-facts, record-facts, record-from-facts}
use Rattle.record.proofs.Promises.{edits-rise-strictly, loss-set-is-good, losses-stand-round-by-round}
use Rattle.conditions.specs.Good.{NumbersFit, LossesFit, EditFits, Follows, EditsFit, GoodRecord}

pub numbers_fit : (h : Header) → (good_header limits h ≡ true) ↔ NumbersFit h.seats h.bound h.rounds h.edits
numbers_fit h = (
  λ g. let f = header-facts limits h g in record { fewest = f.fewest; most = f.most; bound = omega arith; rounds = f.rounds; edits = f.edits },
  λ f. header-from-facts limits h (record { fewest = f.fewest; most = f.most; bound = omega arith; rounds = f.rounds; edits = f.edits }),
)

pub losses-fit : (n R : ℕ) (losses : List Seats) → length losses ≡ n * R → (good_sets n first_seat losses ≡ true) ↔ LossesFit n R losses
unfolding good_rounds
losses-fit n R losses long =
    let rounds = losses-stand-round-by-round n R losses in (
      λ g k z hk hz. (loss-set-is-good n z _).0 ((rounds.0 (and_intro _ _ (eq-eqb _ _ long) g)).1 k z hk hz),
      λ f. (and-elim (eqb (length losses) (n * R)) _ (rounds.1 (long, λ k z hk hz. (loss-set-is-good n z _).1 (f k z hk hz)))).1,
    )

pub edit-fits : (n R : ℕ) (e : Edit) → 0 < n → (good_edit limits n R e ≡ true) ↔ EditFits n R e
edit-fits n R e some = (
  λ g. let f = edit-facts limits n R e g in record { seat = omega arith; time = f.time; cell = f.cell; change = f.change },
  λ f. edit-from-facts limits n R e (record { seat = omega arith; time = f.time; cell = f.cell; change = f.change }),
)

pub follows-fits : (before : Option Edit) (e : Edit) → (follows before e ≡ true) ↔ Follows before e
unfolding follows
follows-fits None e = (λ g. tt, λ f. refl)
follows-fits (Some last) e = edits-rise-strictly.0 last e

pub edits-fit : (n R : ℕ) (before : Option Edit) (edits : List Edit) → 0 < n → (good_edits limits n R before edits ≡ true) ↔ EditsFit n R before edits
unfolding good_edits
edits-fit n R before [] some = (λ g. tt, λ f. refl)
edits-fit n R before (e ∷ edits) some =
    let one = edit-fits n R e some in
    let order = follows-fits before e in
    let rest = edits-fit n R (Some e) edits some in (
      λ g. let x = and-elim _ _ g in let y = and-elim _ _ x.0 in (one.0 y.0, order.0 y.1, rest.0 x.1),
      λ f. and_intro _ _ (and_intro _ _ (one.1 f.0) (order.1 f.1)) (rest.1 f.2),
    )

pub record-good : (r : Record) → (good_record limits r ≡ true) ↔ GoodRecord r
record-good r = (
  λ g.
      let f = record-facts limits r g in
      let n = (numbers_fit r.header).0 f.header in
      record {
        numbers = n;
        loss_count = f.loss_count;
        losses = (losses-fit _ _ r.losses f.loss_count).0 f.losses;
        edit_count = f.edit_count;
        edits = (edits-fit r.header.seats r.header.rounds None r.edits (omega (arith, n.fewest))).0 f.edits;
      },
  λ f.
      record-from-facts limits r (record {
        header = (numbers_fit r.header).1 f.numbers;
        loss_count = f.loss_count;
        losses = (losses-fit _ _ r.losses f.loss_count).1 f.losses;
        edit_count = f.edit_count;
        edits = (edits-fit r.header.seats r.header.rounds None r.edits (omega (arith, f.numbers.fewest))).1 f.edits;
      }),
)
