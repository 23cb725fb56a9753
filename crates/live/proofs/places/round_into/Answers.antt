-- `live::places::round_into` meets its contract: what the tests answer decides whether the round goes behind those held.
-- Assumes nothing.
use mathlib.Core.Path.{◌≡◌, sym}
use native.Mathlib.Omega.{arith}
use borrow.Author.Rules.{rules}
use Rattle.std.specs.Prelude.{Err}
use Rattle.live_table.proofs.SoundLaws.{Arrays}
use Rattle.live.specs.Calls.{round}
use Rattle.live.proofs.StepLaws.{was-accepted, round-has-room, refused-ends, accepted-ends}
use Rattle.live.proofs.places.round_into.Goals as goal

pub returns-in_err-answer_round : goal.returns-in_err-answer_round
returns-in_err-answer_round c =
    let up : c.from_residual.result ≡ Err c.in_err-answer_round.field-0.0 = search rules in
    rw up (refused-ends (round c.args.sets.now) c.args.table.now _ (sym c.in_err-answer_round.ensures))

pub put_sets-requires : goal.put_sets-requires
put_sets-requires c =
    let arrays : Arrays c.args.table.now = search rules in
    let room = round-has-room c.args.sets.now c.args.table.now (was-accepted _ _ (sym c.in_ok-answer_round.ensures)) in
    omega arith

pub overflow_add-table : goal.overflow_add-table
overflow_add-table c =
    let room = round-has-room c.args.sets.now c.args.table.now (was-accepted _ _ (sym c.in_ok-answer_round.ensures)) in
    omega arith

pub returns : goal.returns
returns c = accepted-ends (round c.args.sets.now) c.args.table.now _ (rw c.put_sets.ensures) (sym c.in_ok-answer_round.ensures)
