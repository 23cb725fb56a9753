-- `lister::input::take_input` meets its contract: what follows each read keeps what is taken within the room. Assumes nothing.
use Rattle.std.proofs.Common.{rules, ◌≤◌, ◌<◌, ◌-◌, ◌∙◌, ap, sym, arith, Ok}
use Rattle.taking.specs.Input.{Within, input_room}
use Rattle.taking.proofs.InputLaws.{goes_on, over-within}
use Rattle.lister.proofs.input.take_input.Goals as goal
use Rattle.lister.proofs.input.take_input.Goals.{In-Continue}

-- Where it goes on, more bytes are taken, and no more than there is room for.
more : (c : In-Continue) → (c.loop-now.taken < c.in-Continue.now) × (c.in-Continue.now ≤ input_room)
more c =
    let few : Within (input_room - c.loop-now.taken) c.read-got.result = search rules in
    goes_on c.loop-now.taken c.loop-now.invariant.0 c.in-Continue.now c.read-got.result few (sym c.in_ok-now.ensures ∙ ap Ok c.in-Continue.is)

pub loop-now-smaller : goal.loop-now-smaller
loop-now-smaller c = let further = more (goal.at.loop-now-smaller c).In-Continue in omega arith

pub loop-now-preserved : goal.loop-now-preserved
loop-now-preserved c = let further = more (goal.at.loop-now-preserved c).In-Continue in (further.1, search rules)

pub returns-in-Break : goal.returns-in-Break
returns-in-Break c =
    let few : Within (input_room - c.loop-now.taken) c.read-got.result = search rules in
    over-within c.loop-now.taken c.loop-now.invariant.0 c.in-Break.all c.read-got.result few (sym c.in_ok-now.ensures ∙ ap Ok c.in-Break.is)
