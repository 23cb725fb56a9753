-- The promises of specs/Runs.antt, and that the exported calls ensure the step of a host's run.
-- Assumes nothing.
use mathlib.Core.Path.{refl}
use mathlib.Core.List.{[], ◌∷◌}
use Prim.Native.Nat.{◌<◌}
use native.Mathlib.Omega.{arith}
use base.Logic.{id⊢}
use Rattle.std.specs.Prelude.{Ok, Err}
use Rattle.farm.specs.Refusals.{number_of}
use Rattle.farm.specs.declared.refusals.Refusal.{Refusal}
use Rattle.farm.specs.declared.refusals.Refusal.TheVariants as refusal
use Rattle.live.specs.Answers.{done_of}
use Rattle.live.specs.Calls.{opening, round, edit, answer_to}
use Rattle.live.specs.Runs as library
use Rattle.live_calls.proofs.ContractRuns.{Ensures}
use Rattle.host.specs.Numbers.{seat_named}
use Rattle.host_table.specs.Codes.{EndsWith}
use Rattle.host_table.specs.Runs.{stop, step, HostRunIsARun, ZeroMeansAccepted}
use Rattle.host_table.specs.contracts.calls.ricecrock_table_open as open'
use Rattle.host_table.specs.contracts.calls.ricecrock_table_add_round as add-round
use Rattle.host_table.specs.contracts.calls.ricecrock_table_add_edit as add-edit

pub host-run-is-a-run : HostRunIsARun
host-run-is-a-run _ _ _ _ (stop table) = record { answers = []; run = library.stop table; numbered = refl }
host-run-is-a-run _ _ _ _ (step call calls before number between numbers after ends rest) =
    let later = host-run-is-a-run calls between numbers after rest in
    record {
      answers = done_of (answer_to call before) ∷ later.answers;
      run = library.step call calls before (done_of (answer_to call before)) between later.answers after (refl, ends.1) later.run;
      numbered = λ i. ends.0 i ∷ later.numbered i;
    }

above_zero : (x : Refusal) → 0 < number_of x
above_zero refusal.EndsEarly = omega arith
above_zero refusal.BadForm = omega arith
above_zero refusal.OutOfRange = omega arith
above_zero refusal.BadLossSet = omega arith
above_zero refusal.BadOrder = omega arith
above_zero refusal.BytesLeft = omega arith
above_zero refusal.NoRoom = omega arith
above_zero refusal.NoSuchPlace = omega arith
above_zero refusal.OverBound = omega arith
above_zero refusal.BadLengths = omega arith
above_zero refusal.RoundsFull = omega arith
above_zero refusal.EditsFull = omega arith
above_zero refusal.BadTable = omega arith

pub zero-means-accepted : ZeroMeansAccepted
zero-means-accepted (Ok tt) e = refl
zero-means-accepted (Err x) e = absurd (omega (arith, above_zero x, e))

-- What the exported calls ensure, as it is generated from the source, is the step of `HostRun`. The parameters are counted from the
-- table, which is the first.
pub open-ends : Ensures open'.ended (λ M 𝓤. open'.clauses {M = M} {𝓤 = 𝓤})
    (λ κs a r end. EndsWith (opening a.1.0 a.1.1.0) a.0.now r end.0.now)
open-ends M 𝓤 𝓛 mem run κs a g r end = id⊢ 𝓤 _

pub add-round-ends : Ensures add-round.ended (λ M 𝓤. add-round.clauses {M = M} {𝓤 = 𝓤})
    (λ κs a r end. EndsWith (round a.1.0.now) a.0.now r end.0.now)
add-round-ends M 𝓤 𝓛 mem run κs a g r end = id⊢ 𝓤 _

pub add-edit-ends : Ensures add-edit.ended (λ M 𝓤. add-edit.clauses {M = M} {𝓤 = 𝓤})
    (λ κs a r end. EndsWith (edit (seat_named a.1.0) a.1.1.0 a.1.1.1.0) a.0.now r end.0.now)
add-edit-ends M 𝓤 𝓛 mem run κs a g r end = id⊢ 𝓤 _
