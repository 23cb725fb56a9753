-- What the calls on the host's table ensure, as it is generated from the source, is `Ends`, the step of `Run`: so the law of any run
-- is a law of the code's contracts. A contract that says less breaks these laws.
-- Assumes nothing.
use seplogic.Ra.Ura.{Ura}
use base.Logic.{SProp, ent, id⊢}
use prog.Memory.{Memory}
use prog.Routine.{Routine}
use types.Logic.{Logic}
use contract.Lifetimes.{Lfts}
use contract.Monad.{Fun, fact}
use denote.Triple.Entry.{Args, Res}
use denote.Triple.Clauses.{Ended, AtExit}
use Rattle.farm.proofs.Complete.{Contract}
use Rattle.live.specs.Answers.{Ends}
use Rattle.live.specs.Calls.{opening, round, edit}
use Rattle.live_calls.specs.contracts.calls.open as open'
use Rattle.live_calls.specs.contracts.calls.add_round as add-round
use Rattle.live_calls.specs.contracts.calls.add_edit as add-edit

-- At every model, from any arguments: whatever the `ensures` allows as result and as parameters at exit has the property.
abbrev pub Ensures : (T : Ended) → Contract T → ((κs : Lfts T.signature.lifetimes) → Args T.signature κs → Res T.signature κs → AtExit T κs → Type 0) → Type 2
Ensures T contract property =
    (M : Type 1) (𝓤 : Ura M) (𝓛 : Logic 𝓤) (mem : Memory → SProp 𝓤) (run : Routine → Fun 𝓤)
    (κs : Lfts T.signature.lifetimes) (a : Args T.signature κs) (g : (contract M 𝓤 𝓛 mem run κs a).ghost)
    (r : Res T.signature κs) (end : AtExit T κs)
    → ent 𝓤 ((contract M 𝓤 𝓛 mem run κs a).ensures g r end) (fact 𝓤 (property κs a r end))

-- The parameters are counted from the table, which is the first.
pub open-ends : Ensures open'.ended (λ M 𝓤. open'.clauses {M = M} {𝓤 = 𝓤})
    (λ κs a r end. Ends (opening a.1.0 a.1.1.0) a.0.now r end.0.now)
open-ends M 𝓤 𝓛 mem run κs a g r end = id⊢ 𝓤 _

pub add-round-ends : Ensures add-round.ended (λ M 𝓤. add-round.clauses {M = M} {𝓤 = 𝓤})
    (λ κs a r end. Ends (round a.1.0.now) a.0.now r end.0.now)
add-round-ends M 𝓤 𝓛 mem run κs a g r end = id⊢ 𝓤 _

pub add-edit-ends : Ensures add-edit.ended (λ M 𝓤. add-edit.clauses {M = M} {𝓤 = 𝓤})
    (λ κs a r end. Ends (edit a.1.0 a.1.1.0 a.1.1.1.0) a.0.now r end.0.now)
add-edit-ends M 𝓤 𝓛 mem run κs a g r end = id⊢ 𝓤 _
