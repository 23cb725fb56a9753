-- What the code answers to a call, and how a call ends.
use Rattle.std.specs.Prelude.{◌≡◌, Result, Ok, Err}
use Rattle.farm.specs.declared.refusals.Refusal.{Refusal}
use Rattle.record.specs.Writing.{Verdict, accepted, faulty}
use Rattle.live_table.specs.declared.table.Table.{Table}
use Rattle.live.specs.Calls.{Call, answer_to, table_after}

-- Done, or refused.
abbrev pub Done : Type 0
Done = Result (Unit {0}) Refusal

unfoldable pub done_of : Verdict → Done
done_of accepted = Ok tt
done_of (faulty refusal) = Err refusal

-- How a call ends, its answer and the table that it leaves: the whole contract of the code.
abbrev pub Ends : Call → (before : Table) (answer : Done) (after : Table) → Type 0
Ends call before answer after = (answer ≡ done_of (answer_to call before)) × (after ≡ table_after call before)
