-- What the code answers about bytes and lists: the value that was asked for, or the refusal.
use Rattle.std.specs.Prelude.{ℕ, Result, Ok, Err}
use Rattle.farm.specs.declared.refusals.Refusal.{Refusal}
use Rattle.record.specs.declared.header.Header.{Header}
use Rattle.record.specs.Record.{Reading, good, bad}
use Rattle.record.specs.Writing.{Verdict, accepted, faulty, Written, count, unwritten}

-- Whether a record is good, and its header.
unfoldable pub checked_of : Reading → Result Header Refusal
checked_of (good r) = Ok r.header
checked_of (bad r) = Err r

unfoldable pub judged_in : Verdict → Result (Unit {0}) Refusal
judged_in accepted = Ok tt
judged_in (faulty r) = Err r

unfoldable pub written_in : Written → Result ℕ Refusal
written_in (count k) = Ok k
written_in (unwritten r) = Err r
