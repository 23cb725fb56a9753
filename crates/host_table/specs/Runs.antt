-- Any run of a host's calls on its table, and what it is in the library's words.
use Rattle.std.specs.Prelude.{◌≡◌, List, [], ◌∷◌, map, ℕ, Ok}
use Rattle.live_table.specs.declared.table.Table.{Table}
use Rattle.live.specs.Answers.{Done}
use Rattle.live.specs.Calls.{Call}
use Rattle.live.specs.Runs.{Run}
use Rattle.host.specs.Results.{refusal_number}
use Rattle.host_table.specs.Codes.{EndsWith}

-- Each call gets the table as the one before left it, and ends as its contract says.
pub data HostRun : List Call → (before : Table) → List ℕ → (after : Table) → Type 0 where
  stop : (table : Table) → HostRun [] table [] table
  step : (call : Call) (calls : List Call) (before : Table) (number : ℕ) (between : Table) (numbers : List ℕ) (after : Table)
      → EndsWith call before number between → HostRun calls between numbers after → HostRun (call ∷ calls) before (number ∷ numbers) after

-- A run of the library's calls whose answers have these numbers.
pub record RunBeneath (calls : List Call) (before : Table) (numbers : List ℕ) (after : Table) : Type 0 where
  pub answers : List Done
  pub run : Run calls before answers after
  pub numbered : numbers ≡ map refusal_number answers

-- So the law of any run (`live`'s `RunKeepsTheRecord`) holds of a host's calls.
abbrev pub HostRunIsARun : Type 0
HostRunIsARun =
    (calls : List Call) (before : Table) (numbers : List ℕ) (after : Table) → HostRun calls before numbers after → RunBeneath calls before numbers after

-- A host sees from the number whether its call was accepted.
abbrev pub ZeroMeansAccepted : Type 0
ZeroMeansAccepted = (answer : Done) → refusal_number answer ≡ 0 → answer ≡ Ok tt
