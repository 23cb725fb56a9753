-- Questions on a record that is accepted already: n, t and R with the loss sets, and the edits' seats and times as two lists.
use Rattle.std.specs.Prelude.{◌≡◌, List, ℕ, ◌≤◌, ◌<◌, ℤ, length, Result, Ok, Err}
use Rattle.farm.specs.Limits.{limits}
use Rattle.farm.specs.declared.places.Seat.{Seat}
use Rattle.farm.specs.declared.places.Time.{Time}
use Rattle.farm.specs.declared.refusals.Refusal.{Refusal}
use Rattle.knowledge.specs.Farm.{Farm}
use Rattle.knowledge.specs.Settled as rules
use Rattle.knowledge.specs.Views.{latest_times}
use Rattle.construction.specs.Answers.{settled_for}
use Rattle.viewing.specs.Counts.{held}
use Rattle.construction.specs.declared.settled.Settled.{Settled}
use Rattle.viewing.specs.declared.sizes.Sizes.{Sizes}
use Rattle.questions.specs.declared.answers.Agreed.{Agreed}
use Rattle.telling.specs.Laid.{InTime, laid}
use Rattle.questions.specs.Answers.{no_times}
use Rattle.questions.specs.Question.{Asked, found, refused, Lent, looking, settled_in}
use Rattle.telling.specs.Marks.{marks_in, count_in}

-- What the numbers of every accepted record meet.
pub record Accepted (sizes : Sizes) : Type 0 where
  pub seats : sizes.seats ≤ limits.most_seats
  pub bound : sizes.bound < sizes.seats
  pub rounds : sizes.rounds ≤ limits.most_rounds

-- ════ What is asked ════

unfoldable pub core_in : Lent → Farm → Seat → Time → Asked (List ℤ)
core_in lent farm p ℓ = looking (λ s. latest_times farm.seats s.core) (settled_in lent farm.seats farm p ℓ)

unfoldable pub marks_on : Lent → Farm → (seats times : List ℕ) → Seat → Time → Asked (List ℕ)
marks_on lent farm seats times p ℓ =
    looking (λ s. marks_in s.core seats times) (settled_in lent (length seats) farm p ℓ)

-- ════ What is settled, as the code hands it on ════

-- The settled answer in the code's numbers, which lose nothing.
pub record Found (n : ℕ) (asked : Asked rules.Settled) (settled : Settled) : Type 0 where
  pub what : rules.Settled
  pub is : asked ≡ found what
  pub coded : settled ≡ settled_for n what
  pub core : held settled.core.of ≡ what.core
  pub early : InTime settled.core.of

-- What is agreed, out of it.
abbrev pub agreed_with : (n : ℕ) → Settled → (seats times : List ℕ) → Agreed
agreed_with n s seats times =
    record {
      summary = record { critical = s.critical; kept = s.kept; steps = s.steps };
      latest = laid (latest_times n (held s.core.of)) no_times;
      count = count_in (held s.core.of) seats times;
    }

-- An answer is the refusal that the order decides, or what is settled.
pub record Settles (n : ℕ) (asked : Asked rules.Settled) (answer : Result Settled Refusal) : Type 0 where
  pub refuses : (x : Refusal) → answer ≡ Err x → asked ≡ refused x
  pub answers : (s : Settled) → answer ≡ Ok s → Found n asked s
