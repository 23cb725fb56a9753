-- What the code answers, for each outcome of a question: what is found, or the refusal.
use Rattle.std.specs.Prelude.{◌≡◌, Bool, true, false, List, ℕ, ℤ, negsuc, length, replicate, Result, Ok, Err}
use Rattle.farm.specs.Limits.{limits}
use Rattle.farm.specs.Sets.{Seats}
use Rattle.farm.specs.declared.places.Seat.{Seat}
use Rattle.farm.specs.declared.places.Time.{Time}
use Rattle.farm.specs.declared.refusals.Refusal.{Refusal}
use Rattle.knowledge.specs.Settled as rules
use Rattle.knowledge.specs.Views.{latest_times}
use Rattle.telling.specs.Laid.{laid}
use Rattle.questions.specs.declared.answers.Summary.{Summary}
use Rattle.questions.specs.declared.answers.Standing.{Standing}
use Rattle.questions.specs.declared.answers.Standing.TheVariants.{Clean, Loser}
use Rattle.questions.specs.declared.answers.Seen.{Seen}
use Rattle.questions.specs.declared.answers.Agreed.{Agreed}
use Rattle.telling.specs.Marks.{count_in}
use Rattle.record.specs.Record.{Reading}
use Rattle.questions.specs.Question.{Asked, found, refused, Lent, by_value, buffer, view_asked, known_asked, settled_asked, core_asked, count_asked}

-- ════ Answers that are numbers ════

-- Rule 5, without the core.
abbrev pub summary_of : rules.Settled → Summary
summary_of s = record { critical = s.critical; kept = s.kept; steps = s.steps }

abbrev pub standing_answer : Asked Bool → Result Standing Refusal
standing_answer (found true) = Ok Loser
standing_answer (found false) = Ok Clean
standing_answer (refused refusal) = Err refusal

-- ════ Answers that go into a lent buffer ════

abbrev pub given_answer : {A : Type 0} → Asked A → Result (Unit {0}) Refusal
given_answer (found a) = Ok tt
given_answer (refused refusal) = Err refusal

-- What is left in the buffer. A refusal changes nothing.
abbrev pub into : {A : Type 0} → Asked (List A) → List A → List A
into (found new) old = laid new old
into (refused refusal) old = old

-- A question whose answer goes into a lent buffer: what is answered, and what is left in the buffer.
pub record Fills {A : Type 0} (ask : Lent → Asked (List A)) (old : List A) (answer : Result (Unit {0}) Refusal) (new : List A) : Type 0 where
  pub answered : answer ≡ given_answer (ask (buffer (length old)))
  pub left : new ≡ into (ask (buffer (length old))) old

-- ════ Views and cores by value: as in a buffer of as many numbers as there can be seats, each −1 before ════

abbrev pub no_times : List ℤ
no_times = replicate limits.most_seats (negsuc 0)

-- ════ All of a place at once ════

-- The settled answer of a record of n seats, its core as by value, and how many of the edits at these places are in it.
unfoldable pub agreed_from : (n : ℕ) (seats times : List ℕ) → Asked rules.Settled → Result Agreed Refusal
agreed_from n seats times (found s) =
    Ok (record { summary = summary_of s; latest = laid (latest_times n s.core) no_times; count = count_in s.core seats times })
agreed_from n seats times (refused refusal) = Err refusal

-- A number, or 0 beside a refusal.
abbrev pub or_none : Asked ℕ → ℕ
or_none (found x) = x
or_none (refused refusal) = 0

-- What is agreed: each part as its own question answers.
abbrev pub agreed_answer : Asked rules.Settled → Asked (List ℤ) → Asked ℕ → Result Agreed Refusal
agreed_answer (found s) core count = Ok (record { summary = summary_of s; latest = into core no_times; count = or_none count })
agreed_answer (refused refusal) core count = Err refusal

abbrev pub seen_answer : Asked (List ℤ) → Asked Seats → Result Seen Refusal
seen_answer (found view) known = Ok (record { latest = laid view no_times; known = or_none known })
seen_answer (refused refusal) known = Err refusal

-- ════ On a record ════

-- What is agreed: the settled answer, its core, and how many edits are in it.
abbrev pub agreed_asked : Reading → Seat → Time → Result Agreed Refusal
agreed_asked reading p ℓ = agreed_answer (settled_asked reading p ℓ) (core_asked by_value reading p ℓ) (count_asked reading p ℓ)

-- What a seat has seen: its view, and the known set.
abbrev pub seen_asked : Reading → Seat → Time → Result Seen Refusal
seen_asked reading p ℓ = seen_answer (view_asked by_value reading p ℓ) (known_asked reading p ℓ)
