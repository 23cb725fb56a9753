-- What a host is told for each answer of the library: document 01's number of the refusal, or 0 where there is none, and what was
-- found. Beside a refusal the other numbers are 0, and the times are −1.
use Rattle.std.specs.Prelude.{◌≡◌, List, ℕ, pos, length, Result, Ok, Err}
use Rattle.farm.specs.Refusals.{number_of}
use Rattle.farm.specs.declared.refusals.Refusal.{Refusal}
use Rattle.record.specs.declared.header.Header.{Header}
use Rattle.questions.specs.declared.answers.Seen.{Seen}
use Rattle.questions.specs.declared.answers.Agreed.{Agreed}
use Rattle.questions.specs.declared.answers.Standing.{Standing}
use Rattle.questions.specs.declared.answers.Standing.TheVariants.{Clean, Loser}
use Rattle.questions.specs.Answers.{given_answer, into, no_times}
use Rattle.questions.specs.Question.{Asked, Lent, buffer}
use Rattle.host.specs.declared.results.HeaderTold.{HeaderTold}
use Rattle.host.specs.declared.results.LengthTold.{LengthTold}
use Rattle.host.specs.declared.results.SeenTold.{SeenTold}
use Rattle.host.specs.declared.results.AgreedTold.{AgreedTold}
use Rattle.host.specs.declared.results.StandingTold.{StandingTold}

abbrev pub refusal_number : Result (Unit {0}) Refusal → ℕ
refusal_number (Ok done) = 0
refusal_number (Err refusal) = number_of refusal

abbrev pub header_told : Result Header Refusal → HeaderTold
header_told (Ok h) = record { refusal = 0; seats = h.seats; bound = h.bound; rounds = h.rounds; edits = h.edits }
header_told (Err refusal) = record { refusal = number_of refusal; seats = 0; bound = 0; rounds = 0; edits = 0 }

abbrev pub length_told : Result ℕ Refusal → LengthTold
length_told (Ok count) = record { refusal = 0; length = count }
length_told (Err refusal) = record { refusal = number_of refusal; length = 0 }

abbrev pub seen_told : Result Seen Refusal → SeenTold
seen_told (Ok s) = record { refusal = 0; known = s.known; view = s.latest }
seen_told (Err refusal) = record { refusal = number_of refusal; known = 0; view = no_times }

abbrev pub agreed_told : Result Agreed Refusal → AgreedTold
agreed_told (Ok a) = record {
  refusal = 0;
  steps = a.summary.steps;
  critical = a.summary.critical;
  kept = a.summary.kept;
  count = a.count;
  core = a.latest;
}
agreed_told (Err refusal) = record { refusal = number_of refusal; steps = 0; critical = pos 0; kept = 0; count = 0; core = no_times }

abbrev pub standing_told : Result Standing Refusal → StandingTold
standing_told (Ok Clean) = record { refusal = 0; loser = 0 }
standing_told (Ok Loser) = record { refusal = 0; loser = 1 }
standing_told (Err refusal) = record { refusal = number_of refusal; loser = 0 }

-- A question whose answer goes into a lent buffer: the number, and what is left in the buffer. A refusal leaves what was there.
pub record FillsTold {A : Type 0} (ask : Lent → Asked (List A)) (old : List A) (number : ℕ) (new : List A) : Type 0 where
  pub numbered : number ≡ refusal_number (given_answer (ask (buffer (length old))))
  pub left : new ≡ into (ask (buffer (length old))) old
