-- A question of a host, by the library's question beneath it: the numbers handed on, what was answered, and what is told.
-- Assumes nothing.
use mathlib.Core.Path.{◌≡◌, ◌∙◌, ap}
use mathlib.Core.List.{List}
use Prim.Native.Nat.{ℕ}
use Rattle.std.specs.Prelude.{Result}
use Rattle.farm.specs.Limits.{limits}
use Rattle.farm.specs.declared.places.Seat.{Seat}
use Rattle.farm.specs.declared.places.Time.{Time}
use Rattle.farm.specs.declared.refusals.Refusal.{Refusal}
use Rattle.record.specs.Document.{reading_of}
use Rattle.record.specs.Record.{Reading}
use Rattle.record.specs.Taking.{IsBytes}
use Rattle.record.specs.Tables.{Tables}
use Rattle.record.specs.Writing.{checked_lists}
use Rattle.record.proofs.WritingLaws.{lists-accepted}
use Rattle.record.proofs.WrittenAgain.{reading-again}
use Rattle.questions.specs.declared.answers.Seen.{Seen}
use Rattle.questions.specs.declared.answers.Agreed.{Agreed}
use Rattle.questions.specs.declared.answers.Standing.{Standing}
use Rattle.questions.specs.Question.{Asked, Lent, view_asked, core_asked, marks_asked, loser_asked}
use Rattle.questions.specs.Answers.{Fills, given_answer, into, standing_answer, seen_asked, agreed_asked}
use Rattle.host.specs.declared.results.SeenTold.{SeenTold}
use Rattle.host.specs.declared.results.AgreedTold.{AgreedTold}
use Rattle.host.specs.declared.results.StandingTold.{StandingTold}
use Rattle.host.specs.Numbers.{at_most}
use Rattle.host.specs.Results.{FillsTold, refusal_number, seen_told, agreed_told, standing_told}
use Rattle.host.proofs.WideLaws.{Sound, lists-wide, seen-wide, agreed-wide, standing-wide, view-wide, core-wide, marks-wide}

pub bytes-sound : (bytes : List ℕ) → IsBytes bytes → Sound (reading_of bytes)
bytes-sound bytes small r e = (reading-again limits bytes r small e).1

module _ (n t R : ℕ) (lists : Tables) where
  pub lists-sound : Sound (checked_lists limits n t R lists)
  lists-sound r e = (lists-accepted limits n t R lists r e).sound

  -- The lists as they are handed on read as they were given.
  pub lists-same : {n' t' R' : ℕ} → n' ≡ at_most 255 n → t' ≡ at_most 255 t → R' ≡ at_most 65535 R
      → checked_lists limits n' t' R' lists ≡ checked_lists limits n t R lists
  lists-same en et e_r = (λ i. checked_lists limits (en i) (et i) (e_r i) lists) ∙ lists-wide n t R lists

-- What a lent buffer is left with, where the question and its refusal's number are told.
filled : {A : Type 0} {ask ask' : Lent → Asked (List A)} {old new : List A} {given : Result (Unit {0}) Refusal} {number : ℕ} → ((room : Lent) → ask' room ≡ ask room)
    → Fills ask' old given new → number ≡ refusal_number given → FillsTold ask old number new
filled {old = old} same f told = record {
  numbered = told ∙ ap refusal_number (f.answered ∙ ap given_answer (same _));
  left = f.left ∙ ap (λ (a : Asked (List _)). into a old) (same _);
}

module _ (reading : Reading) (sound : Sound reading) {handed : Reading} (same : handed ≡ reading) (s : ℕ) (p : Seat) (ep : p ≡ record { 0 = at_most 255 s }) where
  pub standing-asked : {answer : Result Standing Refusal} {told : StandingTold} → answer ≡ standing_answer (loser_asked handed p) → told ≡ standing_told answer
      → told ≡ standing_told (standing_answer (loser_asked reading (record { 0 = s })))
  standing-asked ea et = et ∙ ap standing_told (ea ∙ ap standing_answer ((λ i. loser_asked (same i) (ep i)) ∙ standing-wide s 0 reading sound))

  module _ (t : ℕ) (ℓ : Time) (eℓ : ℓ ≡ record { 0 = at_most 65535 t }) where
    pub seen-asked : {answer : Result Seen Refusal} {told : SeenTold} → answer ≡ seen_asked handed p ℓ → told ≡ seen_told answer
        → told ≡ seen_told (seen_asked reading (record { 0 = s }) (record { 0 = t }))
    seen-asked ea et = et ∙ ap seen_told (ea ∙ (λ i. seen_asked (same i) (ep i) (eℓ i)) ∙ seen-wide s t reading sound)

    pub agreed-asked : {answer : Result Agreed Refusal} {told : AgreedTold} → answer ≡ agreed_asked handed p ℓ → told ≡ agreed_told answer
        → told ≡ agreed_told (agreed_asked reading (record { 0 = s }) (record { 0 = t }))
    agreed-asked ea et = et ∙ ap agreed_told (ea ∙ (λ i. agreed_asked (same i) (ep i) (eℓ i)) ∙ agreed-wide s t reading sound)

    pub view-asked : {old new : List _} {given : Result (Unit {0}) Refusal} {number : ℕ} → Fills (λ room. view_asked room handed p ℓ) old given new → number ≡ refusal_number given
        → FillsTold (λ room. view_asked room reading (record { 0 = s }) (record { 0 = t })) old number new
    view-asked = filled (λ room. (λ i. view_asked room (same i) (ep i) (eℓ i)) ∙ view-wide s t reading sound room)

    pub core-asked : {old new : List _} {given : Result (Unit {0}) Refusal} {number : ℕ} → Fills (λ room. core_asked room handed p ℓ) old given new → number ≡ refusal_number given
        → FillsTold (λ room. core_asked room reading (record { 0 = s }) (record { 0 = t })) old number new
    core-asked = filled (λ room. (λ i. core_asked room (same i) (ep i) (eℓ i)) ∙ core-wide s t reading sound room)

    pub marks-asked : {old new : List _} {given : Result (Unit {0}) Refusal} {number : ℕ} → Fills (λ room. marks_asked room handed p ℓ) old given new → number ≡ refusal_number given
        → FillsTold (λ room. marks_asked room reading (record { 0 = s }) (record { 0 = t })) old number new
    marks-asked = filled (λ room. (λ i. marks_asked room (same i) (ep i) (eℓ i)) ∙ marks-wide s t reading sound room)
