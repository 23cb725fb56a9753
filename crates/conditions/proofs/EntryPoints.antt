-- The contracts of the entry points, as they are generated, say what the conditions speak of.
-- Assumes nothing.
use Rattle.std.specs.Prelude.{Result}
use mathlib.Core.Path.{◌≡◌, refl, sym, ◌∙◌, ap}
use mathlib.Core.Logic.{◌≢◌}
use mathlib.Core.Bool.{Bool, true, false}
use mathlib.Core.List.{List}
use Prim.Native.Nat.{ℕ}
use lib.IntN.{ℤ}
use lib.ListN.{length}
use base.Logic.{id⊢}
use contract.Monad.{fact_mono}
use Rattle.farm.specs.declared.places.Seat.{Seat}
use Rattle.farm.specs.declared.places.Time.{Time}
use Rattle.farm.specs.Sets.{Seats}
use Rattle.farm.specs.declared.refusals.Refusal.{Refusal}
use Rattle.farm.specs.declared.refusals.Refusal.TheVariants.{NoSuchPlace}
use Rattle.knowledge.specs.Known.{known_of}
use Rattle.knowledge.specs.Settled as rules
use Rattle.knowledge.specs.Views.{view_of, latest_times}
use Rattle.record.specs.Record.{Record, Reading, good, bad}
use Rattle.questions.specs.declared.answers.Seen.{Seen}
use Rattle.questions.specs.declared.answers.Agreed.{Agreed}
use Rattle.questions.specs.declared.answers.Standing.{Standing}
use Rattle.questions.specs.Answers as questions
use Rattle.questions.specs.Answers.{given_answer, standing_answer, seen_answer, agreed_answer, into, seen_asked, agreed_asked}
use Rattle.questions.specs.Question.{Asked, found, refused, provided, looking, Lent, by_value, buffer, fits, is_place, farm_of_record, count_of, view_in, known_in, settled_in, on_record, view_asked, known_asked, settled_asked, core_asked, count_asked, loser_asked}
use Rattle.conditions.specs.Order.{asked_number, answer_number}
use Rattle.conditions.specs.EntryPoints.{SaysSeen, SaysAgreed, SaysStanding, Fills, EntryPoints}

-- ════ What the code's answers say ════

given-number : {A : Type 0} (asked : Asked A) → answer_number (given_answer asked) ≡ asked_number asked
unfolding answer_number asked_number
given-number (found a) = refl
given-number (refused f) = refl

standing-number : (asked : Asked Bool) → answer_number (standing_answer asked) ≡ asked_number asked
unfolding answer_number asked_number
standing-number (found true) = refl
standing-number (found false) = refl
standing-number (refused f) = refl

seen-number : (view : Asked (List ℤ)) (known : Asked Seats) → answer_number (seen_answer view known) ≡ asked_number view
unfolding answer_number asked_number
seen-number (found view) known = refl
seen-number (refused f) known = refl

agreed-number : (settled : Asked rules.Settled) (core : Asked (List ℤ)) (count : Asked ℕ)
    → answer_number (agreed_answer settled core count) ≡ asked_number settled
unfolding answer_number asked_number
agreed-number (found s) core count = refl
agreed-number (refused f) core count = refl

-- Where the known set is found, so is the view.
view-beside : (reading : Reading) (p : Seat) (ℓ : Time) (set : Seats) → known_asked reading p ℓ ≡ found set
    → (numbers : List ℤ) × (view_asked by_value reading p ℓ ≡ found numbers)
unfolding on_record view_in known_in fits provided
view-beside (bad f) p ℓ set e = cc
view-beside (good r) p ℓ set e = by (is_place (farm_of_record r) p ℓ) e
  where
    view : List ℤ
    view = latest_times r.header.seats (view_of (farm_of_record r) p ℓ)

    by : (b : Bool) → provided b NoSuchPlace (found (known_of (farm_of_record r) p ℓ)) ≡ found set
        → (numbers : List ℤ) × (provided b NoSuchPlace (found view) ≡ found numbers)
    by true e = (view, refl)
    by false e = cc

-- What is looked at further was found.
looked-found : {A B : Type 0} (look : A → B) (x : Asked A) (b : B) → looking look x ≡ found b → (a : A) × (x ≡ found a)
unfolding looking
looked-found look (found a) b e = (a, refl)
looked-found look (refused f) b e = cc

-- Where a core or a count is found, something is settled.
settled-beside : {B : Type 0} (reading : Reading) (p : Seat) (ℓ : Time) (look : Record → rules.Settled → B) (b : B)
    → on_record reading (λ r. looking (look r) (settled_in by_value 0 (farm_of_record r) p ℓ)) ≡ found b
    → (s : rules.Settled) × (settled_asked reading p ℓ ≡ found s)
unfolding on_record
settled-beside (bad f) p ℓ look b e = cc
settled-beside (good r) p ℓ look b e = looked-found (look r) (settled_in by_value 0 (farm_of_record r) p ℓ) b e

core-by-value : (reading : Reading) (p : Seat) (ℓ : Time)
    → core_asked by_value reading p ℓ
    ≡ on_record reading (λ r. looking (λ s. latest_times r.header.seats s.core) (settled_in by_value 0 (farm_of_record r) p ℓ))
unfolding on_record settled_in fits
core-by-value (bad f) p ℓ = refl
core-by-value (good r) p ℓ = refl

module _ (reading : Reading) (p : Seat) where
  says-seen : (ℓ : Time) (answer : Result Seen Refusal) → answer ≡ seen_asked reading p ℓ → SaysSeen reading p ℓ answer
  says-seen ℓ answer e =
      rw e (record {
        number = seen-number (view_asked by_value reading p ℓ) (known_asked reading p ℓ);
        view = λ numbers f. rw f refl;
        known = λ set f. let view = view-beside reading p ℓ set f in rw (view.1, f) refl;
        nothing = λ f g. rw g;
      })

  says-agreed : (ℓ : Time) (answer : Result Agreed Refusal) → answer ≡ agreed_asked reading p ℓ → SaysAgreed reading p ℓ answer
  says-agreed ℓ answer e =
      rw e (record {
        number = agreed-number (settled_asked reading p ℓ) (core_asked by_value reading p ℓ) (count_asked reading p ℓ);
        settled = λ s f. rw f refl;
        core = λ numbers f.
            let s = settled-beside reading p ℓ (λ r s. latest_times r.header.seats s.core) numbers (sym (core-by-value reading p ℓ) ∙ f) in
            rw (s.1, f) refl;
        count = λ k f. let s = settled-beside reading p ℓ (λ r s. count_of s.core r.edits) k f in rw (s.1, f) refl;
        nothing = λ f g. rw g;
      })

  says-standing : (answer : Result Standing Refusal) → answer ≡ standing_answer (loser_asked reading p) → SaysStanding reading p answer
  says-standing answer e =
      rw e (record { number = standing-number (loser_asked reading p); loser = λ f. rw f; clean = λ f. rw f; nothing = λ f g. rw g })

fills : {A : Type 0} (ask : Lent → Asked (List A)) (old : List A) (answer : Result (Unit {0}) Refusal) (new : List A) → questions.Fills ask old answer new
    → Fills ask old answer new
unfolding asked_number
fills {A} ask old answer new f =
    let number = ap answer_number f.answered ∙ given-number (ask (buffer (length old))) in record {
      number = number;
      filled = λ entries e. f.left ∙ rw e;
      stays = λ some. f.left ∙ by (ask (buffer (length old))) (λ e. some (number ∙ e));
    }
  where
    by : (asked : Asked (List A)) → asked_number asked ≢ 0 → into asked old ≡ old
    by (found entries) some = absurd (some refl)
    by (refused refusal) some = refl

-- ════ The functions ════

pub entry-points : EntryPoints
entry-points = record {
  check = λ M 𝓤 𝓛 mem run κs a g. (id⊢ 𝓤 _, λ r end. id⊢ 𝓤 _);
  judge = λ M 𝓤 𝓛 mem run κs a g. (id⊢ 𝓤 _, λ r end. id⊢ 𝓤 _);
  read = λ M 𝓤 𝓛 mem run κs a g. (id⊢ 𝓤 _, λ r end. id⊢ 𝓤 _);
  write = λ M 𝓤 𝓛 mem run κs a g. (id⊢ 𝓤 _, λ r end. id⊢ 𝓤 _);
  needed = λ M 𝓤 𝓛 mem run κs a g. (id⊢ 𝓤 _, λ r end. id⊢ 𝓤 _);
  bytes-seen = λ M 𝓤 𝓛 mem run κs a g. (id⊢ 𝓤 _, λ r end. fact_mono 𝓤 _ _ (says-seen _ _ _ r));
  bytes-agreed = λ M 𝓤 𝓛 mem run κs a g. (id⊢ 𝓤 _, λ r end. fact_mono 𝓤 _ _ (says-agreed _ _ _ r));
  bytes-standing = λ M 𝓤 𝓛 mem run κs a g. (id⊢ 𝓤 _, λ r end. fact_mono 𝓤 _ _ (says-standing _ _ r));
  bytes-view = λ M 𝓤 𝓛 mem run κs a g. (id⊢ 𝓤 _, λ r end. fact_mono 𝓤 _ _ (fills _ _ r _));
  bytes-core = λ M 𝓤 𝓛 mem run κs a g. (id⊢ 𝓤 _, λ r end. fact_mono 𝓤 _ _ (fills _ _ r _));
  bytes-marks = λ M 𝓤 𝓛 mem run κs a g. (id⊢ 𝓤 _, λ r end. fact_mono 𝓤 _ _ (fills _ _ r _));
  lists-seen = λ M 𝓤 𝓛 mem run κs a g. (id⊢ 𝓤 _, λ r end. fact_mono 𝓤 _ _ (says-seen _ _ _ r));
  lists-agreed = λ M 𝓤 𝓛 mem run κs a g. (id⊢ 𝓤 _, λ r end. fact_mono 𝓤 _ _ (says-agreed _ _ _ r));
  lists-standing = λ M 𝓤 𝓛 mem run κs a g. (id⊢ 𝓤 _, λ r end. fact_mono 𝓤 _ _ (says-standing _ _ r));
  lists-view = λ M 𝓤 𝓛 mem run κs a g. (id⊢ 𝓤 _, λ r end. fact_mono 𝓤 _ _ (fills _ _ r _));
  lists-core = λ M 𝓤 𝓛 mem run κs a g. (id⊢ 𝓤 _, λ r end. fact_mono 𝓤 _ _ (fills _ _ r _));
  lists-marks = λ M 𝓤 𝓛 mem run κs a g. (id⊢ 𝓤 _, λ r end. fact_mono 𝓤 _ _ (fills _ _ r _));
  table-seen = λ M 𝓤 𝓛 mem run κs a g. (id⊢ 𝓤 _, λ r end. fact_mono 𝓤 _ _ (says-seen _ _ _ r));
  table-agreed = λ M 𝓤 𝓛 mem run κs a g. (id⊢ 𝓤 _, λ r end. fact_mono 𝓤 _ _ (says-agreed _ _ _ r));
  table-standing = λ M 𝓤 𝓛 mem run κs a g. (id⊢ 𝓤 _, λ r end. fact_mono 𝓤 _ _ (says-standing _ _ r));
  table-view = λ M 𝓤 𝓛 mem run κs a g. (id⊢ 𝓤 _, λ r end. fact_mono 𝓤 _ _ (fills _ _ r _));
  table-core = λ M 𝓤 𝓛 mem run κs a g. (id⊢ 𝓤 _, λ r end. fact_mono 𝓤 _ _ (fills _ _ r _));
  table-marks = λ M 𝓤 𝓛 mem run κs a g. (id⊢ 𝓤 _, λ r end. fact_mono 𝓤 _ _ (fills _ _ r _));
  write-out = λ M 𝓤 𝓛 mem run κs a g. (id⊢ 𝓤 _, λ r end. id⊢ 𝓤 _);
  opening = λ M 𝓤 𝓛 mem run κs a g. (id⊢ 𝓤 _, λ r end. id⊢ 𝓤 _);
  round = λ M 𝓤 𝓛 mem run κs a g. (id⊢ 𝓤 _, λ r end. id⊢ 𝓤 _);
  edit = λ M 𝓤 𝓛 mem run κs a g. (id⊢ 𝓤 _, λ r end. id⊢ 𝓤 _);
}
