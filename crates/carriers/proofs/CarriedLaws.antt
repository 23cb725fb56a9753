-- A carrier is its reading, then the accepted question: what a carrier hands on stands for the record that it reads as.
-- Assumes nothing.
use mathlib.Core.Path.{◌≡◌, refl, sym, ◌∙◌, ap, ap₂}
use mathlib.Core.Bool.{Bool, true, false}
use mathlib.Core.List.{List}
use Prim.Native.Nat.{ℕ, ◌*◌, ◌≤◌, ◌<◌}
use native.Mathlib.Omega.{arith}
use lib.IntN.{ℤ}
use Rattle.std.specs.Prelude.{Result, Ok, Err}
use Rattle.std.specs.Result.{IsErrAnd}
use lib.ListN.{length, take, length-take}
use Rattle.farm.specs.Limits.{limits}
use Rattle.farm.specs.Sets.{Seats, bit}
use lib.Dec.{ltb}
use Rattle.farm.specs.declared.places.Seat.{Seat}
use Rattle.farm.specs.declared.places.Time.{Time}
use Rattle.farm.specs.declared.refusals.Refusal.{Refusal}
use Rattle.farm.specs.declared.refusals.Refusal.TheVariants.{NoRoom, NoSuchPlace}
use Rattle.knowledge.specs.Farm.{Farm}
use Rattle.knowledge.specs.Settled as rules
use Rattle.knowledge.specs.Settled.{Outcome}
use Rattle.viewing.specs.Counts.{farm_for}
use Rattle.construction.proofs.Looks.{view-same, known-of-same, outcome-same, losers-same, used-losses}
use Rattle.record.proofs.RefusalLaws.{handed_up}
use Rattle.record.specs.declared.header.Header.{Header}
use Rattle.record.specs.declared.edits.Edit.{Edit}
use Rattle.record.specs.Taking.{IsBytes}
use Rattle.record.specs.Record.{Record, Reading, good, bad}
use Rattle.record.specs.Document.{reading_of}
use Rattle.record.specs.Answers.{checked_of, judged_in}
use Rattle.record.specs.Tables.{Tables, seats_of, times_of}
use Rattle.record.specs.Writing.{judged_lists, record_from, checked_lists, header_from}
use Rattle.record.proofs.WritingLaws.{lists-accepted}
use lib.Seq.{take_all, take-length}
use Rattle.record.proofs.GoodLaws.{record-facts}
use Rattle.record.proofs.ColumnLaws.{take-over, length-seats, length-times}
use Rattle.record.proofs.WrittenAgain.{reading-again}
use Rattle.questions.specs.Accepted.{Accepted, core_in, marks_on}
use Rattle.questions.specs.Answers.{agreed_from, seen_answer, agreed_answer, given_answer, into, Fills, standing_answer, seen_asked, agreed_asked}
use Rattle.questions.specs.declared.answers.Seen.{Seen}
use Rattle.questions.specs.declared.answers.Agreed.{Agreed}
use Rattle.questions.specs.declared.answers.Standing.{Standing}
use Rattle.carriers.specs.Carried.{Holds, Carried, Fitting, Loaded, Sized, on_checked, view_for, known_for, core_for, loser_for, agreed_for, marks_for}
use Rattle.questions.specs.Question.{Asked, found, refused, Lent, by_value, fits, is_place, provided, looking, of_outcome, on_record, farm_of_record, view_in, known_in, loser_in, settled_in, view_asked, known_asked, core_asked, marks_asked, loser_asked, count_of}
use Rattle.carriers.specs.Loading.{sizes_of, losses_left, seats_left, times_left}
use Rattle.knowledge.specs.Views.{View, latest_times}
use Rattle.questions.proofs.AskLaws.{place-below}
use Rattle.questions.proofs.MarkLaws.{count-of-edits}
use Rattle.carriers.proofs.RecordLaws.{accepted-sizes, few-edits, marks-asked, lists-bad, lists-good}

-- ════ The farm of the whole table answers as the record's ════

provided-alike : {A : Type 0} (b : Bool) (x : Refusal) (a c : Asked A) → (b ≡ true → a ≡ c) → provided b x a ≡ provided b x c
unfolding provided
provided-alike true x a c h = h refl
provided-alike false x a c h = refl

module _ (w : Record) (table who when : List ℕ) (held : Holds w table who when) where
  pub fitting : Fitting w.header who when
  fitting =
      let count = (record-facts limits w held.sound).edit_count in
      let a = ap length held.seats ∙ length-seats w.edits in
      let b = ap length held.times ∙ length-times w.edits in
      let c = length-take w.header.edits who in
      let d = length-take w.header.edits when in
      record { sizes = accepted-sizes w held.sound; few = few-edits w held.sound; seats = omega arith; times = omega arith }

  abbrev whole : Farm
  whole = farm_for (sizes_of w.header) table

  abbrev used : Farm
  used = farm_for (sizes_of w.header) (take (w.header.seats * w.header.rounds) table)

  same : (r s q : ℕ) → r ≤ w.header.rounds → s < w.header.seats → whole.lost r s q ≡ used.lost r s q
  same r s q h l = sym (used-losses w.header.seats w.header.bound w.header.rounds table r s q h l)

  pub view-alike : (lent : Lent) (p : Seat) (ℓ : Time) → view_in lent whole p ℓ ≡ view_in lent (farm_of_record w) p ℓ
  unfolding view_in is_place
  view-alike lent p ℓ =
      rw (← held.losses)
      (provided-alike (is_place whole p ℓ) _ _ _ (λ e.
      ap (λ (v : View). provided (fits lent w.header.seats) NoRoom (found (latest_times w.header.seats v)))
      (view-same w.header.seats w.header.bound w.header.rounds _ _ same p.0 ℓ.0 (place-below whole p ℓ e).1)))

  pub known_alike : (p : Seat) (ℓ : Time) → known_in whole p ℓ ≡ known_in (farm_of_record w) p ℓ
  unfolding known_in is_place
  known_alike p ℓ =
      rw (← held.losses)
      (provided-alike (is_place whole p ℓ) _ _ _ (λ e.
      ap found (known-of-same w.header.seats w.header.bound w.header.rounds _ _ same p ℓ (place-below whole p ℓ e).1)))

  pub loser-alike : (p : Seat) → loser_in whole p ≡ loser_in (farm_of_record w) p
  unfolding loser_in
  loser-alike p =
      rw (← held.losses)
      (ap (λ (set : Seats). provided (ltb p.0 w.header.seats) NoSuchPlace (found (bit set p.0)))
      (losers-same w.header.seats w.header.bound w.header.rounds _ _ same))

  pub settled-alike : (lent : Lent) (need : ℕ) (p : Seat) (ℓ : Time) → settled_in lent need whole p ℓ ≡ settled_in lent need (farm_of_record w) p ℓ
  unfolding settled_in is_place
  settled-alike lent need p ℓ =
      rw (← held.losses)
      (provided-alike (is_place whole p ℓ) _ _ _ (λ e.
      let here = place-below whole p ℓ e in
      ap (λ (o : Outcome). provided (fits lent need) NoRoom (of_outcome o))
      (outcome-same w.header.seats w.header.bound w.header.rounds _ _ same (accepted-sizes w held.sound).bound p here.0 ℓ here.1)))

-- ════ Each question ════

-- What is agreed, from the settled answer alone.
agreed-parts : (n : ℕ) (edits : List Edit) (asked : Asked rules.Settled)
    → agreed_from n (seats_of edits) (times_of edits) asked
    ≡ agreed_answer asked (looking (λ s. latest_times n s.core) asked) (looking (λ s. count_of s.core edits) asked)
unfolding agreed_from looking
agreed-parts n edits (found s) = rw (count-of-edits s.core edits) refl
agreed-parts n edits (refused r) = refl

module _ {reading : Reading} {checked : Result Header Refusal} {table who when : List ℕ} (c : Carried reading checked table who when) where
  pub loaded : Loaded checked who when
  unfolding checked_of
  loaded h e = by reading refl (sym c.told ∙ e)
    where
      by : (r : Reading) → reading ≡ r → checked_of r ≡ Ok h → Fitting h who when
      by (good w) is f = let same : w.header ≡ h = cc in rw (← same) (fitting w table who when (c.holds w is))
      by (bad x) is f = absurd cc

  pub sized : Sized checked
  sized h e = (loaded h e).sizes

  -- One law for every question.
  on-carried : {A : Type 0} (on : Header → Asked A) (ask : Record → Asked A) → ((w : Record) → Holds w table who when → on w.header ≡ ask w)
      → on_checked checked on ≡ on_record reading ask
  unfolding checked_of on_checked on_record
  on-carried on ask alike = rw c.told (by reading refl)
    where
      by : (r : Reading) → reading ≡ r → on_checked (checked_of r) on ≡ on_record r ask
      by (good w) is = alike w (c.holds w is)
      by (bad x) is = refl

  module _ (p : Seat) (ℓ : Time) where
    pub view-carried : (lent : Lent) → view_for lent checked table p ℓ ≡ view_asked lent reading p ℓ
    view-carried lent = on-carried _ _ (λ w held. view-alike w table who when held lent p ℓ)

    pub seen-carried : seen_answer (view_for by_value checked table p ℓ) (known_for checked table p ℓ) ≡ seen_asked reading p ℓ
    seen-carried = ap₂ seen_answer (view-carried by_value) (on-carried _ _ (λ w held. known_alike w table who when held p ℓ))

    pub core-carried : (lent : Lent) → core_for lent checked table p ℓ ≡ core_asked lent reading p ℓ
    unfolding core_in
    core-carried lent = on-carried _ _ (λ w held. ap (looking _) (settled-alike w table who when held lent _ p ℓ))

    pub marks-carried : (lent : Lent) → marks_for lent checked table who when p ℓ ≡ marks_asked lent reading p ℓ
    unfolding marks_on
    marks-carried lent = on-carried _ _ (λ w held.
        ap (looking _) (settled-alike w table who when held lent _ p ℓ)
        ∙ marks-asked w _ _ (sym held.seats) (sym held.times) p ℓ lent)

    pub agreed-carried : agreed_for checked table who when p ℓ ≡ agreed_asked reading p ℓ
    unfolding checked_of agreed_for on_record settled_in fits
    agreed-carried = rw c.told (by reading refl)
      where
        by : (r : Reading) → reading ≡ r → agreed_for (checked_of r) table who when p ℓ ≡ agreed_asked r p ℓ
        by (good w) is =
            let held = c.holds w is in
            rw (held.seats, held.times, settled-alike w table who when held by_value 0 p ℓ) (agreed-parts w.header.seats w.edits _)
        by (bad x) is = refl

  pub standing-carried : (p : Seat) → loser_for checked table p ≡ loser_asked reading p
  standing-carried p = on-carried _ _ (λ w held. loser-alike w table who when held p)

-- Into a buffer: questions alike leave the same.
pub fills_alike : {A : Type 0} {on asked : Lent → Asked (List A)} {old new : List A} {answer : Result (Unit {0}) Refusal} → ((room : Lent) → on room ≡ asked room)
    → Fills on old answer new → Fills asked old answer new
fills_alike {old = old} e f = record {
  answered = f.answered ∙ ap given_answer (e _);
  left = f.left ∙ ap (λ (a : Asked (List _)). into a old) (e _);
}

-- ════ The carriers ════

pub bytes-carried : (bytes : List ℕ) (r : Result Header Refusal) (losses editors times l s t : List ℕ) → IsBytes bytes
    → (r ≡ checked_of (reading_of bytes)) × (losses ≡ losses_left (reading_of bytes) l) × (editors ≡ seats_left (reading_of bytes) s) × (times ≡ times_left (reading_of bytes) t)
    → Carried (reading_of bytes) r losses editors times
unfolding losses_left seats_left times_left
bytes-carried bytes r losses editors times l s t small e = record {
  told = e.0;
  holds = λ w is.
      let sound = (reading-again limits bytes w small is).1 in
      let facts = record-facts limits w sound in
      record {
        sound = sound;
        losses = rw (e.1, is) (take-over w.losses l _ facts.loss_count);
        seats = rw (e.2, is) (take-over (seats_of w.edits) s _ (length-seats w.edits ∙ facts.edit_count));
        times = rw (e.3, is) (take-over (times_of w.edits) t _ (length-times w.edits ∙ facts.edit_count));
      };
}

module _ (n t R : ℕ) (lists : Tables) where
  pub lists-carried-bad : (x : Refusal) → Err x ≡ judged_in (judged_lists limits n t R lists)
      → Carried (checked_lists limits n t R lists) (Err x) lists.losses lists.seats lists.times
  unfolding checked_of
  lists-carried-bad x e =
      let g = lists-bad n t R lists x e in
      record { told = rw g refl; holds = λ w is. let f : bad x ≡ good w = sym g ∙ is in absurd cc }

  pub lists-carried-good : Ok tt ≡ judged_in (judged_lists limits n t R lists)
      → Carried (checked_lists limits n t R lists) (Ok (header_from n t R lists)) lists.losses lists.seats lists.times
  unfolding checked_of record_from
  lists-carried-good e =
      let listed = lists-good n t R lists e in
      record {
        told = rw listed.is refl;
        holds = λ w is.
            let g = listed.is in
            let same : record_from n t R lists ≡ w = cc in
            let sound = (lists-accepted limits n t R lists (record_from n t R lists) g).sound in
            let held : Holds (record_from n t R lists) lists.losses lists.seats lists.times =
            record {
              sound = sound;
              losses = take_all (n * R) lists.losses (let c = (record-facts limits (record_from n t R lists) sound).loss_count in omega arith);
              seats = take-length lists.seats ∙ sym listed.seats;
              times = ap (λ (m : ℕ). take m lists.times) (sym listed.parallel) ∙ take-length lists.times ∙ sym listed.times;
            } in
            rw (← same) held;
      }
