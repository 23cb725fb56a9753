-- The line of a place, from what was asked of the place, and what a printed line leaves. Seats with one known set at a time
-- are given one answer. Assumes nothing.
use mathlib.Core.Path.{◌≡◌, refl, sym, ◌∙◌, ap}
use mathlib.Core.Bool.{Bool, true}
use mathlib.Core.List.{List}
use Prim.Native.Nat.{ℕ, suc, ◌+◌, ◌*◌, ◌<◌, ◌≤◌}
use native.Mathlib.Omega.{arith}
use lib.ListN.{length, take, drop, get_or}
use lib.Seq.{take-append-le}
use borrow.Author.Tests.{lt-ltb, le-leb}
use Rattle.farm.specs.Sets.{Seats, bit}
use Rattle.farm.specs.declared.places.Seat.{Seat}
use Rattle.farm.specs.declared.places.Time.{Time}
use Rattle.knowledge.specs.Farm.{Farm, losers, seat, time}
use Rattle.knowledge.specs.Views.{latest_times}
use Rattle.knowledge.specs.Known.{known_of}
use Rattle.knowledge.specs.Settled.{Settled, Outcome, over_bound, settled, settle, outcome_of}
use Rattle.viewing.specs.Counts.{room, counts, farm_in}
use Rattle.viewing.specs.declared.farms.Farm as code
use Rattle.telling.specs.declared.edit_places.EditPlaces.{EditPlaces}
use Rattle.construction.specs.KnownSets.{known_sets}
use Rattle.viewing.proofs.ViewSteps.{counts-at}
use Rattle.telling.specs.Laid.{laid}
use Rattle.questions.specs.Answers.{no_times, agreed_from, summary_of}
use Rattle.telling.specs.Marks.{count_in}
use Rattle.questions.specs.Question.{by_value, is_place, of_outcome, settled_in}
use Rattle.questions.specs.declared.answers.Agreed.{Agreed}
use Rattle.questions.proofs.AskLaws.{settled-valued}
use Rattle.telling.proofs.TimeLaws.{length-times}
use Rattle.text.specs.Digits.{Text}
use Rattle.lines.specs.Lines.{place_line}
use Rattle.text.specs.Putting.{PutsWithin}
use Rattle.lines.specs.Printing.{Prints, line_room}
use Rattle.farm.specs.declared.refusals.Refusal.{Refusal}
use Rattle.std.specs.Prelude.{Result, Ok}
use Rattle.text.proofs.PutLaws.{within-then}
use Rattle.time_lines.specs.Places.{Counting, line_of, line_at, lines_at, lines_of}
use Rattle.time_lines.specs.Printing.{count_from, line_from, line_in, place_of, time_room}

-- Where there is room, the line is put.
pub printed-put : {text : Text} {at end : ℕ} {old new : List ℕ} {printed : Result ℕ Refusal} → at + line_room ≤ length old
    → Prints text at old new printed → printed ≡ Ok end → PutsWithin line_room text at old new end
printed-put {text} {at} {end} {old} {printed = printed} room p e =
    let fits = le-leb (at + line_room) (length old) room in
    let short = p.short fits in
    let answer : printed ≡ Ok (at + length text) = rw fits at p.answered in
    let ends : end ≡ at + length text = cc in
    record { puts = record { end = ends; bytes = rw fits at p.bytes }; within = omega arith }

-- Of the times past n none is printed.
core-alone : (n : ℕ) (place : Agreed) (s : Settled) (ℓ : Time) (p : Seat) (loser : Bool)
    → place.latest ≡ laid (latest_times n s.core) no_times
    → place_line (line_from place n ℓ p loser)
    ≡ place_line (record {
      time = ℓ;
      seat = p;
      loser = loser;
      critical = place.summary.critical;
      steps = place.summary.steps;
      seats = n;
      core = latest_times n s.core;
      count = place.count;
    })
unfolding place_line
core-alone n place s ℓ p loser e =
    let full = length-times n s.core in
    let inside : n ≤ length (latest_times n s.core) = omega arith in
    let same : take n place.latest ≡ take n (latest_times n s.core) =
    ap (take n) e ∙ take-append-le n (latest_times n s.core) (drop (length (latest_times n s.core)) no_times) inside in
    rw same

is-place : (farm : Farm) (p : Seat) (ℓ : Time) → p.0 < farm.seats → ℓ.0 ≤ farm.rounds → is_place farm p ℓ ≡ true
unfolding is_place
is-place farm p ℓ here early = rw (lt-ltb p.0 farm.seats here, le-leb ℓ.0 farm.rounds early)

-- The line of what was asked of a place is the place's line.
pub line-at : (farm : Farm) (seats times : List ℕ) (lost : Seats) (ℓ : Time) (p : Seat) (place : Result Agreed Refusal) → lost ≡ losers farm
    → p.0 < farm.seats → ℓ.0 ≤ farm.rounds → place ≡ agreed_from farm.seats seats times (settled_in by_value 0 farm p ℓ)
    → line_in place farm.seats ℓ p (bit lost p.0) ≡ line_at farm (count_from seats times) ℓ p
unfolding line_at line_of line_in agreed_from of_outcome count_from
line-at farm seats times lost ℓ p place all here early e =
    rw all (by (outcome_of farm p ℓ) (e ∙ ap (agreed_from farm.seats seats times) (settled-valued farm p ℓ 0 (is-place farm p ℓ here early))))
  where
    by : (o : Outcome) → place ≡ agreed_from farm.seats seats times (of_outcome o)
        → line_in place farm.seats ℓ p (bit (losers farm) p.0) ≡ line_of farm (count_from seats times) ℓ p o
    by over_bound f = rw f
    by (settled s) f =
        let agreed : Agreed = record { summary = summary_of s; latest = laid (latest_times farm.seats s.core) no_times; count = count_in s.core seats times } in
        rw f (core-alone farm.seats agreed s ℓ p (bit (losers farm) p.0) refl)

-- ════ Seats with one known set ════

pub same-settled : (farm : Farm) (ℓ : Time) (p q : Seat) → p.0 < farm.seats → q.0 < farm.seats → ℓ.0 ≤ farm.rounds
    → known_of farm p ℓ ≡ known_of farm q ℓ → settled_in by_value 0 farm p ℓ ≡ settled_in by_value 0 farm q ℓ
same-settled farm ℓ p q hp hq early e =
    settled-valued farm p ℓ 0 (is-place farm p ℓ hp early)
    ∙ ap (λ (known : Seats). of_outcome (settle farm ℓ.0 known)) e
    ∙ sym (settled-valued farm q ℓ 0 (is-place farm q ℓ hq early))

same_place : (farm : Farm) (seats times sets : List ℕ) (ℓ : Time) (p q : Seat) (place : Result Agreed Refusal) → farm.seats ≤ room
    → p.0 < farm.seats → q.0 < farm.seats → ℓ.0 ≤ farm.rounds → sets ≡ counts farm.seats (known_sets farm ℓ)
    → get_or sets p.0 0 ≡ get_or sets q.0 0
    → place ≡ agreed_from farm.seats seats times (settled_in by_value 0 farm p ℓ)
    → place ≡ agreed_from farm.seats seats times (settled_in by_value 0 farm q ℓ)
unfolding known_sets
same_place farm seats times sets ℓ p q place small hp hq early e same f =
    let known : (s : Seat) → s.0 < farm.seats → get_or sets s.0 0 ≡ known_of farm s ℓ =
    λ s h. rw e (counts-at farm.seats (known_sets farm ℓ) s.0 small h) in
    f ∙ ap (agreed_from farm.seats seats times) (same-settled farm ℓ p q hp hq early (sym (known p hp) ∙ same ∙ known q hq))

-- What was asked of the place of a seat that has this known set.
pub record Shared (farm : code.Farm) (edits : EditPlaces) (sets : List ℕ) (ℓ : Time) (place : Result Agreed Refusal) (set : Seats) : Type 0 where
  pub of : ℕ
  pub inside : of < farm.sizes.seats
  pub known : get_or sets of 0 ≡ set
  pub asked : place ≡ place_of farm edits (seat of) ℓ

-- It is asked of every other seat that has it.
pub shared-place : (farm : code.Farm) (edits : EditPlaces) (sets : List ℕ) (ℓ : Time) (place : Result Agreed Refusal) (set : Seats) (p : ℕ)
    → farm.sizes.seats ≤ room → p < farm.sizes.seats → ℓ.0 ≤ farm.sizes.rounds → sets ≡ counts farm.sizes.seats (known_sets (farm_in farm) ℓ)
    → get_or sets p 0 ≡ set → Shared farm edits sets ℓ place set → place ≡ place_of farm edits (seat p) ℓ
shared-place farm edits sets ℓ place set p small here early e same s =
    same_place (farm_in farm) edits.editors.now edits.times.now sets ℓ (seat s.of) (seat p) place small s.inside here early e (s.known ∙ sym same) s.asked

-- ════ The lines of one time more ════

pub one-time-more : (farm : Farm) (counting : Counting) (k last most : ℕ) {at middle end : ℕ} {old half new : List ℕ} → last ≡ suc k
    → 672 * last ≤ most → at ≤ length old → PutsWithin (672 * k) (lines_of farm counting k) at old half middle
    → PutsWithin time_room (lines_at farm counting (time k) farm.seats) middle half new end
    → PutsWithin most (lines_of farm counting last) at old new end
unfolding lines_of
one-time-more farm counting k last most e few h before now =
    let put = within-then h before now in
    record { puts = rw e put.puts; within = omega (arith, put.within) }
