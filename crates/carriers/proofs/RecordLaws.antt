-- From an accepted record to one that is given as bytes or as lists: what is read, and that its questions are those of the record.
-- Assumes nothing.
use mathlib.Core.Path.{◌≡◌, refl, sym, ◌∙◌, ap, ap₂, fun_ext}
use mathlib.Core.Bool.{true}
use mathlib.Core.List.{List}
use Prim.Native.Nat.{ℕ, ◌≤◌}
use native.Mathlib.Nat.{mul-le-mul}
use native.Mathlib.Omega.{arith}
use lib.ListN.{length, take}
use Rattle.farm.specs.Limits.{limits}
use Rattle.farm.specs.Sets.{Seats}
use Rattle.farm.specs.declared.places.Seat.{Seat}
use Rattle.farm.specs.declared.places.Time.{Time}
use Rattle.farm.specs.declared.refusals.Refusal.{Refusal}
use Rattle.knowledge.specs.Settled.{Settled}
use Rattle.viewing.specs.Counts.{farm_for}
use Rattle.viewing.specs.declared.sizes.Sizes.{Sizes}
use Rattle.record.specs.declared.header.Header.{Header}
use Rattle.std.specs.Prelude.{Result, Ok, Err}
use Rattle.record.specs.Taking.{IsBytes}
use Rattle.record.specs.Record.{Record, Reading, good, bad}
use Rattle.record.specs.Document.{reading_of}
use Rattle.record.specs.Answers.{checked_of, judged_in}
use Rattle.record.specs.Good.{good_record}
use Rattle.record.specs.Tables.{Tables, seats_of, times_of, read_into, tables_after}
use Rattle.reading.specs.Outcome.{ReadOutcome}
use Rattle.record.specs.Columns.{tables_of}
use Rattle.record.specs.Writing.{judged_lists, record_from, checked_lists, judged}
use Rattle.record.proofs.GoodLaws.{record-facts, header-facts}
use Rattle.record.proofs.ColumnLaws.{take-over, length-seats, length-times}
use Rattle.filling.proofs.GoodReading.{Room, enough}
use Rattle.record.proofs.WrittenAgain.{reading-again}
use Rattle.record.proofs.WritingLaws.{lists-accepted}
use Rattle.record.proofs.AcceptedLaws.{answer-accepted, answer-refused}
use Rattle.questions.specs.Question.{Lent, looking, farm_of_record, marks_of, settled_in}
use Rattle.questions.specs.Accepted.{Accepted, marks_on}
use Rattle.carriers.specs.Loading.{losses_left, seats_left, times_left, sizes_of, loss_count}
use Rattle.questions.proofs.MarkLaws.{marks-of-edits}

-- ════ A good record ════

pub accepted-sizes : (w : Record) → good_record limits w ≡ true → Accepted (sizes_of w.header)
accepted-sizes w g =
    let h = header-facts limits w.header (record-facts limits w g).header in
    record { seats = h.most; bound = omega arith; rounds = h.rounds }

pub few-losses : (w : Record) → good_record limits w ≡ true → loss_count w.header ≤ 889
few-losses w g =
    let h = header-facts limits w.header (record-facts limits w g).header in
    mul-le-mul h.most h.rounds

pub few-edits : (w : Record) → good_record limits w ≡ true → w.header.edits ≤ 512
few-edits w g = (header-facts limits w.header (record-facts limits w g).header).edits

-- Its marks and counts are those of the two lists of its edits' places.
module _ (w : Record) (seats times : List ℕ) (es : seats_of w.edits ≡ seats) (et : times_of w.edits ≡ times) (p : Seat) (ℓ : Time) where
  pub marks-asked : (lent : Lent) → marks_on lent (farm_of_record w) seats times p ℓ
      ≡ looking (λ s. marks_of s.core w.edits) (settled_in lent (length w.edits) (farm_of_record w) p ℓ)
  unfolding marks_on
  marks-asked lent =
      rw (← es, ← et)
      (ap₂ (λ (f : Settled → List ℕ) (need : ℕ). looking f (settled_in lent need (farm_of_record w) p ℓ))
      (fun_ext (λ s. sym (marks-of-edits s.core w.edits))) (length-seats w.edits))

-- ════ As bytes ════

-- A record that was read, with its header.
pub record Read (bytes : List ℕ) (h : Header) : Type 0 where
  pub what : Record
  pub is : reading_of bytes ≡ good what
  pub header : what.header ≡ h
  pub sound : good_record limits what ≡ true

pub bytes-bad : (bytes : List ℕ) (r : Result Header Refusal) (x : Refusal) → r ≡ checked_of (reading_of bytes) → r ≡ Err x → reading_of bytes ≡ bad x
unfolding checked_of
bytes-bad bytes r x e f = by (reading_of bytes) (sym e ∙ f)
  where
    by : (reading : Reading) → checked_of reading ≡ Err x → reading ≡ bad x
    by (good w) g = absurd cc
    by (bad y) g = let same : y ≡ x = cc in ap bad same

pub bytes_good : (bytes : List ℕ) (r : Result Header Refusal) (h : Header) → IsBytes bytes → r ≡ checked_of (reading_of bytes) → r ≡ Ok h → Read bytes h
unfolding checked_of
bytes_good bytes r h small e f = by (reading_of bytes) refl (sym e ∙ f)
  where
    by : (reading : Reading) → reading_of bytes ≡ reading → checked_of reading ≡ Ok h → Read bytes h
    by (good w) g k =
        let same : w.header ≡ h = cc in
        record { what = w; is = g; header = same; sound = (reading-again limits bytes w small g).1 }
    by (bad y) g k = absurd cc

module _ (bytes : List ℕ) (h : Header) (w : Read bytes h) where
  pub read-sizes : (sizes : Sizes) → sizes ≡ sizes_of h → Accepted sizes
  read-sizes sizes e = rw (e, ← w.header) (accepted-sizes w.what w.sound)

  pub read_count : loss_count h ≤ 889
  read_count = rw (← w.header) (few-losses w.what w.sound)

  pub read-edits : h.edits ≤ 512
  read-edits = rw (← w.header) (few-edits w.what w.sound)

  pub read-losses : (losses old : List Seats) (used : ℕ) → losses ≡ losses_left (reading_of bytes) old → used ≡ loss_count h
      → take used losses ≡ w.what.losses
  unfolding losses_left
  read-losses losses old used e eu =
      rw (e, w.is, eu, ← w.header) (take-over w.what.losses old _ (record-facts limits w.what w.sound).loss_count)

  pub read-farm : (losses old : List Seats) (used : ℕ) (sizes : Sizes) → losses ≡ losses_left (reading_of bytes) old → used ≡ loss_count h
      → sizes ≡ sizes_of h → farm_for sizes (take used losses) ≡ farm_of_record w.what
  read-farm losses old used sizes e eu es = rw (read-losses losses old used e eu, es, ← w.header)

  pub read-seats : (seats old : List ℕ) → seats ≡ seats_left (reading_of bytes) old → take h.edits seats ≡ seats_of w.what.edits
  unfolding seats_left
  read-seats seats old e =
      rw (e, w.is, ← w.header)
      (take-over (seats_of w.what.edits) old _ (length-seats w.what.edits ∙ (record-facts limits w.what w.sound).edit_count))

  pub read-times : (times old : List ℕ) → times ≡ times_left (reading_of bytes) old → take h.edits times ≡ times_of w.what.edits
  unfolding times_left
  read-times times old e =
      rw (e, w.is, ← w.header)
      (take-over (times_of w.what.edits) old _ (length-times w.what.edits ∙ (record-facts limits w.what w.sound).edit_count))

pub listed-few : (bytes : List ℕ) (h : Header) (w : Read bytes h) (seats : List ℕ) → seats ≡ seats_of w.what.edits → length seats ≤ 512
listed-few bytes h w seats e =
    rw (e, length-seats w.what.edits, (record-facts limits w.what w.sound).edit_count) (few-edits w.what w.sound)

-- What reading into tables with room leaves in those that a question looks at.
losses-same : (reading : Reading) (t : Tables) → (tables_after reading t).losses ≡ losses_left reading t.losses
unfolding tables_after losses_left
losses-same (good w) t = refl
losses-same (bad x) t = refl

seats-same : (reading : Reading) (t : Tables) → (tables_after reading t).seats ≡ seats_left reading t.seats
unfolding tables_after seats_left
seats-same (good w) t = refl
seats-same (bad x) t = refl

times-same : (reading : Reading) (t : Tables) → (tables_after reading t).times ≡ times_left reading t.times
unfolding tables_after times_left
times-same (good w) t = refl
times-same (bad x) t = refl

pub places-left : (bytes : List ℕ) (t after : Tables) (r : Result Header Refusal) → Room t → ReadOutcome bytes t r after
    → (r ≡ checked_of (reading_of bytes))
    × (after.losses ≡ losses_left (reading_of bytes) t.losses)
    × (after.seats ≡ seats_left (reading_of bytes) t.seats)
    × (after.times ≡ times_left (reading_of bytes) t.times)
unfolding read_into
places-left bytes t after r roomy o =
    let same : read_into limits t bytes ≡ reading_of bytes = rw (enough t roomy) in (
      o.answered ∙ ap checked_of same,
      o.left.losses ∙ ap (λ (x : Reading). (tables_after x t).losses) same ∙ losses-same (reading_of bytes) t,
      o.left.seats ∙ ap (λ (x : Reading). (tables_after x t).seats) same ∙ seats-same (reading_of bytes) t,
      o.left.times ∙ ap (λ (x : Reading). (tables_after x t).times) same ∙ times-same (reading_of bytes) t,
    )

-- ════ As lists ════

pub record Listed (n t R : ℕ) (lists : Tables) : Type 0 where
  pub is : checked_lists limits n t R lists ≡ good (record_from n t R lists)
  pub sizes : Accepted (record { seats = n; bound = t; rounds = R })
  pub parallel : length lists.times ≡ length lists.seats
  pub few : length lists.seats ≤ 512
  pub seats : seats_of (record_from n t R lists).edits ≡ lists.seats
  pub times : times_of (record_from n t R lists).edits ≡ lists.times

module _ (n t R : ℕ) (lists : Tables) where
  pub lists-bad : (x : Refusal) → Err x ≡ judged_in (judged_lists limits n t R lists) → checked_lists limits n t R lists ≡ bad x
  unfolding checked_lists judged
  lists-bad x e = rw (answer-refused _ x (sym e))

  lists-are : Ok tt ≡ judged_in (judged_lists limits n t R lists) → checked_lists limits n t R lists ≡ good (record_from n t R lists)
  unfolding checked_lists judged
  lists-are e = rw (answer-accepted _ (sym e))

  pub lists-good : Ok tt ≡ judged_in (judged_lists limits n t R lists) → Listed n t R lists
  unfolding record_from tables_of
  lists-good e =
      let same = lists-are e in
      let a = lists-accepted limits n t R lists (record_from n t R lists) same in
      let seats = ap (λ (x : Tables). x.seats) a.tables in
      let times = ap (λ (x : Tables). x.times) a.tables in
      let edits = (record_from n t R lists).edits in
      record {
        is = same;
        sizes = accepted-sizes (record_from n t R lists) a.sound;
        parallel = ap length (sym times) ∙ length-times edits ∙ sym (length-seats edits) ∙ ap length seats;
        few = few-edits (record_from n t R lists) a.sound;
        seats = seats;
        times = times;
      }
