-- The entry points, each by its contract as it is generated from the source: whatever the contract allows is what the conditions speak
-- of. So a contract that says less breaks this statement.
use Rattle.std.specs.Prelude.{◌≡◌, ◌≢◌, true, false, List, ◌++◌, ℕ, ℤ, length, drop, Result, Ok, Err, IsOkAnd}
use seplogic.Ra.Ura.{Ura}
use base.Logic.{SProp, ent, emp}
use prog.Memory.{Memory}
use prog.Routine.{Routine}
use types.Logic.{Logic}
use contract.Lifetimes.{Lfts}
use contract.Monad.{Fun, fact}
use denote.Triple.Entry.{Args, Res}
use denote.Triple.Clauses.{Ended, AtExit}
use Rattle.farm.specs.Limits.{limits}
use Rattle.farm.specs.Sets.{Seats}
use Rattle.farm.specs.declared.places.Seat.{Seat}
use Rattle.farm.specs.declared.places.Time.{Time}
use Rattle.farm.specs.declared.refusals.Refusal.{Refusal}
use Rattle.farm.proofs.Complete.{Contract}
use Rattle.knowledge.specs.Settled as rules
use Rattle.record.specs.Answers.{checked_of, judged_in, written_in}
use Rattle.record.specs.Document.{reading_of}
use Rattle.record.specs.Lent.{tables_in, verdict_on}
use Rattle.record.specs.Record.{Reading}
use Rattle.record.specs.Tables.{tables}
use Rattle.record.specs.Writing.{needed_by, written_to, buffer_after, answered, buffer_with}
use Rattle.reading.specs.Outcome.{ReadOutcome}
use Rattle.carriers.specs.Loading.{reading_in}
use Rattle.questions.specs.declared.answers.Seen.{Seen}
use Rattle.questions.specs.declared.answers.Agreed.{Agreed}
use Rattle.questions.specs.declared.answers.Standing.{Standing}
use Rattle.questions.specs.declared.answers.Standing.TheVariants.{Loser, Clean}
use Rattle.questions.specs.Answers.{no_times, summary_of}
use Rattle.questions.specs.Question.{Asked, found, refused, Lent, by_value, buffer, view_asked, known_asked, settled_asked, core_asked, marks_asked, count_asked, loser_asked}
use Rattle.live_table.specs.Used.{table_reading}
use Rattle.live.specs.Answers.{Ends}
use Rattle.live.specs.Calls.{opening, round, edit}
use Rattle.checking.specs.contracts.whole.check as check
use Rattle.judging.specs.contracts.lists.judge as judge
use Rattle.reading.specs.contracts.tables.read as read
use Rattle.writing.specs.contracts.lists.write as write
use Rattle.writing.specs.contracts.lists.length as needed
use Rattle.byte_questions.specs.contracts.asks.seen as byte-seen
use Rattle.byte_questions.specs.contracts.asks.agreed as byte-agreed
use Rattle.byte_questions.specs.contracts.asks.standing as byte-standing
use Rattle.byte_questions.specs.contracts.asks.view as byte-view
use Rattle.byte_questions.specs.contracts.asks.core as byte-core
use Rattle.byte_questions.specs.contracts.asks.marks as byte-marks
use Rattle.list_questions.specs.contracts.asks.seen as list-seen
use Rattle.list_questions.specs.contracts.asks.agreed as list-agreed
use Rattle.list_questions.specs.contracts.asks.standing as list-standing
use Rattle.list_questions.specs.contracts.asks.view as list-view
use Rattle.list_questions.specs.contracts.asks.core as list-core
use Rattle.list_questions.specs.contracts.asks.marks as list-marks
use Rattle.live_questions.specs.contracts.asks.seen as table-seen
use Rattle.live_questions.specs.contracts.asks.agreed as table-agreed
use Rattle.live_questions.specs.contracts.asks.standing as table-standing
use Rattle.live_questions.specs.contracts.asks.view as table-view
use Rattle.live_questions.specs.contracts.asks.core as table-core
use Rattle.live_questions.specs.contracts.asks.marks as table-marks
use Rattle.live_questions.specs.contracts.asks.write_out as write-out
use Rattle.live_calls.specs.contracts.calls.open as open'
use Rattle.live_calls.specs.contracts.calls.add_round as add-round
use Rattle.live_calls.specs.contracts.calls.add_edit as add-edit
use Rattle.conditions.specs.Order.{asked_number, answer_number}

-- At every model and from any arguments: the contract asks nothing, and whatever it allows as result and as parameters at exit has
-- the property.
abbrev pub Ensures : (T : Ended) → Contract T
    → ((κs : Lfts T.signature.lifetimes) → Args T.signature κs → Res T.signature κs → AtExit T κs → Type 0) → Type 2
Ensures T contract property =
    (M : Type 1) (𝓤 : Ura M) (𝓛 : Logic 𝓤) (mem : Memory → SProp 𝓤) (run : Routine → Fun 𝓤)
    (κs : Lfts T.signature.lifetimes) (a : Args T.signature κs) (g : (contract M 𝓤 𝓛 mem run κs a).ghost)
    → ent 𝓤 (emp 𝓤) ((contract M 𝓤 𝓛 mem run κs a).requires g)
    × ((r : Res T.signature κs) (end : AtExit T κs) → ent 𝓤 ((contract M 𝓤 𝓛 mem run κs a).ensures g r end) (fact 𝓤 (property κs a r end)))

-- ════ What the code's answers to questions say ════

-- By value: the number; what is found, each part as its own question says; and beside a refusal nothing, since the answer is that refusal
-- alone. A view or a core stands in front of as many −1 as there can be seats.
abbrev pub in_front : List ℤ → List ℤ
in_front numbers = numbers ++ drop (length numbers) no_times

pub record SaysSeen (reading : Reading) (p : Seat) (ℓ : Time) (answer : Result Seen Refusal) : Type 0 where
  pub number : answer_number answer ≡ asked_number (view_asked by_value reading p ℓ)
  pub view : (numbers : List ℤ) → view_asked by_value reading p ℓ ≡ found numbers → IsOkAnd answer (λ seen. seen.latest ≡ in_front numbers)
  pub known : (set : Seats) → known_asked reading p ℓ ≡ found set → IsOkAnd answer (λ seen. seen.known ≡ set)
  pub nothing : (f : Refusal) → view_asked by_value reading p ℓ ≡ refused f → answer ≡ Err f

pub record SaysAgreed (reading : Reading) (p : Seat) (ℓ : Time) (answer : Result Agreed Refusal) : Type 0 where
  pub number : answer_number answer ≡ asked_number (settled_asked reading p ℓ)
  pub settled : (s : rules.Settled) → settled_asked reading p ℓ ≡ found s → IsOkAnd answer (λ agreed. agreed.summary ≡ summary_of s)
  pub core : (numbers : List ℤ) → core_asked by_value reading p ℓ ≡ found numbers → IsOkAnd answer (λ agreed. agreed.latest ≡ in_front numbers)
  pub count : (k : ℕ) → count_asked reading p ℓ ≡ found k → IsOkAnd answer (λ agreed. agreed.count ≡ k)
  pub nothing : (f : Refusal) → settled_asked reading p ℓ ≡ refused f → answer ≡ Err f

pub record SaysStanding (reading : Reading) (p : Seat) (answer : Result Standing Refusal) : Type 0 where
  pub number : answer_number answer ≡ asked_number (loser_asked reading p)
  pub loser : loser_asked reading p ≡ found true → answer ≡ Ok Loser
  pub clean : loser_asked reading p ≡ found false → answer ≡ Ok Clean
  pub nothing : (f : Refusal) → loser_asked reading p ≡ refused f → answer ≡ Err f

-- In a lent buffer: the number; what is found in front, and the later entries as they were; after a refusal every entry as it was.
pub record Fills {A : Type 0} (ask : Lent → Asked (List A)) (old : List A) (answer : Result (Unit {0}) Refusal) (new : List A) : Type 0 where
  pub number : answer_number answer ≡ asked_number (ask (buffer (length old)))
  pub filled : (entries : List A) → ask (buffer (length old)) ≡ found entries → new ≡ entries ++ drop (length entries) old
  pub stays : answer_number answer ≢ 0 → new ≡ old

-- ════ The functions, by the names of their parameters; a prime marks a parameter at exit ════

pub record EntryPoints : Type 2 where
  -- Records looked through, into tables and out of lists.
  pub check : Ensures check.ended (λ M 𝓤. check.clauses {M = M} {𝓤 = 𝓤}) (λ κs (bytes, none) r end. r ≡ checked_of (reading_of bytes.now))
  pub judge : Ensures judge.ended (λ M 𝓤. judge.clauses {M = M} {𝓤 = 𝓤}) (λ κs (lists, none) r end. r ≡ judged_in (verdict_on lists))
  pub read : Ensures read.ended (λ M 𝓤. read.clauses {M = M} {𝓤 = 𝓤})
      (λ κs (bytes, (losses, (seats, (times, (cells, (changes, none)))))) r (bytes', (losses', (seats', (times', (cells', (changes', none')))))).
      ReadOutcome bytes.now (tables losses.now seats.now times.now cells.now changes.now) r
      (tables losses'.now seats'.now times'.now cells'.now changes'.now))
  pub write : Ensures write.ended (λ M 𝓤. write.clauses {M = M} {𝓤 = 𝓤})
      (λ κs (lists, (out, none)) r (lists', (out', none')).
      (r ≡ written_in (written_to limits lists.seats lists.bound lists.rounds (tables_in lists) (length out.now)))
      × (out'.now ≡ buffer_after limits lists.seats lists.bound lists.rounds (tables_in lists) out.now))
  pub needed : Ensures needed.ended (λ M 𝓤. needed.clauses {M = M} {𝓤 = 𝓤})
      (λ κs (lists, none) r end. r ≡ written_in (needed_by limits lists.seats lists.bound lists.rounds (tables_in lists)))
  -- Questions on a record as bytes.
  pub bytes-seen : Ensures byte-seen.ended (λ M 𝓤. byte-seen.clauses {M = M} {𝓤 = 𝓤})
      (λ κs (bytes, (p, (ℓ, none))) r end. SaysSeen (reading_of bytes.now) p ℓ r)
  pub bytes-agreed : Ensures byte-agreed.ended (λ M 𝓤. byte-agreed.clauses {M = M} {𝓤 = 𝓤})
      (λ κs (bytes, (p, (ℓ, none))) r end. SaysAgreed (reading_of bytes.now) p ℓ r)
  pub bytes-standing : Ensures byte-standing.ended (λ M 𝓤. byte-standing.clauses {M = M} {𝓤 = 𝓤})
      (λ κs (bytes, (p, none)) r end. SaysStanding (reading_of bytes.now) p r)
  pub bytes-view : Ensures byte-view.ended (λ M 𝓤. byte-view.clauses {M = M} {𝓤 = 𝓤})
      (λ κs (bytes, (p, (ℓ, (out, none)))) r (bytes', (p', (ℓ', (out', none')))).
      Fills (λ lent. view_asked lent (reading_of bytes.now) p ℓ) out.now r out'.now)
  pub bytes-core : Ensures byte-core.ended (λ M 𝓤. byte-core.clauses {M = M} {𝓤 = 𝓤})
      (λ κs (bytes, (p, (ℓ, (out, none)))) r (bytes', (p', (ℓ', (out', none')))).
      Fills (λ lent. core_asked lent (reading_of bytes.now) p ℓ) out.now r out'.now)
  pub bytes-marks : Ensures byte-marks.ended (λ M 𝓤. byte-marks.clauses {M = M} {𝓤 = 𝓤})
      (λ κs (bytes, (p, (ℓ, (out, none)))) r (bytes', (p', (ℓ', (out', none')))).
      Fills (λ lent. marks_asked lent (reading_of bytes.now) p ℓ) out.now r out'.now)
  -- Questions on a record as lists.
  pub lists-seen : Ensures list-seen.ended (λ M 𝓤. list-seen.clauses {M = M} {𝓤 = 𝓤})
      (λ κs (lists, (p, (ℓ, none))) r end. SaysSeen (reading_in lists) p ℓ r)
  pub lists-agreed : Ensures list-agreed.ended (λ M 𝓤. list-agreed.clauses {M = M} {𝓤 = 𝓤})
      (λ κs (lists, (p, (ℓ, none))) r end. SaysAgreed (reading_in lists) p ℓ r)
  pub lists-standing : Ensures list-standing.ended (λ M 𝓤. list-standing.clauses {M = M} {𝓤 = 𝓤})
      (λ κs (lists, (p, none)) r end. SaysStanding (reading_in lists) p r)
  pub lists-view : Ensures list-view.ended (λ M 𝓤. list-view.clauses {M = M} {𝓤 = 𝓤})
      (λ κs (lists, (p, (ℓ, (out, none)))) r (lists', (p', (ℓ', (out', none')))).
      Fills (λ lent. view_asked lent (reading_in lists) p ℓ) out.now r out'.now)
  pub lists-core : Ensures list-core.ended (λ M 𝓤. list-core.clauses {M = M} {𝓤 = 𝓤})
      (λ κs (lists, (p, (ℓ, (out, none)))) r (lists', (p', (ℓ', (out', none')))).
      Fills (λ lent. core_asked lent (reading_in lists) p ℓ) out.now r out'.now)
  pub lists-marks : Ensures list-marks.ended (λ M 𝓤. list-marks.clauses {M = M} {𝓤 = 𝓤})
      (λ κs (lists, (p, (ℓ, (out, none)))) r (lists', (p', (ℓ', (out', none')))).
      Fills (λ lent. marks_asked lent (reading_in lists) p ℓ) out.now r out'.now)
  -- Questions on the live table, and the record so far as bytes.
  pub table-seen : Ensures table-seen.ended (λ M 𝓤. table-seen.clauses {M = M} {𝓤 = 𝓤})
      (λ κs (table, (p, (ℓ, none))) r end. SaysSeen (table_reading table.now) p ℓ r)
  pub table-agreed : Ensures table-agreed.ended (λ M 𝓤. table-agreed.clauses {M = M} {𝓤 = 𝓤})
      (λ κs (table, (p, (ℓ, none))) r end. SaysAgreed (table_reading table.now) p ℓ r)
  pub table-standing : Ensures table-standing.ended (λ M 𝓤. table-standing.clauses {M = M} {𝓤 = 𝓤})
      (λ κs (table, (p, none)) r end. SaysStanding (table_reading table.now) p r)
  pub table-view : Ensures table-view.ended (λ M 𝓤. table-view.clauses {M = M} {𝓤 = 𝓤})
      (λ κs (table, (p, (ℓ, (out, none)))) r (table', (p', (ℓ', (out', none')))).
      Fills (λ lent. view_asked lent (table_reading table.now) p ℓ) out.now r out'.now)
  pub table-core : Ensures table-core.ended (λ M 𝓤. table-core.clauses {M = M} {𝓤 = 𝓤})
      (λ κs (table, (p, (ℓ, (out, none)))) r (table', (p', (ℓ', (out', none')))).
      Fills (λ lent. core_asked lent (table_reading table.now) p ℓ) out.now r out'.now)
  pub table-marks : Ensures table-marks.ended (λ M 𝓤. table-marks.clauses {M = M} {𝓤 = 𝓤})
      (λ κs (table, (p, (ℓ, (out, none)))) r (table', (p', (ℓ', (out', none')))).
      Fills (λ lent. marks_asked lent (table_reading table.now) p ℓ) out.now r out'.now)
  pub write-out : Ensures write-out.ended (λ M 𝓤. write-out.clauses {M = M} {𝓤 = 𝓤})
      (λ κs (table, (out, none)) r (table', (out', none')).
      (r ≡ written_in (answered limits (table_reading table.now) (length out.now))) × (out'.now ≡ buffer_with limits (table_reading table.now) out.now))
  -- The calls on the live table: each is a step of a run.
  pub opening : Ensures open'.ended (λ M 𝓤. open'.clauses {M = M} {𝓤 = 𝓤})
      (λ κs (table, (n, (t, none))) r (table', (n', (t', none'))). Ends (opening n t) table.now r table'.now)
  pub round : Ensures add-round.ended (λ M 𝓤. add-round.clauses {M = M} {𝓤 = 𝓤})
      (λ κs (table, (sets, none)) r (table', (sets', none')). Ends (round sets.now) table.now r table'.now)
  pub edit : Ensures add-edit.ended (λ M 𝓤. add-edit.clauses {M = M} {𝓤 = 𝓤})
      (λ κs (table, (p, (cell, (change, none)))) r (table', (p', (cell', (change', none')))). Ends (edit p cell change) table.now r table'.now)
