-- What reading into tables comes to: too little room, the record's own refusal, or the tables filled.
-- Assumes nothing.
use mathlib.Core.Path.{◌≡◌, refl, ◌∙◌, ap}
use mathlib.Core.Bool.{true, false}
use mathlib.Core.List.{List}
use Prim.Native.Nat.{ℕ}
use Rattle.std.specs.Prelude.{Result, Ok, Err}
use Rattle.farm.specs.Limits.{limits}
use Rattle.farm.specs.declared.refusals.Refusal.{Refusal}
use Rattle.farm.specs.declared.refusals.Refusal.TheVariants.{NoRoom}
use Rattle.record.specs.declared.header.Header.{Header}
use Rattle.record.specs.Answers.{checked_of}
use Rattle.record.specs.Record.{Reading, good, bad, reading_of}
use Rattle.record.specs.Tables.{Tables, roomy, read_into, TablesRead, Accepted}
use Rattle.filling.proofs.GoodReading.{tables-kept}
use Rattle.reading.specs.Outcome.{ReadOutcome}

-- Too little room anywhere is refusal 7, and leaves all tables.
pub no_room : (bytes : List ℕ) (t : Tables) → roomy limits t ≡ false → ReadOutcome bytes t (Err NoRoom) t
unfolding read_into checked_of
no_room bytes t e = record { answered = rw e; left = tables-kept _ NoRoom t (rw e) }

-- With room, the record's own refusal leaves all tables too.
pub refused-reading : (bytes : List ℕ) (t : Tables) (r : Refusal) → roomy limits t ≡ true → Err r ≡ checked_of (reading_of limits bytes)
    → ReadOutcome bytes t (Err r) t
unfolding read_into checked_of
refused-reading bytes t r room e = by (reading_of limits bytes) refl
  where
    by : (reading : Reading) → reading_of limits bytes ≡ reading → ReadOutcome bytes t (Err r) t
    by (good w) g = let no : Err r ≡ Ok w.header = e ∙ ap checked_of g in cc
    by (bad x) g = record { answered = rw room e; left = tables-kept _ x t (rw room g) }

pub accepted-reading : (bytes : List ℕ) (h : Header) → Ok h ≡ checked_of (reading_of limits bytes) → Accepted (reading_of limits bytes)
unfolding checked_of
accepted-reading bytes h e = by (reading_of limits bytes) refl
  where
    by : (reading : Reading) → reading_of limits bytes ≡ reading → Accepted (reading_of limits bytes)
    by (good w) g = record { what = w; is = g }
    by (bad x) g = let no : Ok h ≡ Err x = e ∙ ap checked_of g in cc

pub good-reading : (bytes : List ℕ) (before after : Tables) (answer : Result Header Refusal) → roomy limits before ≡ true
    → answer ≡ checked_of (reading_of limits bytes) → TablesRead (reading_of limits bytes) before after → ReadOutcome bytes before answer after
unfolding read_into
good-reading bytes before after answer room e f = record { answered = rw room e; left = rw room f }
