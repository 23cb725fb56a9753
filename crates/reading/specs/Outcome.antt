-- What reading into tables ends in.
use Rattle.std.specs.Prelude.{◌≡◌, Bool, ◌&&◌, List, ℕ, ◌*◌, leb, Result}
use Rattle.farm.specs.Limits.{limits}
use Rattle.farm.specs.declared.refusals.Refusal.{Refusal}
use Rattle.record.specs.declared.header.Header.{Header}
use Rattle.record.specs.Answers.{checked_of}
use Rattle.record.specs.Tables.{Tables, read_into, TablesRead}

-- What `roomy` asks of tables, asked of their lengths.
abbrev pub room_for : (losses seats times cells changes : ℕ) → Bool
room_for losses seats times cells changes =
    leb (limits.most_seats * limits.most_rounds) losses
    && (leb limits.most_edits seats && (leb limits.most_edits times && (leb limits.most_edits cells && leb limits.most_edits changes)))

-- Reading into tables, whole: the answer and the tables afterwards, for what there was at the call.
pub record ReadOutcome (bytes : List ℕ) (before : Tables) (answer : Result Header Refusal) (after : Tables) : Type 0 where
  pub answered : answer ≡ checked_of (read_into limits before bytes)
  pub left : TablesRead (read_into limits before bytes) before after
