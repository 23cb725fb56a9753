-- A record, what reading a byte string gives, and what a record's bytes are.
use Rattle.std.specs.Prelude.{List, [], ◌∷◌, ◌++◌, ℕ, None}
use Rattle.farm.specs.Limits.{Limits}
use Rattle.farm.specs.Sets.{Seats}
use Rattle.farm.specs.declared.refusals.Refusal.{Refusal}
use Rattle.farm.specs.declared.refusals.Refusal.TheVariants.{BytesLeft}
use Rattle.record.specs.declared.header.Header.{Header}
use Rattle.record.specs.declared.edits.Edit.{Edit}
use Rattle.record.specs.Taking.{Taken, value, refused, ◌>>=◌}
use Rattle.record.specs.Header.{take_header, header_bytes}
use Rattle.record.specs.Losses.{take_rounds, loss_bytes}
use Rattle.record.specs.Edits.{take_edits, edits_bytes}

pub record Record : Type 0 where
  pub header : Header
  pub losses : List Seats
  pub edits : List Edit

-- What a byte string reads as: a good record, or the one refusal that the order decides.
pub data Reading : Type 0 where
  good : Record → Reading
  bad : Refusal → Reading

unfoldable pub take_record : Limits → List ℕ → Taken Record
take_record L bytes = do
  (header, after-header) ← take_header L bytes
  (losses, after-losses) ← take_rounds L header.seats header.rounds after-header
  (edits, end) ← take_edits L header.seats header.rounds header.edits None after-losses
  value (record { header = header; losses = losses; edits = edits }) end

-- Refusal 6 comes last: bytes left after the last edit.
unfoldable pub whole : Taken Record → Reading
whole (value r []) = good r
whole (value r (b ∷ rest)) = bad BytesLeft
whole (refused r) = bad r

unfoldable pub reading_of : Limits → List ℕ → Reading
reading_of L bytes = whole (take_record L bytes)

unfoldable pub bytes_of : Limits → Record → List ℕ
bytes_of L r = header_bytes L r.header ++ loss_bytes L r.losses ++ edits_bytes L r.edits
