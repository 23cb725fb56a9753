-- How reading a whole record goes on from part to part, and where the parts stand in the bytes.
-- Assumes nothing.
use mathlib.Core.Path.{◌≡◌, refl, sym, ◌∙◌, ap}
use mathlib.Core.List.{List, [], ◌∷◌}
use Prim.Native.Nat.{ℕ, ◌-◌, ◌<◌, ◌≤◌}
use native.Mathlib.Nat.{le_refl}
use native.Mathlib.Omega.{arith}
use lib.ListN.{length, take, drop, length-drop, drop_of_length-le}
use lib.Seq.{take_all}
use Rattle.std.specs.Prelude.{Ok, None}
use Rattle.farm.specs.Limits.{Limits, limits}
use Rattle.farm.specs.Sets.{Seats}
use Rattle.farm.specs.declared.refusals.Refusal.{Refusal}
use Rattle.farm.specs.declared.refusals.Refusal.TheVariants.{BytesLeft}
use Rattle.numbers.specs.declared.read.Cursor.{Cursor}
use Rattle.record.specs.declared.header.Header.{Header}
use Rattle.record.specs.declared.edits.Edit.{Edit}
use Rattle.record.specs.Taking.{Taken, value, refused, ◌>>=◌}
use Rattle.record.specs.Header.{take_header}
use Rattle.record.specs.Losses.{take_rounds}
use Rattle.record.specs.Edits.{take_edits}
use Rattle.record.specs.Record.{good, bad, take_record, whole, reading_of}
use Rattle.numbers.specs.Cursors.{read_in, passed_in}
use Rattle.record.proofs.TakingLaws.{Tail}
use Rattle.record.proofs.NumberLaws.{within-value}
use Rattle.numbers.proofs.CursorLaws.{read-was, passed-was}
use Rattle.record.proofs.HeaderLaws.{header-took, header-tail}
use Rattle.record.proofs.LossLaws.{rounds-tail}
use Rattle.record.proofs.EditLaws.{edits-tail}

-- ════ Part by part ════

module _ (L : Limits) (bytes : List ℕ) where
  pub reading-no-header : (r : Refusal) → take_header L bytes ≡ refused r → reading_of L bytes ≡ bad r
  unfolding reading_of take_record whole ◌>>=◌
  reading-no-header r e = rw e

  module _ (h : Header) (after-header : List ℕ) (header : take_header L bytes ≡ value h after-header) where
    pub reading-no-losses : (r : Refusal) → take_rounds L h.seats h.rounds after-header ≡ refused r → reading_of L bytes ≡ bad r
    unfolding reading_of take_record whole ◌>>=◌
    reading-no-losses r e = rw (header, e)

    module _ (sets : List Seats) (after-losses : List ℕ) (losses : take_rounds L h.seats h.rounds after-header ≡ value sets after-losses) where
      pub reading-no-edits : (r : Refusal) → take_edits L h.seats h.rounds h.edits None after-losses ≡ refused r
          → reading_of L bytes ≡ bad r
      unfolding reading_of take_record whole ◌>>=◌
      reading-no-edits r e = rw (header, losses, e)

      module _ (es : List Edit) where
        pub reading-left : (b : ℕ) (rest : List ℕ)
            → take_edits L h.seats h.rounds h.edits None after-losses ≡ value es (b ∷ rest)
            → reading_of L bytes ≡ bad BytesLeft
        unfolding reading_of take_record whole ◌>>=◌
        reading-left b rest e = rw (header, losses, e)

        pub reading-good : take_edits L h.seats h.rounds h.edits None after-losses ≡ value es []
            → reading_of L bytes ≡ good (record { header = h; losses = sets; edits = es })
        unfolding reading_of take_record whole ◌>>=◌
        reading-good e = rw (header, losses, e)

-- ════ Parts in their places ════

-- The part of the bytes from a place on, as the code hands it over, is what comes after that place.
abbrev pub from : ℕ → List ℕ → List ℕ
from at bytes = take (length bytes - at) (drop at bytes)

pub from_is : (at : ℕ) (bytes : List ℕ) → from at bytes ≡ drop at bytes
from_is at bytes = take_all (length bytes - at) (drop at bytes) (rw length-drop (le_refl (length bytes - at)))

pub record Head (bytes : List ℕ) (h : Header) (at : ℕ) : Type 0 where
  pub took : take_header limits bytes ≡ value h (from at bytes)
  pub inside : at ≤ length bytes
  pub some : 2 ≤ h.seats
  pub few : h.seats ≤ 7
  pub bound : h.bound ≤ h.seats - 1
  pub rounds : h.rounds ≤ 127
  pub edits : h.edits ≤ 512

pub header-was : (bytes : List ℕ) (h : Header) (next : Cursor) → Ok (h, next) ≡ read_in bytes (take_header limits bytes) → Head bytes h next.at
header-was bytes h next e =
    let was = read-was bytes (take_header limits bytes) h next (header-tail limits bytes) (sym e) in
    let parts = header-took limits bytes h _ was.took in
    let n = within-value limits _ _ _ _ _ parts.n in
    let t = within-value limits _ _ _ _ _ parts.t in
    let R = within-value limits _ _ _ _ _ parts.R in
    let E = within-value limits _ _ _ _ _ parts.E in
    record {
      took = was.took ∙ ap (value h) (sym (from_is next.at bytes));
      inside = was.inside;
      some = n.1;
      few = n.2;
      bound = t.2;
      rounds = R.2;
      edits = E.2;
    }

-- A part that was looked through to its end.
pub record Looked {A : Type 0} (bytes : List ℕ) (t : Taken A) (at : ℕ) : Type 0 where
  pub what : A
  pub took : t ≡ value what (from at bytes)
  pub inside : at ≤ length bytes

looked : {A : Type 0} (bytes : List ℕ) (t : Taken A) (next : Cursor) → ((a : A) (rest : List ℕ) → t ≡ value a rest → Tail rest bytes)
    → Ok next ≡ passed_in bytes t → Looked bytes t next.at
looked bytes t next tail e =
    let was = passed-was bytes t next tail (sym e) in
    record { what = was.0; took = was.1.took ∙ ap (value was.0) (sym (from_is next.at bytes)); inside = was.1.inside }

pub losses-looked : (n R : ℕ) (bytes : List ℕ) (next : Cursor) → Ok next ≡ passed_in bytes (take_rounds limits n R bytes)
    → Looked bytes (take_rounds limits n R bytes) next.at
losses-looked n R bytes next e = looked bytes _ next (rounds-tail limits n R bytes) e

pub edits-looked : (n R E : ℕ) (bytes : List ℕ) (next : Cursor) → Ok next ≡ passed_in bytes (take_edits limits n R E None bytes)
    → Looked bytes (take_edits limits n R E None bytes) next.at
edits-looked n R E bytes next e = looked bytes _ next (edits-tail limits n R E None bytes) e

-- Nothing is left, or something is.
pub nothing_left : (at : ℕ) (bytes : List ℕ) → length bytes ≤ at → from at bytes ≡ []
nothing_left at bytes h = from_is at bytes ∙ drop_of_length-le bytes h

pub something-left : (at : ℕ) (bytes : List ℕ) → at < length bytes → (b : ℕ) × (rest : List ℕ) × (from at bytes ≡ b ∷ rest)
something-left at bytes h = rw from_is (by (drop at bytes) (rw length-drop (omega arith)))
  where
    by : (l : List ℕ) → 0 < length l → (b : ℕ) × (rest : List ℕ) × (l ≡ b ∷ rest)
    by [] g = absurd (omega arith)
    by (b ∷ rest) g = (b, rest, refl)

-- Refusal 6 comes last, after the last edit.
module _
    (bytes : List ℕ) (h : Header) (after-header : List ℕ) (header : take_header limits bytes ≡ value h after-header)
    (sets : List Seats) (after-losses : List ℕ) (losses : take_rounds limits h.seats h.rounds after-header ≡ value sets after-losses)
    (at : ℕ) (last : Looked after-losses (take_edits limits h.seats h.rounds h.edits None after-losses) at) where
  pub bytes_left : at < length after-losses → reading_of limits bytes ≡ bad BytesLeft
  bytes_left h-left =
      let more = something-left at after-losses h-left in
      reading-left limits bytes h after-header header sets after-losses losses last.what more.0 more.1 (last.took ∙ ap (value last.what) more.2)

  pub no-bytes-left : length after-losses ≤ at → reading_of limits bytes ≡ good (record { header = h; losses = sets; edits = last.what })
  no-bytes-left none =
      reading-good limits bytes h after-header header sets after-losses losses last.what (last.took ∙ ap (value last.what) (nothing_left at after-losses none))
