-- What is put into a buffer run by run: four numbers, loss sets and edits.
-- Assumes nothing.
use mathlib.Core.Path.{◌≡◌}
use mathlib.Core.List.{List, [], ◌∷◌, ◌++◌}
use Prim.Native.Nat.{ℕ, suc, ◌+◌, ◌^◌, ◌<◌, ◌≤◌}
use native.Mathlib.Numerals.{add-one}
use native.Mathlib.Omega.{arith}
use lib.IntN.{ℤ}
use lib.ListN.{length, get_or, drop, drop_of_length-le}
use lib.Seq.{drop-cons}
use Rattle.std.specs.List.{All}
use Rattle.std.proofs.lemmas.List.Elements.{All-nil, All-cons}
use Rattle.farm.specs.Limits.{limits}
use Rattle.farm.specs.Sets.{Seats}
use Rattle.record.specs.declared.edits.Edit.{Edit}
use Rattle.record.specs.declared.lists.Lists.{Lists}
use Rattle.record.specs.Numbers.{number_bytes}
use Rattle.record.specs.Header.{header_bytes}
use Rattle.record.specs.Losses.{loss_bytes}
use Rattle.record.specs.Edits.{edits_bytes}
use Rattle.record.specs.Lent.{tables_in, record_in}
use Rattle.record.specs.Record.{bytes_of}
use Rattle.record.specs.Tables.{edits_from}
use Rattle.record.specs.Writing.{header_from, edits_in, record_from}
use Rattle.numbers.specs.Placing.{Put}
use Rattle.numbers.proofs.PlacingLaws.{front-room, first-room, second-room, third-room, all_three, put-room, put_then}

-- ════ Four numbers, as a header and an edit have them ════

module _ (at v w x y : ℕ) (old : List ℕ) (room : at + length (number_bytes limits v ++ number_bytes limits w ++ number_bytes limits x ++ number_bytes limits y) ≤ length old) where
  three-fit : at + length (number_bytes limits v ++ number_bytes limits w ++ number_bytes limits x) ≤ length old
  three-fit = front-room at (number_bytes limits v) (number_bytes limits w) (number_bytes limits x) (number_bytes limits y) old room

  pub first-fits : at + length (number_bytes limits v) ≤ length old
  first-fits = first-room at (number_bytes limits v) (number_bytes limits w) (number_bytes limits x) old three-fit

  module _ {i : ℕ} {one : List ℕ} (first : Put at (number_bytes limits v) old i one) where
    pub second-fits : i + length (number_bytes limits w) ≤ length one
    second-fits = second-room at (number_bytes limits v) (number_bytes limits w) (number_bytes limits x) old three-fit i one first

    module _ {j : ℕ} {two : List ℕ} (second : Put i (number_bytes limits w) one j two) where
      pub third-fits : j + length (number_bytes limits x) ≤ length two
      third-fits = third-room at (number_bytes limits v) (number_bytes limits w) (number_bytes limits x) old three-fit i one first j two second

      module _ {k : ℕ} {three : List ℕ} (third : Put j (number_bytes limits x) two k three) where
        three-put : Put at (number_bytes limits v ++ number_bytes limits w ++ number_bytes limits x) old k three
        three-put = all_three at (number_bytes limits v) (number_bytes limits w) (number_bytes limits x) old three-fit i one first j two second k three third

        pub fourth-fits : k + length (number_bytes limits y) ≤ length three
        fourth-fits = put-room at _ old k three three-put (number_bytes limits y) room

        pub all-four : (l : ℕ) (four : List ℕ) → Put k (number_bytes limits y) three l four
            → Put at (number_bytes limits v ++ number_bytes limits w ++ number_bytes limits x ++ number_bytes limits y) old l four
        all-four l four fourth = put_then at _ old k three three-put (number_bytes limits y) l four fourth room

-- ════ Loss sets ════

module _ (i : ℕ) (losses : List Seats) where
  pub losses-next : i < length losses → loss_bytes limits (drop i losses) ≡ number_bytes limits (get_or losses i 0) ++ loss_bytes limits (drop (i + 1) losses)
  unfolding loss_bytes
  losses-next h = rw (add-one, drop-cons losses i 0 h, loss_bytes)

  pub losses-done : length losses ≤ i → loss_bytes limits (drop i losses) ≡ []
  unfolding loss_bytes
  losses-done h = rw (drop_of_length-le losses h)

-- ════ Edits ════

-- Small cells are cells of small edits.
abbrev pub SmallCell : Edit → Type 0
SmallCell edit = edit.cell < 128 ^ 3

pub small-edits : (seats times cells : List ℕ) (changes : List ℤ) → ((i : ℕ) → get_or cells i 0 < 128 ^ 3)
    → All SmallCell (edits_from seats times cells changes)
unfolding edits_from
small-edits [] times cells changes h = All-nil SmallCell
small-edits (s ∷ seats) [] cells changes h = All-nil SmallCell
small-edits (s ∷ seats) (t ∷ times) [] changes h = All-nil SmallCell
small-edits (s ∷ seats) (t ∷ times) (c ∷ cells) [] h = All-nil SmallCell
small-edits (s ∷ seats) (t ∷ times) (c ∷ cells) (d ∷ changes) h =
    All-cons SmallCell _ _ (h 0) (small-edits seats times cells changes (λ i. h (suc i)))

-- ════ The record of lists: header, losses and edits ════

module _ (l : Lists) (old : List ℕ) (room : length (bytes_of limits (record_in l)) ≤ length old) where
  abbrev header : List ℕ
  header = header_bytes limits (header_from l.seats l.bound l.rounds (tables_in l))

  abbrev losses : List ℕ
  losses = loss_bytes limits l.losses.now

  abbrev edits : List ℕ
  edits = edits_bytes limits (edits_in (tables_in l))

  all-fit : 0 + length (header ++ losses ++ edits) ≤ length old
  unfolding bytes_of record_from
  all-fit = omega (arith, room)

  pub header-fits : length header ≤ length old
  header-fits = omega (arith, first-room 0 header losses edits old all-fit)

  module _ {i : ℕ} {one : List ℕ} (first : Put 0 header old i one) where
    pub losses-fit : i + length losses ≤ length one
    losses-fit = second-room 0 header losses edits old all-fit i one first

    module _ {j : ℕ} {two : List ℕ} (second : Put i losses one j two) where
      pub edits-fit : j + length edits ≤ length two
      edits-fit = third-room 0 header losses edits old all-fit i one first j two second

      pub record-put : {k : ℕ} {three : List ℕ} → Put j edits two k three → Put 0 (bytes_of limits (record_in l)) old k three
      unfolding bytes_of record_from
      record-put {k} {three} third = all_three 0 header losses edits old all-fit i one first j two second k three third
