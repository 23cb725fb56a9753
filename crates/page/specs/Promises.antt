-- What is promised of the page, as statements. Their proofs stand under the same names in proofs/Promises.antt.
use Rattle.std.specs.Prelude.{◌≡◌, List, [], ◌∷◌, ◌++◌, ℕ}
use Rattle.farm.specs.Refusals.{number_of}
use Rattle.farm.specs.declared.refusals.Refusal.{Refusal}
use Rattle.record.specs.Document.{reading_of}
use Rattle.record.specs.Record.{bad}
use Rattle.text.specs.Digits.{Text}
use Rattle.text.specs.Words.{ascii}
use Rattle.lines.specs.Lines.{refused_line}
use Rattle.page.specs.Page.{page_of}

-- ════ The page that document 01 prints ════

-- The losses of P4, one edit by seat 2 at time 0, cell 5, change −3.
abbrev printed_bytes : List ℕ
printed_bytes =
    0x03 ∷ 0x01 ∷ 0x02 ∷ 0x01 ∷ 0x00 ∷ 0x00 ∷ 0x01 ∷ 0x00 ∷ 0x00 ∷ 0x00 ∷ 0x02 ∷ 0x00 ∷ 0x05 ∷ 0x05 ∷ []

unfoldable pub printed_page : Text
printed_page =
    ascii "seats 3 bound 1 rounds 2 edits 1\n"
    ++ ascii "0 0 C -2 1 -1 -1 -1 0\n"
    ++ ascii "0 1 C -2 1 -1 -1 -1 0\n"
    ++ ascii "0 2 L -2 1 -1 -1 -1 0\n"
    ++ ascii "1 0 C -1 2 -1 -1 -1 0\n"
    ++ ascii "1 1 C -1 1 -1 -1 -1 0\n"
    ++ ascii "1 2 L -1 1 -1 -1 -1 0\n"
    ++ ascii "2 0 C 1 1 1 1 0 1\n"
    ++ ascii "2 1 C 1 1 1 1 0 1\n"
    ++ ascii "2 2 L 1 1 1 1 0 1\n"

abbrev pub PrintedPage : Type 0
PrintedPage = page_of (reading_of printed_bytes) ≡ printed_page

-- P9's losses: seat 0 is refused 9 at time 1, and its line keeps the letter.
abbrev over_bytes : List ℕ
over_bytes = 0x03 ∷ 0x01 ∷ 0x01 ∷ 0x00 ∷ 0x00 ∷ 0x01 ∷ 0x01 ∷ []

unfoldable pub over_page : Text
over_page =
    ascii "seats 3 bound 1 rounds 1 edits 0\n"
    ++ ascii "0 0 C -2 1 -1 -1 -1 0\n"
    ++ ascii "0 1 L -2 1 -1 -1 -1 0\n"
    ++ ascii "0 2 L -2 1 -1 -1 -1 0\n"
    ++ ascii "1 0 C over\n"
    ++ ascii "1 1 L -1 1 -1 -1 -1 0\n"
    ++ ascii "1 2 L -1 1 -1 -1 -1 0\n"

abbrev pub OverPage : Type 0
OverPage = page_of (reading_of over_bytes) ≡ over_page

-- ════ Bad records ════

-- A bad record gives one line, `refused` and the number, and nothing else.
abbrev pub BadRecords : Type 0
BadRecords = (bytes : List ℕ) (refusal : Refusal) → reading_of bytes ≡ bad refusal → page_of (reading_of bytes) ≡ refused_line (number_of refusal)

-- No input at all is the empty record, refused 1.
abbrev pub NoInput : Type 0
NoInput = page_of (reading_of []) ≡ ascii "refused 1\n"
