-- `byte_questions::loading::read_places` meets its contract: the lists have room, so the record's own refusal is the only one.
-- Assumes nothing.
use Rattle.carriers.proofs.RecordLaws.{places-left}
use Rattle.carriers.proofs.CarriedLaws.{bytes-carried}
use native.Mathlib.Omega.{arith}
use borrow.Author.Rules.{rules}
use Rattle.byte_questions.proofs.loading.read_places.Goals as goal

pub returns : goal.returns
returns c =
    let left =
    places-left _ _ _ _
    (record { losses = search rules; seats = search rules; times = search rules; cells = search rules; changes = search rules })
    c.read.ensures in
    (left.0, left.1, left.2, left.3, bytes-carried _ _ _ _ _ _ _ _ (λ i. omega (arith, c.type_inv.bytes i)) left)
