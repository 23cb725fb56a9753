-- `host_bytes::asks::ricecrock_bytes_marks` meets its contract, by the question on bytes.
-- Assumes nothing.
use mathlib.Core.Path.{refl}
use native.Mathlib.Omega.{arith}
use Rattle.host.proofs.AskedLaws.{bytes-sound, marks-asked}
use Rattle.host_bytes.proofs.asks.ricecrock_bytes_marks.Goals as goal

pub returns : goal.returns
returns c = marks-asked _ (bytes-sound _ (λ i. omega (arith, c.type_inv.bytes i))) refl _ _ c.into.ensures _ _ c.into-2.ensures c.marks.ensures c.refusal_number.ensures
