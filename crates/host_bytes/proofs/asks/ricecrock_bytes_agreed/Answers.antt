-- `host_bytes::asks::ricecrock_bytes_agreed` meets its contract, by the question on bytes.
-- Assumes nothing.
use mathlib.Core.Path.{refl}
use native.Mathlib.Omega.{arith}
use Rattle.host.proofs.AskedLaws.{bytes-sound, agreed-asked}
use Rattle.host_bytes.proofs.asks.ricecrock_bytes_agreed.Goals as goal

pub returns : goal.returns
returns c = agreed-asked _ (bytes-sound _ (λ i. omega (arith, c.type_inv.bytes i))) refl _ _ c.into.ensures _ _ c.into-2.ensures c.agreed.ensures c.into-3.ensures
