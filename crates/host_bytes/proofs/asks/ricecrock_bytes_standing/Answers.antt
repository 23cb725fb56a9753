-- `host_bytes::asks::ricecrock_bytes_standing` meets its contract, by the question on bytes.
-- Assumes nothing.
use mathlib.Core.Path.{refl}
use native.Mathlib.Omega.{arith}
use Rattle.host.proofs.AskedLaws.{bytes-sound, standing-asked}
use Rattle.host_bytes.proofs.asks.ricecrock_bytes_standing.Goals as goal

pub returns : goal.returns
returns c = standing-asked _ (bytes-sound _ (λ i. omega (arith, c.type_inv.bytes i))) refl _ _ c.into.ensures c.standing.ensures c.into-2.ensures
