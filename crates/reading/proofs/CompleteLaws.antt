-- Every public function of the crate states its outcome completely.
-- Assumes nothing.
use Rattle.farm.proofs.Complete.{Complete, by-facts}
use Rattle.reading.specs.contracts.tables.read as read

pub read-complete : Complete read.ended (λ M 𝓤. read.clauses {M = M} {𝓤 = 𝓤})
read-complete M 𝓤 𝓛 mem run κs a g r s v w = by-facts M 𝓤 _ _ _ (λ p q. (cc, cc))
