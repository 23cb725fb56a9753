-- Every public function of the crate states its outcome completely.
-- Assumes nothing.
use Rattle.farm.proofs.Complete.{Complete, by-facts}
use Rattle.checking.specs.contracts.whole.check as check

pub check-complete : Complete check.ended (λ M 𝓤. check.clauses {M = M} {𝓤 = 𝓤})
check-complete M 𝓤 𝓛 mem run κs a g r s v w = by-facts M 𝓤 _ _ _ (λ p q. (cc, cc))
