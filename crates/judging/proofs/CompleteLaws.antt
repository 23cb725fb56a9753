-- Every public function of the crate states its outcome completely.
-- Assumes nothing.
use Rattle.farm.proofs.Complete.{Complete, by-facts}
use Rattle.judging.specs.contracts.lists.judge as judge

pub judge-complete : Complete judge.ended (λ M 𝓤. judge.clauses {M = M} {𝓤 = 𝓤})
judge-complete M 𝓤 𝓛 mem run κs a g r s v w = by-facts M 𝓤 _ _ _ (λ p q. (cc, cc))
