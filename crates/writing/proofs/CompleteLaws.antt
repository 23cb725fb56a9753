-- Every public function of the crate states its outcome completely.
-- Assumes nothing.
use Rattle.farm.proofs.Complete.{Complete, by-facts}
use Rattle.writing.specs.contracts.lists.length as length
use Rattle.writing.specs.contracts.lists.write as write
use Rattle.writing.specs.contracts.lists.write_accepted as write-accepted

pub length-complete : Complete length.ended (λ M 𝓤. length.clauses {M = M} {𝓤 = 𝓤})
length-complete M 𝓤 𝓛 mem run κs a g r s v w = by-facts M 𝓤 _ _ _ (λ p q. (cc, cc))

pub write-complete : Complete write.ended (λ M 𝓤. write.clauses {M = M} {𝓤 = 𝓤})
write-complete M 𝓤 𝓛 mem run κs a g r s v w = by-facts M 𝓤 _ _ _ (λ p q. (cc, cc))

pub write-accepted-complete : Complete write-accepted.ended (λ M 𝓤. write-accepted.clauses {M = M} {𝓤 = 𝓤})
write-accepted-complete M 𝓤 𝓛 mem run κs a g r s v w = by-facts M 𝓤 _ _ _ (λ p q. (cc, cc))
