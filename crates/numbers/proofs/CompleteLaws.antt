-- Every public function of the crate states its outcome completely.
-- Assumes nothing.
use Rattle.farm.proofs.Complete.{Complete, by-facts}
use Rattle.numbers.specs.contracts.read.read_number as read_number
use Rattle.numbers.specs.contracts.read.read_within as read-within
use Rattle.numbers.specs.contracts.write.number_length as number-length
use Rattle.numbers.specs.contracts.write.put_number as put-number

pub read-number-complete : Complete read_number.ended (λ M 𝓤. read_number.clauses {M = M} {𝓤 = 𝓤})
read-number-complete M 𝓤 𝓛 mem run κs a g r s v w = by-facts M 𝓤 _ _ _ (λ p q. (cc, cc))

pub read-within-complete : Complete read-within.ended (λ M 𝓤. read-within.clauses {M = M} {𝓤 = 𝓤})
read-within-complete M 𝓤 𝓛 mem run κs a g r s v w = by-facts M 𝓤 _ _ _ (λ p q. (cc, cc))

pub number-length-complete : Complete number-length.ended (λ M 𝓤. number-length.clauses {M = M} {𝓤 = 𝓤})
number-length-complete M 𝓤 𝓛 mem run κs a g r s v w = by-facts M 𝓤 _ _ _ (λ p q. (cc, cc))

pub put-number-complete : Complete put-number.ended (λ M 𝓤. put-number.clauses {M = M} {𝓤 = 𝓤})
put-number-complete M 𝓤 𝓛 mem run κs a g r s v w = by-facts M 𝓤 _ _ _ (λ p q. (cc, cc))
