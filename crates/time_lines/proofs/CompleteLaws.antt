-- Every public function of the crate states its outcome completely: the answer, and every byte of the lent buffer.
-- Assumes nothing.
use Rattle.farm.proofs.Complete.{Complete, by-facts}
use Rattle.time_lines.specs.contracts.places.put_times as put-times

pub put-times-complete : Complete put-times.ended (λ M 𝓤. put-times.clauses {M = M} {𝓤 = 𝓤})
put-times-complete M 𝓤 𝓛 mem run κs a g r s v w = by-facts M 𝓤 _ _ _ (λ p q. (cc, cc))
