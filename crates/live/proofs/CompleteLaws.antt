-- Every public function of the crate states its outcome completely: the answer, and the table that it leaves.
-- Assumes nothing.
use Rattle.farm.proofs.Complete.{Complete, by-facts}
use Rattle.live.specs.contracts.places.open_into as open-into
use Rattle.live.specs.contracts.places.round_into as round-into
use Rattle.live.specs.contracts.places.edit_into as edit-into

pub open-into-complete : Complete open-into.ended (λ M 𝓤. open-into.clauses {M = M} {𝓤 = 𝓤})
open-into-complete M 𝓤 𝓛 mem run κs a g r s v w = by-facts M 𝓤 _ _ _ (λ p q. (cc, cc))

pub round-into-complete : Complete round-into.ended (λ M 𝓤. round-into.clauses {M = M} {𝓤 = 𝓤})
round-into-complete M 𝓤 𝓛 mem run κs a g r s v w = by-facts M 𝓤 _ _ _ (λ p q. (cc, cc))

pub edit-into-complete : Complete edit-into.ended (λ M 𝓤. edit-into.clauses {M = M} {𝓤 = 𝓤})
edit-into-complete M 𝓤 𝓛 mem run κs a g r s v w = by-facts M 𝓤 _ _ _ (λ p q. (cc, cc))
