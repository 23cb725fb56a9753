-- Every public function of the crate states its outcome completely: the answer, and every entry of the tables.
-- Assumes nothing.
use Rattle.farm.proofs.Complete.{Complete, by-facts}
use Rattle.filling.specs.contracts.fill.fill_losses as fill-losses
use Rattle.filling.specs.contracts.fill.fill_edits as fill-edits
use Rattle.filling.specs.contracts.fill.fill as fill

pub fill-losses-complete : Complete fill-losses.ended (λ M 𝓤. fill-losses.clauses {M = M} {𝓤 = 𝓤})
fill-losses-complete M 𝓤 𝓛 mem run κs a g r s v w = by-facts M 𝓤 _ _ _ (λ p q. (cc, cc))

pub fill-edits-complete : Complete fill-edits.ended (λ M 𝓤. fill-edits.clauses {M = M} {𝓤 = 𝓤})
fill-edits-complete M 𝓤 𝓛 mem run κs a g r s v w = by-facts M 𝓤 _ _ _ (λ p q. (cc, cc))

pub fill-complete : Complete fill.ended (λ M 𝓤. fill.clauses {M = M} {𝓤 = 𝓤})
fill-complete M 𝓤 𝓛 mem run κs a g r s v w = by-facts M 𝓤 _ _ _ (λ p q. (cc, cc))
