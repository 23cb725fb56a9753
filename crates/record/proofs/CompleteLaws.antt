-- Every public function of the crate states its outcome completely.
-- Assumes nothing.
use Rattle.farm.proofs.Complete.{Complete, by-facts}
use Rattle.record.specs.contracts.changes.map_change as map-change
use Rattle.record.specs.contracts.changes.unmap_change as unmap-change
use Rattle.record.specs.contracts.edits.rises_to as rises-to
use Rattle.record.specs.contracts.edits.comes_after as comes-after
use Rattle.record.specs.contracts.losses.good_set as good-set

pub map-change-complete : Complete map-change.ended (λ M 𝓤. map-change.clauses {M = M} {𝓤 = 𝓤})
map-change-complete M 𝓤 𝓛 mem run κs a g r s v w = by-facts M 𝓤 _ _ _ (λ p q. (cc, cc))

pub unmap-change-complete : Complete unmap-change.ended (λ M 𝓤. unmap-change.clauses {M = M} {𝓤 = 𝓤})
unmap-change-complete M 𝓤 𝓛 mem run κs a g r s v w = by-facts M 𝓤 _ _ _ (λ p q. (cc, cc))

pub rises-to-complete : Complete rises-to.ended (λ M 𝓤. rises-to.clauses {M = M} {𝓤 = 𝓤})
rises-to-complete M 𝓤 𝓛 mem run κs a g r s v w = by-facts M 𝓤 _ _ _ (λ p q. (cc, cc))

pub comes-after-complete : Complete comes-after.ended (λ M 𝓤. comes-after.clauses {M = M} {𝓤 = 𝓤})
comes-after-complete M 𝓤 𝓛 mem run κs a g r s v w = by-facts M 𝓤 _ _ _ (λ p q. (cc, cc))

pub good-set-complete : Complete good-set.ended (λ M 𝓤. good-set.clauses {M = M} {𝓤 = 𝓤})
good-set-complete M 𝓤 𝓛 mem run κs a g r s v w = by-facts M 𝓤 _ _ _ (λ p q. (cc, cc))
