-- Every public function of the crate states its outcome completely.
-- Assumes nothing.
use Rattle.farm.proofs.Complete.{Complete, by-facts}
use Rattle.parts.specs.contracts.header_reader.read_header as read-header
use Rattle.parts.specs.contracts.edit_reader.read_edit as read-edit
use Rattle.parts.specs.contracts.edit_reader.check_edits as check-edits
use Rattle.parts.specs.contracts.loss_reader.read_set as read_set
use Rattle.parts.specs.contracts.loss_reader.check_round as check-round
use Rattle.parts.specs.contracts.loss_reader.check_losses as check-losses

pub read-header-complete : Complete read-header.ended (λ M 𝓤. read-header.clauses {M = M} {𝓤 = 𝓤})
read-header-complete M 𝓤 𝓛 mem run κs a g r s v w = by-facts M 𝓤 _ _ _ (λ p q. (cc, cc))

pub read-edit-complete : Complete read-edit.ended (λ M 𝓤. read-edit.clauses {M = M} {𝓤 = 𝓤})
read-edit-complete M 𝓤 𝓛 mem run κs a g r s v w = by-facts M 𝓤 _ _ _ (λ p q. (cc, cc))

pub check-edits-complete : Complete check-edits.ended (λ M 𝓤. check-edits.clauses {M = M} {𝓤 = 𝓤})
check-edits-complete M 𝓤 𝓛 mem run κs a g r s v w = by-facts M 𝓤 _ _ _ (λ p q. (cc, cc))

pub read-set-complete : Complete read_set.ended (λ M 𝓤. read_set.clauses {M = M} {𝓤 = 𝓤})
read-set-complete M 𝓤 𝓛 mem run κs a g r s v w = by-facts M 𝓤 _ _ _ (λ p q. (cc, cc))

pub check-round-complete : Complete check-round.ended (λ M 𝓤. check-round.clauses {M = M} {𝓤 = 𝓤})
check-round-complete M 𝓤 𝓛 mem run κs a g r s v w = by-facts M 𝓤 _ _ _ (λ p q. (cc, cc))

pub check-losses-complete : Complete check-losses.ended (λ M 𝓤. check-losses.clauses {M = M} {𝓤 = 𝓤})
check-losses-complete M 𝓤 𝓛 mem run κs a g r s v w = by-facts M 𝓤 _ _ _ (λ p q. (cc, cc))
