-- Every public function of the crate states its outcome completely: the answer, and every byte of the lent buffer.
-- Assumes nothing.
use Rattle.farm.proofs.Complete.{Complete, by-facts}
use Rattle.lines.specs.contracts.printing.header_line as header-line
use Rattle.lines.specs.contracts.printing.place_line as place-line
use Rattle.lines.specs.contracts.printing.over_line as over-line
use Rattle.lines.specs.contracts.printing.refused_line as refused-line

pub header-line-complete : Complete header-line.ended (λ M 𝓤. header-line.clauses {M = M} {𝓤 = 𝓤})
header-line-complete M 𝓤 𝓛 mem run κs a g r s v w = by-facts M 𝓤 _ _ _ (λ p q. (cc, cc))

pub place-line-complete : Complete place-line.ended (λ M 𝓤. place-line.clauses {M = M} {𝓤 = 𝓤})
place-line-complete M 𝓤 𝓛 mem run κs a g r s v w = by-facts M 𝓤 _ _ _ (λ p q. (cc, cc))

pub over-line-complete : Complete over-line.ended (λ M 𝓤. over-line.clauses {M = M} {𝓤 = 𝓤})
over-line-complete M 𝓤 𝓛 mem run κs a g r s v w = by-facts M 𝓤 _ _ _ (λ p q. (cc, cc))

pub refused-line-complete : Complete refused-line.ended (λ M 𝓤. refused-line.clauses {M = M} {𝓤 = 𝓤})
refused-line-complete M 𝓤 𝓛 mem run κs a g r s v w = by-facts M 𝓤 _ _ _ (λ p q. (cc, cc))
