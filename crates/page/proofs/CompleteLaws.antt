-- Every public function of the crate states its outcome completely: the answer, and every byte of the lent buffer.
-- Assumes nothing.
use Rattle.farm.proofs.Complete.{Complete, by-facts}
use Rattle.page.specs.contracts.whole.write_page as write-page

pub write-page-complete : Complete write-page.ended (λ M 𝓤. write-page.clauses {M = M} {𝓤 = 𝓤})
write-page-complete M 𝓤 𝓛 mem run κs a g r s v w = by-facts M 𝓤 _ _ _ (λ p q. (cc, cc))
