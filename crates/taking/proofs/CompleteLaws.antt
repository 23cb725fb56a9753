-- Every public function of the crate states its outcome completely.
-- Assumes nothing.
use mathlib.Core.Path.{refl, sym, ◌∙◌}
use Rattle.farm.proofs.Complete.{Complete, by-facts}
use Rattle.taking.specs.contracts.reads.after_read as after_read

pub after-read-complete : Complete after_read.ended (λ M 𝓤. after_read.clauses {M = M} {𝓤 = 𝓤})
after-read-complete M 𝓤 𝓛 mem run κs a g r s v w = by-facts M 𝓤 _ _ _ (λ p q. (p ∙ sym q, refl))
