-- Every public function of the crate states its outcome completely.
-- Assumes nothing.
use Rattle.farm.proofs.Complete.{Complete, by-facts}
use Rattle.live_table.specs.contracts.sound.judge_table as judge-table

pub judge-table-complete : Complete judge-table.ended (λ M 𝓤. judge-table.clauses {M = M} {𝓤 = 𝓤})
judge-table-complete M 𝓤 𝓛 mem run κs a g r s v w = by-facts M 𝓤 _ _ _ (λ p q. (cc, cc))
