-- Every public function of the crate states its outcome completely: the answer, and every lent byte.
-- Assumes nothing.
use mathlib.Core.Path.{refl, sym, ◌∙◌}
use Rattle.farm.proofs.Complete.{Complete, by-facts}
use Rattle.live_questions.specs.contracts.carrier.check_table as check-table
use Rattle.live_questions.specs.contracts.asks.seen as seen
use Rattle.live_questions.specs.contracts.asks.agreed as agreed
use Rattle.live_questions.specs.contracts.asks.standing as standing
use Rattle.live_questions.specs.contracts.asks.view as view
use Rattle.live_questions.specs.contracts.asks.core as core
use Rattle.live_questions.specs.contracts.asks.marks as marks
use Rattle.live_questions.specs.contracts.asks.write_out as write-out

pub check-table-complete : Complete check-table.ended (λ M 𝓤. check-table.clauses {M = M} {𝓤 = 𝓤})
check-table-complete M 𝓤 𝓛 mem run κs a g r s v w = by-facts M 𝓤 _ _ _ (λ p q. (p.told ∙ sym q.told, refl))

pub seen-complete : Complete seen.ended (λ M 𝓤. seen.clauses {M = M} {𝓤 = 𝓤})
seen-complete M 𝓤 𝓛 mem run κs a g r s v w = by-facts M 𝓤 _ _ _ (λ p q. (p ∙ sym q, refl))

pub agreed-complete : Complete agreed.ended (λ M 𝓤. agreed.clauses {M = M} {𝓤 = 𝓤})
agreed-complete M 𝓤 𝓛 mem run κs a g r s v w = by-facts M 𝓤 _ _ _ (λ p q. (p ∙ sym q, refl))

pub standing-complete : Complete standing.ended (λ M 𝓤. standing.clauses {M = M} {𝓤 = 𝓤})
standing-complete M 𝓤 𝓛 mem run κs a g r s v w = by-facts M 𝓤 _ _ _ (λ p q. (p ∙ sym q, refl))

pub view-complete : Complete view.ended (λ M 𝓤. view.clauses {M = M} {𝓤 = 𝓤})
view-complete M 𝓤 𝓛 mem run κs a g r s v w = by-facts M 𝓤 _ _ _ (λ p q. (p.answered ∙ sym q.answered, cc))

pub core-complete : Complete core.ended (λ M 𝓤. core.clauses {M = M} {𝓤 = 𝓤})
core-complete M 𝓤 𝓛 mem run κs a g r s v w = by-facts M 𝓤 _ _ _ (λ p q. (p.answered ∙ sym q.answered, cc))

pub marks-complete : Complete marks.ended (λ M 𝓤. marks.clauses {M = M} {𝓤 = 𝓤})
marks-complete M 𝓤 𝓛 mem run κs a g r s v w = by-facts M 𝓤 _ _ _ (λ p q. (p.answered ∙ sym q.answered, cc))

pub write-out-complete : Complete write-out.ended (λ M 𝓤. write-out.clauses {M = M} {𝓤 = 𝓤})
write-out-complete M 𝓤 𝓛 mem run κs a g r s v w = by-facts M 𝓤 _ _ _ (λ p q. (cc, cc))
