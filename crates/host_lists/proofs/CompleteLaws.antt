-- Every public function of the crate states its outcome completely: the result and every lent byte.
-- Assumes nothing.
use mathlib.Core.Path.{refl, sym, ◌∙◌}
use Rattle.farm.proofs.Complete.{Complete, by-facts}
use Rattle.host_lists.specs.contracts.records.ricecrock_lists_judge as ricecrock-lists-judge
use Rattle.host_lists.specs.contracts.records.ricecrock_lists_length as ricecrock-lists-length
use Rattle.host_lists.specs.contracts.records.ricecrock_lists_write as ricecrock-lists-write
use Rattle.host_lists.specs.contracts.asks.ricecrock_lists_seen as ricecrock-lists-seen
use Rattle.host_lists.specs.contracts.asks.ricecrock_lists_agreed as ricecrock-lists-agreed
use Rattle.host_lists.specs.contracts.asks.ricecrock_lists_standing as ricecrock-lists-standing
use Rattle.host_lists.specs.contracts.asks.ricecrock_lists_view as ricecrock-lists-view
use Rattle.host_lists.specs.contracts.asks.ricecrock_lists_core as ricecrock-lists-core
use Rattle.host_lists.specs.contracts.asks.ricecrock_lists_marks as ricecrock-lists-marks

pub ricecrock-lists-judge-complete : Complete ricecrock-lists-judge.ended (λ M 𝓤. ricecrock-lists-judge.clauses {M = M} {𝓤 = 𝓤})
ricecrock-lists-judge-complete M 𝓤 𝓛 mem run κs a g r s v w = by-facts M 𝓤 _ _ _ (λ p q. (p ∙ sym q, refl))

pub ricecrock-lists-length-complete : Complete ricecrock-lists-length.ended (λ M 𝓤. ricecrock-lists-length.clauses {M = M} {𝓤 = 𝓤})
ricecrock-lists-length-complete M 𝓤 𝓛 mem run κs a g r s v w = by-facts M 𝓤 _ _ _ (λ p q. (p ∙ sym q, refl))

pub ricecrock-lists-write-complete : Complete ricecrock-lists-write.ended (λ M 𝓤. ricecrock-lists-write.clauses {M = M} {𝓤 = 𝓤})
ricecrock-lists-write-complete M 𝓤 𝓛 mem run κs a g r s v w = by-facts M 𝓤 _ _ _ (λ p q. (p.answered ∙ sym q.answered, cc))

pub ricecrock-lists-seen-complete : Complete ricecrock-lists-seen.ended (λ M 𝓤. ricecrock-lists-seen.clauses {M = M} {𝓤 = 𝓤})
ricecrock-lists-seen-complete M 𝓤 𝓛 mem run κs a g r s v w = by-facts M 𝓤 _ _ _ (λ p q. (p ∙ sym q, refl))

pub ricecrock-lists-agreed-complete : Complete ricecrock-lists-agreed.ended (λ M 𝓤. ricecrock-lists-agreed.clauses {M = M} {𝓤 = 𝓤})
ricecrock-lists-agreed-complete M 𝓤 𝓛 mem run κs a g r s v w = by-facts M 𝓤 _ _ _ (λ p q. (p ∙ sym q, refl))

pub ricecrock-lists-standing-complete : Complete ricecrock-lists-standing.ended (λ M 𝓤. ricecrock-lists-standing.clauses {M = M} {𝓤 = 𝓤})
ricecrock-lists-standing-complete M 𝓤 𝓛 mem run κs a g r s v w = by-facts M 𝓤 _ _ _ (λ p q. (p ∙ sym q, refl))

pub ricecrock-lists-view-complete : Complete ricecrock-lists-view.ended (λ M 𝓤. ricecrock-lists-view.clauses {M = M} {𝓤 = 𝓤})
ricecrock-lists-view-complete M 𝓤 𝓛 mem run κs a g r s v w = by-facts M 𝓤 _ _ _ (λ p q. (p.numbered ∙ sym q.numbered, cc))

pub ricecrock-lists-core-complete : Complete ricecrock-lists-core.ended (λ M 𝓤. ricecrock-lists-core.clauses {M = M} {𝓤 = 𝓤})
ricecrock-lists-core-complete M 𝓤 𝓛 mem run κs a g r s v w = by-facts M 𝓤 _ _ _ (λ p q. (p.numbered ∙ sym q.numbered, cc))

pub ricecrock-lists-marks-complete : Complete ricecrock-lists-marks.ended (λ M 𝓤. ricecrock-lists-marks.clauses {M = M} {𝓤 = 𝓤})
ricecrock-lists-marks-complete M 𝓤 𝓛 mem run κs a g r s v w = by-facts M 𝓤 _ _ _ (λ p q. (p.numbered ∙ sym q.numbered, cc))
