-- Every public function of the crate states its outcome completely: the result, the lists and every lent byte.
-- Assumes nothing.
use mathlib.Core.Path.{refl, sym, ◌∙◌}
use Rattle.farm.proofs.Complete.{Complete, by-facts}
use Rattle.host_bytes.specs.contracts.records.ricecrock_bytes_check as ricecrock-bytes-check
use Rattle.host_bytes.specs.contracts.records.ricecrock_bytes_read as ricecrock-bytes-read
use Rattle.host_bytes.specs.contracts.records.ricecrock_bytes_page as ricecrock-bytes-page
use Rattle.host_bytes.specs.contracts.asks.ricecrock_bytes_seen as ricecrock-bytes-seen
use Rattle.host_bytes.specs.contracts.asks.ricecrock_bytes_agreed as ricecrock-bytes-agreed
use Rattle.host_bytes.specs.contracts.asks.ricecrock_bytes_standing as ricecrock-bytes-standing
use Rattle.host_bytes.specs.contracts.asks.ricecrock_bytes_view as ricecrock-bytes-view
use Rattle.host_bytes.specs.contracts.asks.ricecrock_bytes_core as ricecrock-bytes-core
use Rattle.host_bytes.specs.contracts.asks.ricecrock_bytes_marks as ricecrock-bytes-marks

pub ricecrock-bytes-check-complete : Complete ricecrock-bytes-check.ended (λ M 𝓤. ricecrock-bytes-check.clauses {M = M} {𝓤 = 𝓤})
ricecrock-bytes-check-complete M 𝓤 𝓛 mem run κs a g r s v w = by-facts M 𝓤 _ _ _ (λ p q. (p ∙ sym q, refl))

pub ricecrock-bytes-read-complete : Complete ricecrock-bytes-read.ended (λ M 𝓤. ricecrock-bytes-read.clauses {M = M} {𝓤 = 𝓤})
ricecrock-bytes-read-complete M 𝓤 𝓛 mem run κs a g r s v w = by-facts M 𝓤 _ _ _ (λ p q. (p.answered ∙ sym q.answered, cc))

pub ricecrock-bytes-page-complete : Complete ricecrock-bytes-page.ended (λ M 𝓤. ricecrock-bytes-page.clauses {M = M} {𝓤 = 𝓤})
ricecrock-bytes-page-complete M 𝓤 𝓛 mem run κs a g r s v w = by-facts M 𝓤 _ _ _ (λ p q. (p.answered ∙ sym q.answered, cc))

pub ricecrock-bytes-seen-complete : Complete ricecrock-bytes-seen.ended (λ M 𝓤. ricecrock-bytes-seen.clauses {M = M} {𝓤 = 𝓤})
ricecrock-bytes-seen-complete M 𝓤 𝓛 mem run κs a g r s v w = by-facts M 𝓤 _ _ _ (λ p q. (p ∙ sym q, refl))

pub ricecrock-bytes-agreed-complete : Complete ricecrock-bytes-agreed.ended (λ M 𝓤. ricecrock-bytes-agreed.clauses {M = M} {𝓤 = 𝓤})
ricecrock-bytes-agreed-complete M 𝓤 𝓛 mem run κs a g r s v w = by-facts M 𝓤 _ _ _ (λ p q. (p ∙ sym q, refl))

pub ricecrock-bytes-standing-complete : Complete ricecrock-bytes-standing.ended (λ M 𝓤. ricecrock-bytes-standing.clauses {M = M} {𝓤 = 𝓤})
ricecrock-bytes-standing-complete M 𝓤 𝓛 mem run κs a g r s v w = by-facts M 𝓤 _ _ _ (λ p q. (p ∙ sym q, refl))

pub ricecrock-bytes-view-complete : Complete ricecrock-bytes-view.ended (λ M 𝓤. ricecrock-bytes-view.clauses {M = M} {𝓤 = 𝓤})
ricecrock-bytes-view-complete M 𝓤 𝓛 mem run κs a g r s v w = by-facts M 𝓤 _ _ _ (λ p q. (p.numbered ∙ sym q.numbered, cc))

pub ricecrock-bytes-core-complete : Complete ricecrock-bytes-core.ended (λ M 𝓤. ricecrock-bytes-core.clauses {M = M} {𝓤 = 𝓤})
ricecrock-bytes-core-complete M 𝓤 𝓛 mem run κs a g r s v w = by-facts M 𝓤 _ _ _ (λ p q. (p.numbered ∙ sym q.numbered, cc))

pub ricecrock-bytes-marks-complete : Complete ricecrock-bytes-marks.ended (λ M 𝓤. ricecrock-bytes-marks.clauses {M = M} {𝓤 = 𝓤})
ricecrock-bytes-marks-complete M 𝓤 𝓛 mem run κs a g r s v w = by-facts M 𝓤 _ _ _ (λ p q. (p.numbered ∙ sym q.numbered, cc))
