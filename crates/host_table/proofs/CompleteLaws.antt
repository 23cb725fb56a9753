-- Every public function of the crate states its outcome completely: the result, the table and every lent byte.
-- Assumes nothing.
use mathlib.Core.Path.{refl, sym, ◌∙◌}
use Rattle.farm.proofs.Complete.{Complete, by-facts}
use Rattle.host_table.specs.contracts.calls.ricecrock_table_open as ricecrock-table-open
use Rattle.host_table.specs.contracts.calls.ricecrock_table_add_round as ricecrock-table-add-round
use Rattle.host_table.specs.contracts.calls.ricecrock_table_add_edit as ricecrock-table-add-edit
use Rattle.host_table.specs.contracts.asks.ricecrock_table_seen as ricecrock-table-seen
use Rattle.host_table.specs.contracts.asks.ricecrock_table_agreed as ricecrock-table-agreed
use Rattle.host_table.specs.contracts.asks.ricecrock_table_standing as ricecrock-table-standing
use Rattle.host_table.specs.contracts.asks.ricecrock_table_view as ricecrock-table-view
use Rattle.host_table.specs.contracts.asks.ricecrock_table_core as ricecrock-table-core
use Rattle.host_table.specs.contracts.asks.ricecrock_table_marks as ricecrock-table-marks
use Rattle.host_table.specs.contracts.asks.ricecrock_table_record as ricecrock-table-record

pub ricecrock-table-open-complete : Complete ricecrock-table-open.ended (λ M 𝓤. ricecrock-table-open.clauses {M = M} {𝓤 = 𝓤})
ricecrock-table-open-complete M 𝓤 𝓛 mem run κs a g r s v w = by-facts M 𝓤 _ _ _ (λ p q. (cc, cc))

pub ricecrock-table-add-round-complete : Complete ricecrock-table-add-round.ended (λ M 𝓤. ricecrock-table-add-round.clauses {M = M} {𝓤 = 𝓤})
ricecrock-table-add-round-complete M 𝓤 𝓛 mem run κs a g r s v w = by-facts M 𝓤 _ _ _ (λ p q. (cc, cc))

pub ricecrock-table-add-edit-complete : Complete ricecrock-table-add-edit.ended (λ M 𝓤. ricecrock-table-add-edit.clauses {M = M} {𝓤 = 𝓤})
ricecrock-table-add-edit-complete M 𝓤 𝓛 mem run κs a g r s v w = by-facts M 𝓤 _ _ _ (λ p q. (cc, cc))

pub ricecrock-table-seen-complete : Complete ricecrock-table-seen.ended (λ M 𝓤. ricecrock-table-seen.clauses {M = M} {𝓤 = 𝓤})
ricecrock-table-seen-complete M 𝓤 𝓛 mem run κs a g r s v w = by-facts M 𝓤 _ _ _ (λ p q. (p ∙ sym q, refl))

pub ricecrock-table-agreed-complete : Complete ricecrock-table-agreed.ended (λ M 𝓤. ricecrock-table-agreed.clauses {M = M} {𝓤 = 𝓤})
ricecrock-table-agreed-complete M 𝓤 𝓛 mem run κs a g r s v w = by-facts M 𝓤 _ _ _ (λ p q. (p ∙ sym q, refl))

pub ricecrock-table-standing-complete : Complete ricecrock-table-standing.ended (λ M 𝓤. ricecrock-table-standing.clauses {M = M} {𝓤 = 𝓤})
ricecrock-table-standing-complete M 𝓤 𝓛 mem run κs a g r s v w = by-facts M 𝓤 _ _ _ (λ p q. (p ∙ sym q, refl))

pub ricecrock-table-view-complete : Complete ricecrock-table-view.ended (λ M 𝓤. ricecrock-table-view.clauses {M = M} {𝓤 = 𝓤})
ricecrock-table-view-complete M 𝓤 𝓛 mem run κs a g r s v w = by-facts M 𝓤 _ _ _ (λ p q. (p.numbered ∙ sym q.numbered, cc))

pub ricecrock-table-core-complete : Complete ricecrock-table-core.ended (λ M 𝓤. ricecrock-table-core.clauses {M = M} {𝓤 = 𝓤})
ricecrock-table-core-complete M 𝓤 𝓛 mem run κs a g r s v w = by-facts M 𝓤 _ _ _ (λ p q. (p.numbered ∙ sym q.numbered, cc))

pub ricecrock-table-marks-complete : Complete ricecrock-table-marks.ended (λ M 𝓤. ricecrock-table-marks.clauses {M = M} {𝓤 = 𝓤})
ricecrock-table-marks-complete M 𝓤 𝓛 mem run κs a g r s v w = by-facts M 𝓤 _ _ _ (λ p q. (p.numbered ∙ sym q.numbered, cc))

pub ricecrock-table-record-complete : Complete ricecrock-table-record.ended (λ M 𝓤. ricecrock-table-record.clauses {M = M} {𝓤 = 𝓤})
ricecrock-table-record-complete M 𝓤 𝓛 mem run κs a g r s v w = by-facts M 𝓤 _ _ _ (λ p q. (p.answered ∙ sym q.answered, cc))
