-- Every public function of the crate states its outcome completely.
-- Assumes nothing.
use mathlib.Core.Path.{refl, sym, ◌∙◌}
use Rattle.farm.proofs.Complete.{Complete, by-facts}
use Rattle.questions.specs.contracts.views.is_place as is-place
use Rattle.questions.specs.contracts.views.ask_view_into as ask-view-into
use Rattle.questions.specs.contracts.views.ask_seen as ask-seen
use Rattle.questions.specs.contracts.views.ask_standing as ask-standing
use Rattle.questions.specs.contracts.cores.ask_core_into as ask-core-into
use Rattle.questions.specs.contracts.marks.ask_marks as ask-marks
use Rattle.questions.specs.contracts.agreed.ask_agreed as ask-agreed

pub is-place-complete : Complete is-place.ended (λ M 𝓤. is-place.clauses {M = M} {𝓤 = 𝓤})
is-place-complete M 𝓤 𝓛 mem run κs a g r s v w = by-facts M 𝓤 _ _ _ (λ p q. (p ∙ sym q, refl))

pub ask-view-into-complete : Complete ask-view-into.ended (λ M 𝓤. ask-view-into.clauses {M = M} {𝓤 = 𝓤})
ask-view-into-complete M 𝓤 𝓛 mem run κs a g r s v w = by-facts M 𝓤 _ _ _ (λ p q. (p.answered ∙ sym q.answered, cc))

pub ask-seen-complete : Complete ask-seen.ended (λ M 𝓤. ask-seen.clauses {M = M} {𝓤 = 𝓤})
ask-seen-complete M 𝓤 𝓛 mem run κs a g r s v w = by-facts M 𝓤 _ _ _ (λ p q. (p ∙ sym q, refl))

pub ask-standing-complete : Complete ask-standing.ended (λ M 𝓤. ask-standing.clauses {M = M} {𝓤 = 𝓤})
ask-standing-complete M 𝓤 𝓛 mem run κs a g r s v w = by-facts M 𝓤 _ _ _ (λ p q. (p ∙ sym q, refl))

pub ask-core-into-complete : Complete ask-core-into.ended (λ M 𝓤. ask-core-into.clauses {M = M} {𝓤 = 𝓤})
ask-core-into-complete M 𝓤 𝓛 mem run κs a g r s v w = by-facts M 𝓤 _ _ _ (λ p q. (p.answered ∙ sym q.answered, cc))

pub ask-marks-complete : Complete ask-marks.ended (λ M 𝓤. ask-marks.clauses {M = M} {𝓤 = 𝓤})
ask-marks-complete M 𝓤 𝓛 mem run κs a g r s v w = by-facts M 𝓤 _ _ _ (λ p q. (p.answered ∙ sym q.answered, cc))

pub ask-agreed-complete : Complete ask-agreed.ended (λ M 𝓤. ask-agreed.clauses {M = M} {𝓤 = 𝓤})
ask-agreed-complete M 𝓤 𝓛 mem run κs a g r s v w = by-facts M 𝓤 _ _ _ (λ p q. (p ∙ sym q, refl))
