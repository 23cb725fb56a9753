-- Every public function of the crate states its outcome completely.
-- Assumes nothing.
use mathlib.Core.Path.{sym, ◌∙◌}
use Rattle.farm.proofs.Complete.{Complete, by-facts}
use Rattle.viewing.specs.contracts.losses.loss_set as loss-set
use Rattle.viewing.specs.contracts.losses.was_lost as was-lost
use Rattle.viewing.specs.contracts.sets.with_seat as with-seat
use Rattle.viewing.specs.contracts.views.views_at as views-at
use Rattle.viewing.specs.contracts.views.seat_view as seat-view
use Rattle.viewing.specs.contracts.views.view_of as view_of
use Rattle.viewing.specs.contracts.views.view_of_set as view-of-set

-- ════ Losses and sets ════

pub loss-set-complete : Complete loss-set.ended (λ M 𝓤. loss-set.clauses {M = M} {𝓤 = 𝓤})
loss-set-complete M 𝓤 𝓛 mem run κs a g r s v w = by-facts M 𝓤 _ _ _ (λ p q. (cc, cc))

pub was-lost-complete : Complete was-lost.ended (λ M 𝓤. was-lost.clauses {M = M} {𝓤 = 𝓤})
was-lost-complete M 𝓤 𝓛 mem run κs a g r s v w = by-facts M 𝓤 _ _ _ (λ p q. (cc, cc))

pub with-seat-complete : Complete with-seat.ended (λ M 𝓤. with-seat.clauses {M = M} {𝓤 = 𝓤})
with-seat-complete M 𝓤 𝓛 mem run κs a g r s v w = by-facts M 𝓤 _ _ _ (λ p q. (cc, cc))

-- ════ Views ════

pub views-at-complete : Complete views-at.ended (λ M 𝓤. views-at.clauses {M = M} {𝓤 = 𝓤})
views-at-complete M 𝓤 𝓛 mem run κs a g r s v w = by-facts M 𝓤 _ _ _ (λ p q. (λ i. record { of = (p ∙ sym q) i }, cc))

pub seat-view-complete : Complete seat-view.ended (λ M 𝓤. seat-view.clauses {M = M} {𝓤 = 𝓤})
seat-view-complete M 𝓤 𝓛 mem run κs a g r s v w = by-facts M 𝓤 _ _ _ (λ p q. (λ i. record { of = (p ∙ sym q) i }, cc))

pub view-of-complete : Complete view_of.ended (λ M 𝓤. view_of.clauses {M = M} {𝓤 = 𝓤})
view-of-complete M 𝓤 𝓛 mem run κs a g r s v w = by-facts M 𝓤 _ _ _ (λ p q. (λ i. record { of = (p ∙ sym q) i }, cc))

pub view-of-set-complete : Complete view-of-set.ended (λ M 𝓤. view-of-set.clauses {M = M} {𝓤 = 𝓤})
view-of-set-complete M 𝓤 𝓛 mem run κs a g r s v w = by-facts M 𝓤 _ _ _ (λ p q. (λ i. record { of = (p ∙ sym q) i }, cc))
