-- Every public function of the crate states its outcome completely: the answer, and the table that it leaves.
-- Assumes nothing.
use mathlib.Core.Path.{◌≡◌}
use Rattle.farm.proofs.Complete.{Complete, by-facts}
use Rattle.live.specs.declared.answers.Step.{Step}
use Rattle.live_calls.specs.contracts.calls.open as open'
use Rattle.live_calls.specs.contracts.calls.add_round as add-round
use Rattle.live_calls.specs.contracts.calls.add_edit as add-edit
use Rattle.live_calls.specs.contracts.steps.opened as opened
use Rattle.live_calls.specs.contracts.steps.with_round as with-round
use Rattle.live_calls.specs.contracts.steps.with_edit as with-edit

-- ════ On the host's table ════

pub open-complete : Complete open'.ended (λ M 𝓤. open'.clauses {M = M} {𝓤 = 𝓤})
open-complete M 𝓤 𝓛 mem run κs a g r s v w = by-facts M 𝓤 _ _ _ (λ p q. (cc, cc))

pub add-round-complete : Complete add-round.ended (λ M 𝓤. add-round.clauses {M = M} {𝓤 = 𝓤})
add-round-complete M 𝓤 𝓛 mem run κs a g r s v w = by-facts M 𝓤 _ _ _ (λ p q. (cc, cc))

pub add-edit-complete : Complete add-edit.ended (λ M 𝓤. add-edit.clauses {M = M} {𝓤 = 𝓤})
add-edit-complete M 𝓤 𝓛 mem run κs a g r s v w = by-facts M 𝓤 _ _ _ (λ p q. (cc, cc))

-- ════ On a table by value ════

same_step : (r s : Step) → r.answer ≡ s.answer → r.table ≡ s.table → r ≡ s
same_step r s p q = λ i. record { answer = p i; table = q i }

pub opened-complete : Complete opened.ended (λ M 𝓤. opened.clauses {M = M} {𝓤 = 𝓤})
opened-complete M 𝓤 𝓛 mem run κs a g r s v w = by-facts M 𝓤 _ _ _ (λ p q. (same_step r s (cc) (cc), cc))

pub with-round-complete : Complete with-round.ended (λ M 𝓤. with-round.clauses {M = M} {𝓤 = 𝓤})
with-round-complete M 𝓤 𝓛 mem run κs a g r s v w = by-facts M 𝓤 _ _ _ (λ p q. (same_step r s (cc) (cc), cc))

pub with-edit-complete : Complete with-edit.ended (λ M 𝓤. with-edit.clauses {M = M} {𝓤 = 𝓤})
with-edit-complete M 𝓤 𝓛 mem run κs a g r s v w = by-facts M 𝓤 _ _ _ (λ p q. (same_step r s (cc) (cc), cc))
