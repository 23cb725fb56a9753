-- Every public function of the crate states its outcome completely.
-- Assumes nothing.
use mathlib.Core.Path.{sym, ◌∙◌}
use Rattle.farm.proofs.Complete.{Complete, by-facts}
use Rattle.construction.specs.contracts.known.known_in as known_in
use Rattle.construction.specs.contracts.known.known_of as Known-of
use Rattle.construction.specs.contracts.known.known_sets as known-sets
use Rattle.construction.specs.contracts.losers.losers_by as losers-by
use Rattle.construction.specs.contracts.losers.is_loser as is-loser
use Rattle.construction.specs.contracts.settled.settle as settle

-- ════ Known sets and losers ════

pub known-in-complete : Complete known_in.ended (λ M 𝓤. known_in.clauses {M = M} {𝓤 = 𝓤})
known-in-complete M 𝓤 𝓛 mem run κs a g r s v w = by-facts M 𝓤 _ _ _ (λ p q. (cc, cc))

pub known-of-complete : Complete Known-of.ended (λ M 𝓤. Known-of.clauses {M = M} {𝓤 = 𝓤})
known-of-complete M 𝓤 𝓛 mem run κs a g r s v w = by-facts M 𝓤 _ _ _ (λ p q. (cc, cc))

pub known-sets-complete : Complete known-sets.ended (λ M 𝓤. known-sets.clauses {M = M} {𝓤 = 𝓤})
known-sets-complete M 𝓤 𝓛 mem run κs a g r s v w = by-facts M 𝓤 _ _ _ (λ p q. (λ i. record { of = (p ∙ sym q) i }, cc))

pub losers-by-complete : Complete losers-by.ended (λ M 𝓤. losers-by.clauses {M = M} {𝓤 = 𝓤})
losers-by-complete M 𝓤 𝓛 mem run κs a g r s v w = by-facts M 𝓤 _ _ _ (λ p q. (cc, cc))

pub is-loser-complete : Complete is-loser.ended (λ M 𝓤. is-loser.clauses {M = M} {𝓤 = 𝓤})
is-loser-complete M 𝓤 𝓛 mem run κs a g r s v w = by-facts M 𝓤 _ _ _ (λ p q. (cc, cc))

-- ════ The settled answer ════

pub settle-complete : Complete settle.ended (λ M 𝓤. settle.clauses {M = M} {𝓤 = 𝓤})
settle-complete M 𝓤 𝓛 mem run κs a g r s v w = by-facts M 𝓤 _ _ _ (λ p q. (cc, cc))
