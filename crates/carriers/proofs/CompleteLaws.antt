-- Every public function of the crate states its outcome completely.
-- Assumes nothing.
use mathlib.Core.Path.{refl, sym, ◌∙◌}
use Rattle.farm.proofs.Complete.{Complete, by-facts}
use Rattle.carriers.specs.contracts.carried.seen_in as seen-in
use Rattle.carriers.specs.contracts.carried.agreed_in as agreed-in
use Rattle.carriers.specs.contracts.carried.standing_in as standing-in
use Rattle.carriers.specs.contracts.carried.view_in as view_in
use Rattle.carriers.specs.contracts.carried.core_in as core-in
use Rattle.carriers.specs.contracts.carried.marks_in as marks-in

pub seen-in-complete : Complete seen-in.ended (λ M 𝓤. seen-in.clauses {M = M} {𝓤 = 𝓤})
seen-in-complete M 𝓤 𝓛 mem run κs a g r s v w = by-facts M 𝓤 _ _ _ (λ p q. (p ∙ sym q, refl))

pub agreed-in-complete : Complete agreed-in.ended (λ M 𝓤. agreed-in.clauses {M = M} {𝓤 = 𝓤})
agreed-in-complete M 𝓤 𝓛 mem run κs a g r s v w = by-facts M 𝓤 _ _ _ (λ p q. (p ∙ sym q, refl))

pub standing-in-complete : Complete standing-in.ended (λ M 𝓤. standing-in.clauses {M = M} {𝓤 = 𝓤})
standing-in-complete M 𝓤 𝓛 mem run κs a g r s v w = by-facts M 𝓤 _ _ _ (λ p q. (p ∙ sym q, refl))

pub view-in-complete : Complete view_in.ended (λ M 𝓤. view_in.clauses {M = M} {𝓤 = 𝓤})
view-in-complete M 𝓤 𝓛 mem run κs a g r s v w = by-facts M 𝓤 _ _ _ (λ p q. (p.answered ∙ sym q.answered, cc))

pub core-in-complete : Complete core-in.ended (λ M 𝓤. core-in.clauses {M = M} {𝓤 = 𝓤})
core-in-complete M 𝓤 𝓛 mem run κs a g r s v w = by-facts M 𝓤 _ _ _ (λ p q. (p.answered ∙ sym q.answered, cc))

pub marks-in-complete : Complete marks-in.ended (λ M 𝓤. marks-in.clauses {M = M} {𝓤 = 𝓤})
marks-in-complete M 𝓤 𝓛 mem run κs a g r s v w = by-facts M 𝓤 _ _ _ (λ p q. (p.answered ∙ sym q.answered, cc))
