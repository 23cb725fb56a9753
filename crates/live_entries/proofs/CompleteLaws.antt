-- Every public function of the crate states its outcome completely: the answer, and the lists that it leaves.
-- Assumes nothing.
use mathlib.Core.Path.{refl}
use Rattle.farm.proofs.Complete.{Complete, by-facts}
use Rattle.live_entries.specs.contracts.lists.put_sets as put-sets
use Rattle.live_entries.specs.contracts.lists.put_edit as put-edit
use Rattle.live_entries.specs.contracts.lists.last_held as last-held
use Rattle.live_entries.specs.contracts.table.put_edit as table-put-edit
use Rattle.live_entries.specs.contracts.table.last_held as table-last-held

pub put-sets-complete : Complete put-sets.ended (λ M 𝓤. put-sets.clauses {M = M} {𝓤 = 𝓤})
put-sets-complete M 𝓤 𝓛 mem run κs a g r s v w = by-facts M 𝓤 _ _ _ (λ p q. (refl, cc))

pub put-edit-complete : Complete put-edit.ended (λ M 𝓤. put-edit.clauses {M = M} {𝓤 = 𝓤})
put-edit-complete M 𝓤 𝓛 mem run κs a g r s v w = by-facts M 𝓤 _ _ _ (λ p q. (refl, cc))

pub last-held-complete : Complete last-held.ended (λ M 𝓤. last-held.clauses {M = M} {𝓤 = 𝓤})
last-held-complete M 𝓤 𝓛 mem run κs a g r s v w = by-facts M 𝓤 _ _ _ (λ p q. (cc, cc))

pub table-put-edit-complete : Complete table-put-edit.ended (λ M 𝓤. table-put-edit.clauses {M = M} {𝓤 = 𝓤})
table-put-edit-complete M 𝓤 𝓛 mem run κs a g r s v w = by-facts M 𝓤 _ _ _ (λ p q. (refl, cc))

pub table-last-held-complete : Complete table-last-held.ended (λ M 𝓤. table-last-held.clauses {M = M} {𝓤 = 𝓤})
table-last-held-complete M 𝓤 𝓛 mem run κs a g r s v w = by-facts M 𝓤 _ _ _ (λ p q. (cc, cc))
