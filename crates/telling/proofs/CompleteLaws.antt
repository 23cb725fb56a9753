-- Every public function of the crate states its outcome completely.
-- Assumes nothing.
use mathlib.Core.Path.{refl, sym, ◌∙◌}
use Rattle.farm.proofs.Complete.{Complete, by-facts}
use Rattle.telling.specs.contracts.times.put_times as put-times
use Rattle.telling.specs.contracts.marks.put_marks as put-marks
use Rattle.telling.specs.contracts.marks.count_marks as count-marks

pub put-times-complete : Complete put-times.ended (λ M 𝓤. put-times.clauses {M = M} {𝓤 = 𝓤})
put-times-complete M 𝓤 𝓛 mem run κs a g r s v w = by-facts M 𝓤 _ _ _ (λ p q. (refl, cc))

pub put-marks-complete : Complete put-marks.ended (λ M 𝓤. put-marks.clauses {M = M} {𝓤 = 𝓤})
put-marks-complete M 𝓤 𝓛 mem run κs a g r s v w = by-facts M 𝓤 _ _ _ (λ p q. (refl, cc))

pub count-marks-complete : Complete count-marks.ended (λ M 𝓤. count-marks.clauses {M = M} {𝓤 = 𝓤})
count-marks-complete M 𝓤 𝓛 mem run κs a g r s v w = by-facts M 𝓤 _ _ _ (λ p q. (p ∙ sym q, refl))
