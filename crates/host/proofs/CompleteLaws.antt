-- Every public function of the crate states its outcome completely, and so does every conversion.
-- Assumes nothing.
use mathlib.Core.Path.{refl, sym, ◌∙◌}
use Rattle.farm.proofs.Complete.{Complete, by-facts}
use Rattle.host.specs.contracts.numbers.byte_of as byte-of
use Rattle.host.specs.contracts.numbers.short_of as short-of
use Rattle.host.specs.contracts.numbers.SeatFromSeatNumber.from as seat-from
use Rattle.host.specs.contracts.numbers.TimeFromTimeNumber.from as time-from
use Rattle.host.specs.contracts.results.refusal_number as refusal-number
use Rattle.host.specs.contracts.results.HeaderToldFromResultHeaderRefusal.from as header-told-from
use Rattle.host.specs.contracts.results.LengthToldFromResultUsizeRefusal.from as length-told-from
use Rattle.host.specs.contracts.results.SeenToldFromResultSeenRefusal.from as seen-told-from
use Rattle.host.specs.contracts.results.AgreedToldFromResultAgreedRefusal.from as agreed-told-from
use Rattle.host.specs.contracts.results.StandingToldFromResultStandingRefusal.from as standing-told-from

pub byte-of-complete : Complete byte-of.ended (λ M 𝓤. byte-of.clauses {M = M} {𝓤 = 𝓤})
byte-of-complete M 𝓤 𝓛 mem run κs a g r s v w = by-facts M 𝓤 _ _ _ (λ p q. (p ∙ sym q, refl))

pub short-of-complete : Complete short-of.ended (λ M 𝓤. short-of.clauses {M = M} {𝓤 = 𝓤})
short-of-complete M 𝓤 𝓛 mem run κs a g r s v w = by-facts M 𝓤 _ _ _ (λ p q. (p ∙ sym q, refl))

pub seat-from-complete : Complete seat-from.ended (λ M 𝓤. seat-from.clauses {M = M} {𝓤 = 𝓤})
seat-from-complete M 𝓤 𝓛 mem run κs a g r s v w = by-facts M 𝓤 _ _ _ (λ p q. (p ∙ sym q, refl))

pub time-from-complete : Complete time-from.ended (λ M 𝓤. time-from.clauses {M = M} {𝓤 = 𝓤})
time-from-complete M 𝓤 𝓛 mem run κs a g r s v w = by-facts M 𝓤 _ _ _ (λ p q. (p ∙ sym q, refl))

pub refusal-number-complete : Complete refusal-number.ended (λ M 𝓤. refusal-number.clauses {M = M} {𝓤 = 𝓤})
refusal-number-complete M 𝓤 𝓛 mem run κs a g r s v w = by-facts M 𝓤 _ _ _ (λ p q. (p ∙ sym q, refl))

pub header-told-from-complete : Complete header-told-from.ended (λ M 𝓤. header-told-from.clauses {M = M} {𝓤 = 𝓤})
header-told-from-complete M 𝓤 𝓛 mem run κs a g r s v w = by-facts M 𝓤 _ _ _ (λ p q. (p ∙ sym q, refl))

pub length-told-from-complete : Complete length-told-from.ended (λ M 𝓤. length-told-from.clauses {M = M} {𝓤 = 𝓤})
length-told-from-complete M 𝓤 𝓛 mem run κs a g r s v w = by-facts M 𝓤 _ _ _ (λ p q. (p ∙ sym q, refl))

pub seen-told-from-complete : Complete seen-told-from.ended (λ M 𝓤. seen-told-from.clauses {M = M} {𝓤 = 𝓤})
seen-told-from-complete M 𝓤 𝓛 mem run κs a g r s v w = by-facts M 𝓤 _ _ _ (λ p q. (p ∙ sym q, refl))

pub agreed-told-from-complete : Complete agreed-told-from.ended (λ M 𝓤. agreed-told-from.clauses {M = M} {𝓤 = 𝓤})
agreed-told-from-complete M 𝓤 𝓛 mem run κs a g r s v w = by-facts M 𝓤 _ _ _ (λ p q. (p ∙ sym q, refl))

pub standing-told-from-complete : Complete standing-told-from.ended (λ M 𝓤. standing-told-from.clauses {M = M} {𝓤 = 𝓤})
standing-told-from-complete M 𝓤 𝓛 mem run κs a g r s v w = by-facts M 𝓤 _ _ _ (λ p q. (p ∙ sym q, refl))
