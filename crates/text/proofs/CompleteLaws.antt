-- Every public function of the crate states its outcome completely.
-- Assumes nothing.
use Rattle.farm.proofs.Complete.{Complete, by-facts}
use Rattle.text.specs.contracts.words.put_word as put_word
use Rattle.text.specs.contracts.digits.put_number as put-number
use Rattle.text.specs.contracts.digits.put_signed as put-signed
use Rattle.text.specs.contracts.fields.put_field as put-field
use Rattle.text.specs.contracts.fields.put_signed_field as put-signed-field
use Rattle.text.specs.contracts.fields.put_named as put-named
use Rattle.text.specs.contracts.fields.put_core as put-core

pub put-word-complete : Complete put_word.ended (λ M 𝓤. put_word.clauses {M = M} {𝓤 = 𝓤})
put-word-complete M 𝓤 𝓛 mem run κs a g r s v w = by-facts M 𝓤 _ _ _ (λ p q. (cc, cc))

pub put-number-complete : Complete put-number.ended (λ M 𝓤. put-number.clauses {M = M} {𝓤 = 𝓤})
put-number-complete M 𝓤 𝓛 mem run κs a g r s v w = by-facts M 𝓤 _ _ _ (λ p q. (cc, cc))

pub put-signed-complete : Complete put-signed.ended (λ M 𝓤. put-signed.clauses {M = M} {𝓤 = 𝓤})
put-signed-complete M 𝓤 𝓛 mem run κs a g r s v w = by-facts M 𝓤 _ _ _ (λ p q. (cc, cc))

pub put-field-complete : Complete put-field.ended (λ M 𝓤. put-field.clauses {M = M} {𝓤 = 𝓤})
put-field-complete M 𝓤 𝓛 mem run κs a g r s v w = by-facts M 𝓤 _ _ _ (λ p q. (cc, cc))

pub put-signed-field-complete : Complete put-signed-field.ended (λ M 𝓤. put-signed-field.clauses {M = M} {𝓤 = 𝓤})
put-signed-field-complete M 𝓤 𝓛 mem run κs a g r s v w = by-facts M 𝓤 _ _ _ (λ p q. (cc, cc))

pub put-named-complete : Complete put-named.ended (λ M 𝓤. put-named.clauses {M = M} {𝓤 = 𝓤})
put-named-complete M 𝓤 𝓛 mem run κs a g r s v w = by-facts M 𝓤 _ _ _ (λ p q. (cc, cc))

pub put-core-complete : Complete put-core.ended (λ M 𝓤. put-core.clauses {M = M} {𝓤 = 𝓤})
put-core-complete M 𝓤 𝓛 mem run κs a g r s v w = by-facts M 𝓤 _ _ _ (λ p q. (cc, cc))
