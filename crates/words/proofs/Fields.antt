-- A field that stands at its place in a sum is what the quotient and the remainder take out again.
-- Assumes nothing.
use Rattle.std.proofs.Common.{◌≡◌, ℕ, ◌+◌, ◌*◌, ◌/◌, ◌%◌, ◌^◌, ◌<◌, sym, ap, ◌∙◌, div-add-mod', pow-add}
use native.Mathlib.Nat.{div-div-eq-div-mul}
use lib.Arith.{digits_div, digits_mod}
use Rattle.words.specs.Bits.{low, bits}

pub quotient : (w k q rest : ℕ) → w ≡ q * 2 ^ k + rest → rest < 2 ^ k → w / 2 ^ k ≡ q
quotient w k q rest e lt = ap (λ x. x / 2 ^ k) e ∙ digits_div q lt

-- f stands in the n bits from bit k on, p above it and rest below it
pub field : (w k n p f rest : ℕ) → w ≡ (p * 2 ^ n + f) * 2 ^ k + rest → f < 2 ^ n → rest < 2 ^ k → bits w k n ≡ f
field w k n p f rest e f_lt rest_lt = ap (λ x. x % 2 ^ n) (quotient w k (p * 2 ^ n + f) rest e rest_lt) ∙ digits_mod p f_lt

pub lowest : (w n p f : ℕ) → w ≡ p * 2 ^ n + f → f < 2 ^ n → low w n ≡ f
lowest w n p f e lt = ap (λ x. x % 2 ^ n) e ∙ digits_mod p lt

-- a word is the sum of its fields: the lowest one and what stands above it, and each further one likewise
pub ended : (w n : ℕ) → w ≡ w / 2 ^ n * 2 ^ n + low w n
ended w n = sym (div-add-mod' w (2 ^ n))

pub parted : (w k n : ℕ) → w / 2 ^ k ≡ w / 2 ^ (k + n) * 2 ^ n + bits w k n
parted w k n = sym (div-add-mod' (w / 2 ^ k) (2 ^ n)) ∙ ap (λ q. q * 2 ^ n + bits w k n) (div-div-eq-div-mul w (2 ^ k) (2 ^ n) ∙ ap (λ d. w / d) (sym (pow-add 2 k n)))
