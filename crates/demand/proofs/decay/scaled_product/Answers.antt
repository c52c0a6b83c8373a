-- `decay::scaled_product` meets its contract: both sides of the division by S have 2 ^ 12 more.
use mathlib.Core.Path.{◌≡◌, ◌∙◌, ap}
use Prim.Native.Nat.{ℕ, ◌*◌, ◌/◌, ◌^◌}
use native.Mathlib.Nat.{mul-mul-mul_comm, mul-div-mul_right}
use lib.Pow.{pow_pos}
use Rattle.demand.proofs.decay.scaled_product.Goals as goal

scaled : (a b : ℕ) → a * 2 ^ 11 * (b * 2) / 2 ^ 64 ≡ a * b / 2 ^ 52
scaled a b = ap (λ (n : ℕ). n / 2 ^ 64) (mul-mul-mul_comm a (2 ^ 11) b 2) ∙ mul-div-mul_right (a * b) (2 ^ 52) (pow_pos 12)

pub returns : goal.returns
returns c = c.high_product.ensures ∙ scaled _ _
