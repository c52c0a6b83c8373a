-- `demand::folded_by` meets its contract.
use mathlib.Core.Path.{◌≡◌}
use lib.Ieee.{Float, binary64, of_bits, add, sub, mul, div}
use Prim.Native.Nat.{ℕ}
use Rattle.demand.specs.Estimators.Estimator.{whole, folded_by}
use Rattle.demand.proofs.Estimating.Literals.{one-is, billion-is}
use Rattle.demand.proofs.demand.folded_by.Goals as goal

worked-out : (a rate : Float) (n e : ℕ) (x y : Float) → x ≡ whole e → y ≡ whole n
    → add binary64 (mul binary64 a (div binary64 y (div binary64 x (of_bits binary64 0x41cd_cd65_0000_0000)))) (mul binary64 (sub binary64 (of_bits binary64 0x3ff0_0000_0000_0000) a) rate) ≡ folded_by a rate n e
unfolding folded_by
worked-out a rate n e x y ex ey =
    λ i. add binary64 (mul binary64 a (div binary64 (ey i) (div binary64 (ex i) (billion-is i)))) (mul binary64 (sub binary64 (one-is i) a) rate)

pub returns : goal.returns
returns c = worked-out _ _ _ _ _ _ c.u64_to_f64-elapsed_secs.ensures c.u64_to_f64.ensures
