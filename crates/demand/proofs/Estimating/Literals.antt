-- The float literals of the code are whole numbers.
use mathlib.Core.Path.{◌≡◌, refl}
use lib.Ieee.{binary64, of_bits, of_int}
use Rattle.demand.specs.Estimators.Estimator.{whole}
use Rattle.demand.specs.Decay.Weight.{S}

pub zero_is : of_bits binary64 0 ≡ whole 0
unfolding of_bits of_int
zero_is = refl

pub one-is : of_bits binary64 0x3ff0_0000_0000_0000 ≡ whole 1
unfolding of_bits of_int
one-is = refl

pub billion-is : of_bits binary64 0x41cd_cd65_0000_0000 ≡ whole 1_000_000_000
unfolding of_bits of_int
billion-is = refl

pub parts_is : of_bits binary64 0x4330_0000_0000_0000 ≡ whole S
unfolding of_bits of_int
parts_is = refl
