-- What std's methods on floats answer, in the words of `specs/`.
use Rattle.std.proofs.Common.{◌≡◌, ℕ, ◌+◌, ◌-◌, ◌*◌, ◌/◌, ◌<◌, true, false, not, nat_lt, refl, sym, ap, arith}
use Rattle.std.specs.Float.{round_with, ratio_floor, ratio_ceil, ratio_round_half_up, float_is_finite, is_sign_negative}
use Rattle.std.specs.Ordering.{nat_cmp}
use Rattle.std.proofs.lemmas.Bool.Decides.{nat_tests}
use lib.Ieee.{Float, nan, inf, fin, binary64, up, down, round}
use lib.Ieee.Fits.{down_pos}
use lib.Ieee.Scale.{finite}
use mathlib.Core.Bool.{false≢true}
use Rattle.float.specs.Integral.{ceil, round_away}
use Rattle.float.specs.Order.{negative, ordering}
use Rattle.float.specs.Magnitude.{magnitude}

rounded_up : (n d : ℕ) → 0 < d → n + d - 1 ≡ n + (d - 1)
rounded_up n d h = omega arith

pub ceil_is : (x : Float) → round_with ratio_ceil ratio_floor binary64 x ≡ ceil x
unfolding round_with ceil
ceil_is nan = refl
ceil_is (inf s) = refl
ceil_is (fin true m e) = refl
ceil_is (fin false m e) = ap (λ (n : ℕ). round binary64 false (n / down e) 1) (rounded_up (m * up e) (down e) (down_pos e))

pub round_is : (x : Float) → round_with ratio_round_half_up ratio_round_half_up binary64 x ≡ round_away x
unfolding round_with round_away
round_is nan = refl
round_is (inf s) = refl
round_is (fin true m e) = refl
round_is (fin false m e) = refl

pub finite_is : (x : Float) → float_is_finite x ≡ finite x
unfolding float_is_finite
finite_is nan = refl
finite_is (inf s) = refl
finite_is (fin s m e) = refl

pub negative_is : (x : Float) → is_sign_negative x ≡ negative x
unfolding is_sign_negative
negative_is nan = refl
negative_is (inf s) = refl
negative_is (fin s m e) = refl

pub magnitude_is : (x : Float) → float_is_finite x ≡ true → not (is_sign_negative x) ≡ magnitude x
unfolding float_is_finite is_sign_negative
magnitude_is nan h = absurd (false≢true h)
magnitude_is (inf s) h = absurd (false≢true h)
magnitude_is (fin s m e) h = refl

pub no_magnitude : (x : Float) → float_is_finite x ≡ false → magnitude x ≡ false
unfolding float_is_finite
no_magnitude nan h = refl
no_magnitude (inf s) h = refl
no_magnitude (fin s m e) h = absurd (false≢true (sym h))

pub ordering_is : (x y : ℕ) → nat_cmp x y ≡ ordering (nat_lt x y) (nat_lt y x)
ordering_is x y = grind (arith, nat_tests)
