-- IEEE 754's roundToIntegral operations on binary64, over the values of `lib.Ieee`: `fin s m e` is m * 2 ^ e, that is m * up e / down e, with the sign s.
use Rattle.std.specs.Prelude.{◌+◌, ◌-◌, ◌*◌, ◌/◌, cond, Float}
use Rattle.std.specs.Float.{nan, inf, fin, binary64}
use Rattle.std.specs.Float.Ieee.{up, down, round}

-- IEEE 754 §5.9, roundToIntegralTowardPositive: the least whole number that is no less than x, with x's sign.
-- The whole number is a value of the format, so `round` only writes it.
unfoldable pub ceil : Float → Float
unfolding round
ceil nan = nan
ceil (inf s) = inf s
ceil (fin s m e) = round binary64 s (cond s (m * up e / down e) ((m * up e + (down e - 1)) / down e)) 1

-- IEEE 754 §5.9, roundToIntegralTiesToAway: the whole number nearest to x, the larger in size where two are as near, with x's sign.
unfoldable pub round_away : Float → Float
unfolding round
round_away nan = nan
round_away (inf s) = inf s
round_away (fin s m e) = round binary64 s ((2 * (m * up e) + down e) / (2 * down e)) 1
