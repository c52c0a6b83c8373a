-- Closed cases that hold the definitions of `specs/` to IEEE 754: each float is by its bits, and each row is computed.
use Rattle.std.proofs.Common.{◌≡◌, ℕ, Bool, true, List, [], ◌∷◌, map, refl}
use lib.Ieee.{Float, binary64, of_bits, to_bits}
use Rattle.float.specs.Integral.{ceil, round_away}
use Rattle.float.specs.Order.{minimum_number, maximum_number, total_less}

abbrev on : (Float → Float) → ℕ → ℕ
on f b = to_bits binary64 (f (of_bits binary64 b))

-- a row's inputs: 0.5, -0.5, +0, -0, 0.49999999999999994, 1.5, -2.5, 2^52 - 0.5, 2^53 + 2, the smallest subnormal, its negative, the largest subnormal, both infinities, a NaN
abbrev inputs : List ℕ
inputs =
    0x3fe0_0000_0000_0000
    ∷ 0xbfe0_0000_0000_0000
    ∷ 0
    ∷ 0x8000_0000_0000_0000
    ∷ 0x3fdf_ffff_ffff_ffff
    ∷ 0x3ff8_0000_0000_0000
    ∷ 0xc004_0000_0000_0000
    ∷ 0x432f_ffff_ffff_ffff
    ∷ 0x4340_0000_0000_0001
    ∷ 1
    ∷ 0x8000_0000_0000_0001
    ∷ 0x000f_ffff_ffff_ffff
    ∷ 0x7ff0_0000_0000_0000
    ∷ 0xfff0_0000_0000_0000
    ∷ 0x7ff8_0000_0000_0001
    ∷ []

-- 1, -0, +0, -0, 1, 2, -2, 2^52, itself, 1, -0, 1, both infinities, a NaN
ceil-row :
    map (on ceil) inputs
    ≡ 0x3ff0_0000_0000_0000
    ∷ 0x8000_0000_0000_0000
    ∷ 0
    ∷ 0x8000_0000_0000_0000
    ∷ 0x3ff0_0000_0000_0000
    ∷ 0x4000_0000_0000_0000
    ∷ 0xc000_0000_0000_0000
    ∷ 0x4330_0000_0000_0000
    ∷ 0x4340_0000_0000_0001
    ∷ 0x3ff0_0000_0000_0000
    ∷ 0x8000_0000_0000_0000
    ∷ 0x3ff0_0000_0000_0000
    ∷ 0x7ff0_0000_0000_0000
    ∷ 0xfff0_0000_0000_0000
    ∷ 0x7ff8_0000_0000_0000
    ∷ []
unfolding ceil of_bits to_bits
ceil-row = refl

-- 1, -1, +0, -0, +0, 2, -3, 2^52, itself, +0, -0, +0, both infinities, a NaN
round-row :
    map (on round_away) inputs
    ≡ 0x3ff0_0000_0000_0000
    ∷ 0xbff0_0000_0000_0000
    ∷ 0
    ∷ 0x8000_0000_0000_0000
    ∷ 0
    ∷ 0x4000_0000_0000_0000
    ∷ 0xc008_0000_0000_0000
    ∷ 0x4330_0000_0000_0000
    ∷ 0x4340_0000_0000_0001
    ∷ 0
    ∷ 0x8000_0000_0000_0000
    ∷ 0
    ∷ 0x7ff0_0000_0000_0000
    ∷ 0xfff0_0000_0000_0000
    ∷ 0x7ff8_0000_0000_0000
    ∷ []
unfolding round_away of_bits to_bits
round-row = refl

-- the lesser of +0 and each input, and the greater: a NaN loses, and -0 is below +0
min-row :
    map (on (minimum_number (of_bits binary64 0))) inputs
    ≡ 0
    ∷ 0xbfe0_0000_0000_0000
    ∷ 0
    ∷ 0x8000_0000_0000_0000
    ∷ 0
    ∷ 0
    ∷ 0xc004_0000_0000_0000
    ∷ 0
    ∷ 0
    ∷ 0
    ∷ 0x8000_0000_0000_0001
    ∷ 0
    ∷ 0
    ∷ 0xfff0_0000_0000_0000
    ∷ 0
    ∷ []
unfolding minimum_number of_bits to_bits
min-row = refl

max-row :
    map (on (maximum_number (of_bits binary64 0x8000_0000_0000_0000))) inputs
    ≡ 0x3fe0_0000_0000_0000
    ∷ 0x8000_0000_0000_0000
    ∷ 0
    ∷ 0x8000_0000_0000_0000
    ∷ 0x3fdf_ffff_ffff_ffff
    ∷ 0x3ff8_0000_0000_0000
    ∷ 0x8000_0000_0000_0000
    ∷ 0x432f_ffff_ffff_ffff
    ∷ 0x4340_0000_0000_0001
    ∷ 1
    ∷ 0x8000_0000_0000_0000
    ∷ 0x000f_ffff_ffff_ffff
    ∷ 0x7ff0_0000_0000_0000
    ∷ 0x8000_0000_0000_0000
    ∷ 0x8000_0000_0000_0000
    ∷ []
unfolding maximum_number of_bits to_bits
max-row = refl

-- IEEE 754 §5.10's order: a NaN with the sign set, -inf, -1, -0, +0, 1, +inf, a signalling NaN, a quiet one; each comes before the next
abbrev chain : ℕ → List ℕ → List Bool
chain a [] = []
chain a (b ∷ bs) = total_less a b ∷ chain b bs

order_row :
    chain
    0xfff8_0000_0000_0000
    (0xfff0_0000_0000_0000
    ∷ 0xbff0_0000_0000_0000
    ∷ 0x8000_0000_0000_0000
    ∷ 0
    ∷ 0x3ff0_0000_0000_0000
    ∷ 0x7ff0_0000_0000_0000
    ∷ 0x7ff0_0000_0000_0001
    ∷ 0x7ff8_0000_0000_0000
    ∷ [])
    ≡ true ∷ true ∷ true ∷ true ∷ true ∷ true ∷ true ∷ true ∷ []
unfolding total_less
order_row = refl
