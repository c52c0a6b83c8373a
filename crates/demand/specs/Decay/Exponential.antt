-- 01: 'D lies within 64 of S × exp(−e ÷ c) for c above 0, the exponential taken as its series between whole-number bounds'.
use Rattle.std.specs.Prelude.{Bool, false, not, cond, ℕ, zero, suc, ◌+◌, ◌*◌, ◌^◌, ◌≤◌}

-- c ^ n * n!
unfoldable pub den : (c n : ℕ) → ℕ
den c zero = 1
den c (suc n) = den c n * (suc n * c)

-- an odd number
unfoldable pub odd : ℕ → Bool
odd zero = false
odd (suc n) = not (odd n)

-- The series of exp(-x) for x = e / c is 1 - x + x ^ 2 / 2! - x ^ 3 / 3! + .. Its sum up to the term n, times den c n, is plus e c n - minus e c n:
-- `plus` holds the terms of even index, `minus` those of odd index.
unfoldable pub plus : (e c n : ℕ) → ℕ
plus e c zero = 1
plus e c (suc n) = plus e c n * (suc n * c) + cond (odd (suc n)) 0 (e ^ suc n)

unfoldable pub minus : (e c n : ℕ) → ℕ
minus e c zero = 0
minus e c (suc n) = minus e c n * (suc n * c) + cond (odd (suc n)) (e ^ suc n) 0

-- d is within z of s * exp(-e / c): with a n the sum up to the term n, d - z ≤ s * a n for each even n, and s * a n ≤ d + z for each odd n.
-- The sums up to an even term are at least exp(-e / c), those up to an odd term at most, and both come as near to it as one likes;
-- so this says d - z ≤ s * exp(-e / c) ≤ d + z.
pub record Within (z d s e c : ℕ) : Type 0 where
  pub not_above : (n : ℕ) → d * den c (n + n) + s * minus e c (n + n) ≤ s * plus e c (n + n) + z * den c (n + n)
  pub not_below : (n : ℕ) → s * plus e c (suc (n + n)) ≤ (d + z) * den c (suc (n + n)) + s * minus e c (suc (n + n))
