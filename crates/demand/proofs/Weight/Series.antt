-- P is near the sums of the series of exp(-r / c): the terms, and their sum, each with its error.
use mathlib.Core.Path.{◌≡◌, sym}
use Prim.Native.Nat.{ℕ, zero, suc, ◌+◌, ◌-◌, ◌*◌, ◌/◌, ◌^◌, ◌≤◌, ◌<◌}
use native.Mathlib.Nat.{le_trans, le_of_eq, le_of_lt, add-zero, mul-suc, mul-le-mul, mul-le-mul_left, mul-le-mul_right, pow-zero, pow-suc, sub-add_cancel, div-mul-le_self}
use native.Mathlib.Omega.{arith}
use lib.Dec.{lit<, lit≤}
use Rattle.demand.specs.Decay.Weight.{S, next, term, sum, series}
use Rattle.demand.specs.Decay.Exponential.{den, plus, minus}
use Rattle.demand.proofs.Weight.Division.{scaled-lt, quotient-next}
use Rattle.demand.proofs.Weight.Terms.{double, term-le, taken-le}
use Rattle.demand.proofs.Weight.Partial.{plus-odd, minus-odd, plus-even, minus-even}
use Rattle.demand.proofs.Weight.Bounds.{sums, term-low, term-high, minus-high, plus-high, minus-low, plus-low}

-- how far a term may fall short of the exact one, in parts
short : ℕ → ℕ
short zero = 0
short (suc k) = 3

short-side : (k : ℕ) → 1 + suc k + short k ≤ 3 * suc k
unfolding short
short-side zero = lit≤ tt
short-side (suc k) = omega arith

module _ (r c : ℕ) (h : r < c) where
  abbrev y : ℕ
  y = r * S / c

  c_pos : zero < c
  c_pos = omega arith

  y-lt : y < S
  y-lt = scaled-lt r S c h (lit< tt)

  y-le : y ≤ S
  y-le = le_of_lt y-lt

  -- each term, from both sides
  low : (k : ℕ) → term y k * den c k ≤ S * r ^ k
  unfolding next term den
  low zero = rw pow-zero (lit≤ tt)
  low (suc k) = rw (pow-suc r k) (term-low S y c r (term y k) (term y (suc k)) (suc k) (den c k) (r ^ k) (lit< tt) (div-mul-le_self (term y k * y) (suc k * S)) (div-mul-le_self (r * S) c) (low k))

  high : (k : ℕ) → S * r ^ k ≤ (term y k + short k) * den c k
  unfolding next term den short
  high zero = rw pow-zero (lit≤ tt)
  high (suc k) =
      rw (pow-suc r k)
      (term-high S y c r (term y k) (term y (suc k)) (suc k) (den c k) (r ^ k) (short k) 3 (lit< tt) (quotient-next (term y k * y) (suc k * S) (omega arith)) (quotient-next (r * S) c c_pos) (high k) (term-le y k y-le) (omega (arith, y-lt)) (short-side k))

  -- the sum of the terms 0 to 2 * m, from both sides
  upper : (m : ℕ) → S * plus r c (m + m) ≤ (sum y m + 3 * m) * den c (m + m) + S * minus r c (m + m)
  unfolding next term sum den short plus minus
  upper zero = lit≤ tt
  upper (suc m) =
      let k = suc (m + m) in
      let P = sum y m - term y k in
      let h₀ : S * plus r c (m + m) ≤ (P + term y k + 3 * m) * den c (m + m) + S * minus r c (m + m) = rw (sub-add_cancel (taken-le y m y-le)) (upper m) in
      rw (double m, mul-suc 3 m, plus-even r c m, minus-even r c m, plus-odd r c m, minus-odd r c m)
      (plus-high S (plus r c (m + m) * (k * c)) (minus r c (m + m) * (k * c) + r ^ k) (den c k) (suc k) c P (term y (suc k)) (r ^ suc k) (3 * m) 3
      (minus-high S (plus r c (m + m)) (minus r c (m + m)) (den c (m + m)) k c P (term y k) (r ^ k) (3 * m) h₀ (low k)) (high (suc k)))

  lower : (m : ℕ) → sum y m * den c (m + m) + S * minus r c (m + m) ≤ S * plus r c (m + m) + 3 * m * den c (m + m)
  unfolding next term sum den short plus minus
  lower zero = lit≤ tt
  lower (suc m) =
      let k = suc (m + m) in
      let P = sum y m - term y k in
      let h₀ : (P + term y k) * den c (m + m) + S * minus r c (m + m) ≤ S * plus r c (m + m) + 3 * m * den c (m + m) = rw (sub-add_cancel (taken-le y m y-le)) (lower m) in
      rw (double m, mul-suc 3 m, plus-even r c m, minus-even r c m, plus-odd r c m, minus-odd r c m)
      (plus-low S (plus r c (m + m) * (k * c)) (minus r c (m + m) * (k * c) + r ^ k) (den c k) (suc k) c P (term y (suc k)) (r ^ suc k) (3 * m + 3)
      (minus-low S (plus r c (m + m)) (minus r c (m + m)) (den c (m + m)) k c P (term y k) (r ^ k) (3 * m) 3 h₀ (high k)) (low (suc k)))

  -- the term k is at most 1 / k!
  tail-le : (k : ℕ) → den 1 k * r ^ k ≤ den c k
  unfolding den
  tail-le zero = rw pow-zero (lit≤ tt)
  tail-le (suc k) =
      rw (pow-suc r k)
      (le_trans (le_of_eq (regroup (den 1 k) (suc k) (r ^ k) r)) (mul-le-mul (tail-le k) (mul-le-mul_left (suc k) (le_of_lt h))))
    where
      regroup : (d n R r : ℕ) → d * (n * 1) * (R * r) ≡ d * R * (n * r)
      regroup d n R r = simp sums

  -- P
  pub sum-high : S * plus r c 20 ≤ (series y + 30) * den c 20 + S * minus r c 20
  unfolding next term sum series
  sum-high = upper 10

  pub sum_low : series y * den c 21 + S * minus r c 21 ≤ S * plus r c 21 + 31 * den c 21
  unfolding next term sum series den
  sum_low =
      rw (plus-odd r c 10, minus-odd r c 10)
      (minus-low S (plus r c 20) (minus r c 20) (den c 20) 21 c (series y) 0 (r ^ 21) 30 1 (rw add-zero (lower 10))
      (le_trans (mul-le-mul_right (r ^ 21) (lit≤ tt)) (le_trans (tail-le 21) (le_of_eq (sym (one-times (den c 21)))))))
    where
      one-times : (n : ℕ) → (0 + 1) * n ≡ n
      one-times n = omega arith
