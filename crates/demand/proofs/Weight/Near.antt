-- D lies within 64 of S * exp(-e / c).
use mathlib.Core.Path.{◌≡◌, refl, sym, ap, ◌∙◌, subst}
use mathlib.Core.Bool.{Bool, true, false, cond}
use Prim.Native.Nat.{ℕ, zero, suc, ◌+◌, ◌-◌, ◌*◌, ◌/◌, ◌%◌, ◌^◌, ◌≤◌, ◌<◌, zero-le}
use native.Mathlib.Nat.{le-div_iff_mul-le, lt_irrefl, zero-mul, le_refl, le_trans, le_of_eq, le_of_lt, le-add_right, zero-add, suc-mul, mul_comm, mul_assoc, mul_left_comm, mul-le-mul, mul-le-mul_left, mul-le-mul_right, le_of_mul-le-mul_right, mul-pos, one-le-pow, pow-zero, pow-suc, pow-le-pow_left, div-mul-le_self, mod-lt, div-add-mod', suc-add}
use native.Mathlib.Omega.{arith}
use lib.Dec.{lit<, lit≤, leb}
use borrow.Author.Tests.{ne_eqb, leb-true, leb-false}
use Rattle.demand.specs.Decay.Weight.{S, next, term, sum, series, power, weight}
use Rattle.demand.specs.Decay.Exponential.{den, odd, plus, minus, Within}
use Rattle.demand.proofs.Weight.Division.{scaled-lt, quotient-next}
use Rattle.demand.proofs.Weight.Bounds.{sums, product_high, product-low}
use Rattle.demand.proofs.Estimating.Alpha.{power_le, series-le}
use Rattle.demand.proofs.Weight.Series.{sum-high, sum_low}
use Rattle.demand.proofs.Weight.Powers.{exp_sum, den_pos, sum-at-most, sum-at-least}
use Rattle.demand.proofs.Weight.Reciprocal.{even-reciprocal, odd-reciprocal}

-- ---- a sum is at least 1, and grows with n

pub den-le : (e c n : ℕ) → den c n ≤ exp_sum e c n
unfolding den exp_sum
den-le e c zero = le_refl 1
den-le e c (suc n) = le_trans (mul-le-mul_right (suc n * c) (den-le e c n)) (le-add_right (exp_sum e c n * (suc n * c)) (e ^ suc n))

-- from a sum on, and so for each longer one
longer : (e c s z n d : ℕ) → s * den c n ≤ z * exp_sum e c n → s * den c (d + n) ≤ z * exp_sum e c (d + n)
unfolding den exp_sum
longer e c s z n zero h = rw (zero-add n) h
longer e c s z n (suc d) h =
    rw (suc-add d n)
    (le_trans (le_of_eq (sym (mul_assoc s (den c (d + n)) (suc (d + n) * c))))
    (le_trans (mul-le-mul_right (suc (d + n) * c) (longer e c s z n d h))
    (le_trans (le_of_eq (mul_assoc z (exp_sum e c (d + n)) (suc (d + n) * c))) (mul-le-mul_left z (le-add_right (exp_sum e c (d + n) * (suc (d + n) * c)) (e ^ suc (d + n)))))))

-- ---- P, against the sums of exp(r / c)

low-through : (P s p q d E B ε : ℕ) → zero < d → P * d + s * q ≤ s * p + ε * d → E * p ≤ B * d + E * q → P * E ≤ s * B + ε * E
low-through P s p q d E B ε z h k =
    le_of_mul-le-mul_right {k = d} (simp sums (omega (arith, simp sums at (mul-le-mul_right E h), simp sums at (mul-le-mul_left s k)))) z

high-through : (P s p q d E B ε : ℕ) → zero < d → s * p ≤ (P + ε) * d + s * q → B * d + E * q ≤ E * p → s * B ≤ (P + ε) * E
high-through P s p q d E B ε z h k =
    le_of_mul-le-mul_right {k = d} (simp sums (omega (arith, simp sums at (mul-le-mul_right E h), simp sums at (mul-le-mul_left s k)))) z

module _ (r c : ℕ) (h : r < c) (n : ℕ) where
  c_pos : zero < c
  c_pos = omega arith

  series-low : 21 ≤ n → series (r * S / c) * exp_sum r c n ≤ S * den c n + 31 * exp_sum r c n
  series-low k = low-through _ S (plus r c 21) (minus r c 21) (den c 21) (exp_sum r c n) (den c n) 31 (den_pos c 21 c_pos) (sum_low r c h) (odd-reciprocal r c n 10 c_pos k)

  series-high : 20 ≤ n → S * den c n ≤ (series (r * S / c) + 30) * exp_sum r c n
  series-high k = high-through _ S (plus r c 20) (minus r c 20) (den c 20) (exp_sum r c n) (den c n) 30 (den_pos c 20 c_pos) (sum-high r c h) (even-reciprocal r c n 10 c_pos k)

-- ---- the powers E(q), against the powers of the sums of exp(1)

one-near-low : series S * den 1 21 + S * minus 1 1 21 ≤ S * plus 1 1 21 + 2 * den 1 21
unfolding next term sum series den odd plus minus
one-near-low = lit≤ tt

one-near-high : S * plus 1 1 20 ≤ (series S + 2) * den 1 20 + S * minus 1 1 20
unfolding next term sum series den odd plus minus
one-near-high = lit≤ tt

one-low : (n : ℕ) → 21 ≤ n → series S * exp_sum 1 1 n ≤ S * den 1 n + 2 * exp_sum 1 1 n
one-low n h = low-through (series S) S (plus 1 1 21) (minus 1 1 21) (den 1 21) (exp_sum 1 1 n) (den 1 n) 2 (den_pos 1 21 (lit< tt)) one-near-low (odd-reciprocal 1 1 n 10 (lit< tt) h)

one-high : (n : ℕ) → 20 ≤ n → S * den 1 n ≤ (series S + 2) * exp_sum 1 1 n
one-high n h = high-through (series S) S (plus 1 1 20) (minus 1 1 20) (den 1 20) (exp_sum 1 1 n) (den 1 n) 2 (den_pos 1 20 (lit< tt)) one-near-high (even-reciprocal 1 1 n 10 (lit< tt) h)

powers-low : (n : ℕ) → 21 ≤ n → (q : ℕ) → power q * exp_sum 1 1 n ^ q ≤ S * den 1 n ^ q + 5 * exp_sum 1 1 n ^ q
unfolding next term sum series power
powers-low n h zero = rw (pow-zero (exp_sum 1 1 n), pow-zero (den 1 n)) (lit≤ tt)
powers-low n h (suc q) =
    rw (pow-suc (den 1 n) q, pow-suc (exp_sum 1 1 n) q)
    (product-low S (power q) (series S) (power (suc q)) (den 1 n ^ q) (exp_sum 1 1 n ^ q) (den 1 n) (exp_sum 1 1 n) 5 2 5 (series S + 2) (lit< tt) (powers-low n h q) (one-low n h) (div-mul-le_self (power q * series S) S) (pow-le-pow_left (den-le 1 1 n) q) (one-high n (le_of_lt h)) (lit≤ tt))

powers-high : (n : ℕ) → 20 ≤ n → (q : ℕ) → S * den 1 n ^ q ≤ (power q + 5) * exp_sum 1 1 n ^ q
unfolding next term sum series power
powers-high n h zero = rw (pow-zero (exp_sum 1 1 n), pow-zero (den 1 n)) (lit≤ tt)
powers-high n h (suc q) =
    rw (pow-suc (den 1 n) q, pow-suc (exp_sum 1 1 n) q)
    (product_high S (power q) (series S) (power (suc q)) (den 1 n ^ q) (exp_sum 1 1 n ^ q) (den 1 n) (exp_sum 1 1 n) 5 2 5 (lit< tt) (powers-high n h q) (one-high n h) (quotient-next (power q * series S) S (lit< tt)) (power_le q) (lit≤ tt))

-- ---- exp(e / c) is exp(r / c) * exp(1) ^ q for e = q * c + r, sum by sum

one_power : (n : ℕ) → 1 ^ n ≡ 1
one_power zero = pow-zero 1
one_power (suc n) = pow-suc 1 n ∙ ap (λ (k : ℕ). k * 1) (one_power n)

den-scaled : (c n : ℕ) → den c n ≡ c ^ n * den 1 n
unfolding den
den-scaled c zero = sym (ap (λ (k : ℕ). k * 1) (pow-zero c))
den-scaled c (suc n) = ap (λ (k : ℕ). k * (suc n * c)) (den-scaled c n) ∙ sym (ap (λ (k : ℕ). k * (den 1 n * (suc n * 1))) (pow-suc c n) ∙ turn (c ^ n) c (den 1 n) (suc n))
  where
    turn : (p c d n : ℕ) → p * c * (d * (n * 1)) ≡ p * d * (n * c)
    turn p c d n = simp sums

sum-scaled : (c n : ℕ) → exp_sum c c n ≡ c ^ n * exp_sum 1 1 n
unfolding exp_sum
sum-scaled c zero = sym (ap (λ (k : ℕ). k * 1) (pow-zero c))
sum-scaled c (suc n) =
    (λ i. sum-scaled c n i * (suc n * c) + pow-suc c n i)
    ∙ sym (ap (λ (k : ℕ). k * (exp_sum 1 1 n * (suc n * 1) + 1 ^ suc n)) (pow-suc c n) ∙ ap (λ (k : ℕ). c ^ n * c * (exp_sum 1 1 n * (suc n * 1) + k)) (one_power (suc n)) ∙ turn (c ^ n) c (exp_sum 1 1 n) (suc n))
  where
    turn : (p c d n : ℕ) → p * c * (d * (n * 1) + 1) ≡ p * d * (n * c) + p * c
    turn p c d n = simp sums

-- c / c is 1
whole-time : (c n : ℕ) → exp_sum c c n * den 1 n ≡ exp_sum 1 1 n * den c n
whole-time c n = ap (λ (k : ℕ). k * den 1 n) (sum-scaled c n) ∙ turn (c ^ n) (exp_sum 1 1 n) (den 1 n) ∙ ap (λ (k : ℕ). exp_sum 1 1 n * k) (sym (den-scaled c n))
  where
    turn : (p a d : ℕ) → p * a * d ≡ a * (p * d)
    turn p a d = simp sums

next-time : (q c r : ℕ) → suc q * c + r ≡ q * c + r + c
next-time q c r = rw (suc-mul q c) (omega arith)

no-time : (c r : ℕ) → 0 * c + r ≡ r
no-time c r = rw (zero-mul c) (zero-add r)

module _ (r c : ℕ) (pos : zero < c) where
  pub times-at-most : (n q : ℕ) → exp_sum (q * c + r) c n * den 1 n ^ q ≤ exp_sum r c n * exp_sum 1 1 n ^ q
  times-at-most n zero = rw (no-time c r, pow-zero (den 1 n), pow-zero (exp_sum 1 1 n)) (le_refl (exp_sum r c n * 1))
  times-at-most n (suc q) =
      rw (next-time q c r, pow-suc (den 1 n) q, pow-suc (exp_sum 1 1 n) q)
      (step (exp_sum (q * c + r + c) c n) (exp_sum (q * c + r) c n) (exp_sum c c n) (exp_sum r c n) (exp_sum 1 1 n) (den 1 n) (den c n) (den 1 n ^ q) (exp_sum 1 1 n ^ q) (den_pos c n pos)
      (sum-at-most (q * c + r) c c n pos) (whole-time c n) (times-at-most n q))
    where
      step : (E' E C R A d D p a : ℕ) → zero < D → E' * D ≤ E * C → C * d ≡ A * D → E * p ≤ R * a → E' * (p * d) ≤ R * (a * A)
      step E' E C R A d D p a z h e k =
          le_of_mul-le-mul_right {k = D}
          (simp sums (omega (arith, simp sums at (mul-le-mul_right (p * d) h), simp sums at (ap (λ (n : ℕ). E * p * n) e), simp sums at (mul-le-mul_right (A * D) k)))) z

  pub times-at-least : (m q : ℕ) → exp_sum r c m * exp_sum 1 1 m ^ q * den c (q * m + m) ≤ exp_sum (q * c + r) c (q * m + m) * (den c m * den 1 m ^ q)
  times-at-least m zero = rw (no-time c r, no-time m m, pow-zero (den 1 m), pow-zero (exp_sum 1 1 m)) (le_of_eq (turn (exp_sum r c m) (den c m)))
    where
      turn : (a d : ℕ) → a * 1 * d ≡ a * (d * 1)
      turn a d = simp sums
  times-at-least m (suc q) =
      rw (next-time q c r, next-time q m m, pow-suc (den 1 m) q, pow-suc (exp_sum 1 1 m) q)
      (step (exp_sum r c m) (exp_sum 1 1 m ^ q) (exp_sum 1 1 m) (den c (q * m + m)) (den c (q * m + m + m)) (exp_sum (q * c + r) c (q * m + m)) (exp_sum (q * c + r + c) c (q * m + m + m)) (exp_sum c c m) (den c m) (den 1 m) (den 1 m ^ q)
      (mul-pos (den_pos c (q * m + m) pos) (den_pos c m pos)) (times-at-least m q) (sum-at-least (q * c + r) c c (q * m + m) m pos) (whole-time c m))
    where
      step : (R a A D D' E E' C dm d p : ℕ) → zero < D * dm → R * a * D ≤ E * (dm * p) → E * C * D' ≤ E' * (D * dm) → C * d ≡ A * dm → R * (a * A) * D' ≤ E' * (dm * (p * d))
      step R a A D D' E E' C dm d p z h k e =
          le_of_mul-le-mul_right {k = D * dm}
          (simp sums (omega (arith, simp sums at (mul-le-mul_right (A * dm * D') h), simp sums at (ap (λ (n : ℕ). E * dm * p * D' * n) e), simp sums at (mul-le-mul_right (dm * p * d) k)))) z

-- ---- the two bounds

-- one fraction at most another
below : (s z x y x' y' : ℕ) → zero < y → s * x ≤ z * y → x' * y ≤ x * y' → s * x' ≤ z * y'
below s z x y x' y' p h k =
    le_of_mul-le-mul_right {k = y} (simp sums (omega (arith, simp sums at (mul-le-mul_right y' h), simp sums at (mul-le-mul_left s k)))) p

above : (d s z x y x' y' : ℕ) → zero < y → d * y ≤ s * x + z * y → x * y' ≤ x' * y → d * y' ≤ s * x' + z * y'
above d s z x y x' y' p h k =
    le_of_mul-le-mul_right {k = y} (simp sums (omega (arith, simp sums at (mul-le-mul_right y' h), simp sums at (mul-le-mul_left s k)))) p

sum-pos : (e c n : ℕ) → zero < c → zero < exp_sum e c n
sum-pos e c n pos = le_trans (den_pos c n pos) (den-le e c n)

far : S * den 1 20 ^ 37 ≤ 64 * exp_sum 1 1 20 ^ 37
unfolding exp_sum den
far = lit≤ tt

-- from a bound by the product of sums to one by the sum of exp(e / c)
module _ (r c q d z : ℕ) (pos : zero < c) where
  product-pos : (n : ℕ) → zero < exp_sum r c n * exp_sum 1 1 n ^ q
  product-pos n = mul-pos (sum-pos r c n pos) (one-le-pow q (exp_sum 1 1 n) (sum-pos 1 1 n (lit< tt)))

  above-product : (n : ℕ) → d * (exp_sum r c n * exp_sum 1 1 n ^ q) ≤ S * (den c n * den 1 n ^ q) + z * (exp_sum r c n * exp_sum 1 1 n ^ q) → d * exp_sum (q * c + r) c n ≤ S * den c n + z * exp_sum (q * c + r) c n
  above-product n h =
      above d S z (den c n * den 1 n ^ q) (exp_sum r c n * exp_sum 1 1 n ^ q) (den c n) (exp_sum (q * c + r) c n) (product-pos n) h
      (le_trans (le_of_eq (turn (den c n) (den 1 n ^ q) (exp_sum (q * c + r) c n))) (mul-le-mul_left (den c n) (times-at-most r c pos n q)))
    where
      turn : (D p E : ℕ) → D * p * E ≡ D * (E * p)
      turn D p E = simp sums

  below-product : (m n : ℕ) → q * m + m ≤ n → S * (den c m * den 1 m ^ q) ≤ (d + z) * (exp_sum r c m * exp_sum 1 1 m ^ q) → S * den c n ≤ (d + z) * exp_sum (q * c + r) c n
  below-product m n l h =
      let e : n - (q * m + m) + (q * m + m) ≡ n = omega arith in
      subst (λ (k : ℕ). S * den c k ≤ (d + z) * exp_sum (q * c + r) c k) e
      (longer (q * c + r) c S (d + z) (q * m + m) (n - (q * m + m))
      (below S (d + z) (den c m * den 1 m ^ q) (exp_sum r c m * exp_sum 1 1 m ^ q) (den c (q * m + m)) (exp_sum (q * c + r) c (q * m + m)) (product-pos m) h
      (le_trans (le_of_eq (mul_comm (den c (q * m + m)) (exp_sum r c m * exp_sum 1 1 m ^ q))) (le_trans (times-at-least r c pos m q) (le_of_eq (mul_comm (exp_sum (q * c + r) c (q * m + m)) (den c m * den 1 m ^ q)))))))

-- d is within z of s * exp(-e / c), by the sum of exp(e / c) up to the term n: with a the fraction exp_sum e c n / den c n, (d - z) * a ≤ s ≤ (d + z) * a
record Against (z d s e c n : ℕ) : Type 0 where
  not_above : d * exp_sum e c n ≤ s * den c n + z * exp_sum e c n
  not_below : s * den c n ≤ (d + z) * exp_sum e c n

-- from the sums of exp(e / c) to those of exp(-e / c)
low-back : (P s p q d E B ε : ℕ) → zero < E → P * E ≤ s * B + ε * E → B * d + E * q ≤ E * p → P * d + s * q ≤ s * p + ε * d
low-back P s p q d E B ε z h k =
    le_of_mul-le-mul_right {k = E} (simp sums (omega (arith, simp sums at (mul-le-mul_right d h), simp sums at (mul-le-mul_left s k)))) z

high-back : (P s p q d E B ε : ℕ) → zero < E → s * B ≤ (P + ε) * E → E * p ≤ B * d + E * q → s * p ≤ (P + ε) * d + s * q
high-back P s p q d E B ε z h k =
    le_of_mul-le-mul_right {k = E} (simp sums (omega (arith, simp sums at (mul-le-mul_right d h), simp sums at (mul-le-mul_left s k)))) z

module _ (e c : ℕ) (pos : zero < c) where
  rest_lt : e % c < c
  rest_lt = mod-lt e pos

  abbrev D : ℕ
  D = series (e % c * S / c) * power (e / c) / S

  weight_is : weight e c ≡ cond (leb 37 (e / c)) 0 D
  unfolding weight
  weight_is = simp (ne_eqb c 0 (λ z. lt_irrefl 0 (subst (λ (n : ℕ). zero < n) z pos)))

  series-at-most : series (e % c * S / c) ≤ S
  series-at-most = series-le (e % c * S / c) (le_of_lt (scaled-lt (e % c) S c rest_lt (lit< tt)))

  -- A sum of exp(e / c) up to the term 760, which is 20 * 38, is at least a product of 38 sums up to the term 20: of exp(r / c) once and of exp(1) 37 times.

  -- up to 37 times the time constant
  early : (n : ℕ) → 760 ≤ n → e / c < 37 → Against 64 D S (e / c * c + e % c) c n
  early n h l = record {
    not_above =
        above-product (e % c) c (e / c) D 64 pos n
        (product-low S (series (e % c * S / c)) (power (e / c)) D (den c n) (exp_sum (e % c) c n) (den 1 n ^ (e / c)) (exp_sum 1 1 n ^ (e / c)) 31 5 64 S (lit< tt)
        (series-low (e % c) c rest_lt n (omega arith)) (powers-low n (omega arith) (e / c)) (div-mul-le_self _ S) (den-le (e % c) c n) (mul-le-mul_left S (pow-le-pow_left (den-le 1 1 n) (e / c))) (lit≤ tt));
    not_below =
        below-product (e % c) c (e / c) D 64 pos 20 n (omega arith)
        (product_high S (series (e % c * S / c)) (power (e / c)) D (den c 20) (exp_sum (e % c) c 20) (den 1 20 ^ (e / c)) (exp_sum 1 1 20 ^ (e / c)) 30 5 64 (lit< tt)
        (series-high (e % c) c rest_lt 20 (lit≤ tt)) (powers-high 20 (lit≤ tt) (e / c)) (quotient-next _ S (lit< tt)) series-at-most (omega (arith, power_le (e / c))));
  }

  -- from there on
  late : (n : ℕ) → 760 ≤ n → 37 * c ≤ e → Against 64 0 S e c n
  late n h l =
      let r = e - 37 * c in
      let is : 37 * c + r ≡ e = omega arith in
      record {
        not_above = le_trans (le_of_eq (zero-mul (exp_sum e c n))) zero-le;
        not_below =
            subst (λ (k : ℕ). S * den c n ≤ (0 + 64) * exp_sum k c n) is
            (below-product r c 37 0 64 pos 20 n h
            (le_trans (le_of_eq (mul_left_comm S (den c 20) (den 1 20 ^ 37))) (le_trans (mul-le-mul (den-le r c 20) far) (le_of_eq (mul_left_comm (exp_sum r c 20) 64 (exp_sum 1 1 20 ^ 37))))));
      }

  by-time : (n : ℕ) → 760 ≤ n → (b : Bool) → leb 37 (e / c) ≡ b → Against 64 (cond b 0 D) S e c n
  by-time n h true t = late n h ((le-div_iff_mul-le {k = c} {x = 37} {y = e} pos).0 (leb-true 37 (e / c) t))
  by-time n h false t = subst (λ (k : ℕ). Against 64 D S k c n) (div-add-mod' e c) (early n h (leb-false 37 (e / c) t))

  against : (n : ℕ) → 760 ≤ n → Against 64 (weight e c) S e c n
  against n h = subst (λ (d : ℕ). Against 64 d S e c n) (sym weight_is) (by-time n h (leb 37 (e / c)) refl)

  -- 01: 'D lies within 64 of S × exp(−e ÷ c) for c above 0'
  pub near : Within 64 (weight e c) S e c
  near = record {
    not_above = λ n.
        let j = n + n in
        let m = 760 + j in
        low-back (weight e c) S (plus e c j) (minus e c j) (den c j) (exp_sum e c m) (den c m) 64 (sum-pos e c m pos) (against m (omega arith)).not_above (even-reciprocal e c m n pos (omega arith));
    not_below = λ n.
        let j = suc (n + n) in
        let m = 760 + j in
        high-back (weight e c) S (plus e c j) (minus e c j) (den c j) (exp_sum e c m) (den c m) 64 (sum-pos e c m pos) (against m (omega arith)).not_below (odd-reciprocal e c m n pos (omega arith));
  }
