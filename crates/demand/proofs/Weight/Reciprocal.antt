-- Option Times a sum of exp(x / c), a sum of exp(-x / c) up to an even term is at least 1, and one up to an odd term at most 1.
use mathlib.Core.Path.{◌≡◌, refl, sym, ap, ◌∙◌}
use mathlib.Core.Bool.{Bool, true, false, not, cond}
use Prim.Native.Nat.{ℕ, zero, suc, ◌+◌, ◌*◌, ◌≤◌, ◌<◌}
use native.Mathlib.Nat.{add_comm, add-le-add, le_trans, le_of_eq, mul-pos, mul-le-mul_left, le_of_mul-le-mul_right, eq_of_mul-eq-mul_right, mul-add, mul_comm, mul-zero, one-mul, zero-add, add-zero, suc-add, add-suc}
use native.Mathlib.Omega.{arith}
use Rattle.demand.specs.Decay.Exponential.{den, odd, plus, minus}
use Rattle.demand.proofs.Weight.Bounds.{sums}
use Rattle.demand.proofs.Weight.Partial.{even}
use Rattle.demand.proofs.Weight.Convolution.{Sequence, total, total-same, total-scale}
use Rattle.demand.proofs.Weight.Powers.{exp_sum, divided, first, grows, scale, scale-pos, parts-rescaled, sum-rescaled, den-rescaled}
use Rattle.demand.proofs.Weight.Binomial.{choose, row, evens, odds, signed}

-- ---- the terms of even index, and those of odd index

even-part : (i a n : ℕ) → cond (odd i) 0 (a * n) ≡ a * cond (odd i) 0 n
even-part i a n = either (odd i)
  where
    either : (b : Bool) → cond b 0 (a * n) ≡ a * cond b 0 n
    either true = sym (mul-zero a)
    either false = refl

odd_part : (i a n : ℕ) → cond (odd i) (a * n) 0 ≡ a * cond (odd i) n 0
odd_part i a n = either (odd i)
  where
    either : (b : Bool) → cond b (a * n) 0 ≡ a * cond b n 0
    either true = refl
    either false = sym (mul-zero a)

-- ---- the product of a sum with each term, and with parts of the terms

-- by Pascal's rule, from the products with the term before on either side
pascal : (a b c x s t s' t' W p q u u' : ℕ) → zero < (a + b) * c → a * c * s' ≡ x * s → b * c * t' ≡ x * t → (a + b) * c * u' ≡ x * u → s * t' ≡ W * (p * u) → s' * t ≡ W * (q * u) → s' * t' ≡ W * ((p + q) * u')
pascal a b c x s t s' t' W p q u u' z hs ht hu hp hq =
    eq_of_mul-eq-mul_right ((a + b) * c) z (s' * t') (W * ((p + q) * u'))
    (simp sums
    (omega (
      arith,
      simp sums at (ap (λ (n : ℕ). n * t') hs),
      simp sums at (ap (λ (n : ℕ). n * s') ht),
      simp sums at (ap (λ (n : ℕ). n * (W * (p + q))) hu),
      simp sums at (ap (λ (n : ℕ). n * x) hp),
      simp sums at (ap (λ (n : ℕ). n * x) hq),
    )))

module _ (x c m k : ℕ) (pos : zero < c) where
  abbrev t : Sequence
  t = divided x c (m + k)

  abbrev W : ℕ
  W = den c (m + k)

  product : (i j : ℕ) → i + j ≤ m + k → t i * t j ≡ W * (choose i j * t (i + j))
  unfolding choose
  product zero j h = rw (first x c (m + k), zero-add j, one-mul (t j))
  product (suc i) zero h = rw (first x c (m + k), add-zero (suc i), one-mul (t (suc i))) (mul_comm (t (suc i)) W)
  product (suc i) (suc j) h =
      let n = suc (i + j) in
      let e : suc i + suc j ≡ suc n = omega arith in
      let l : n < m + k = omega arith in
      pascal (suc i) (suc j) c x (t i) (t j) (t (suc i)) (t (suc j)) W (choose i (suc j)) (choose (suc i) j) (t n) (t (suc i + suc j)) (mul-pos (omega arith) pos)
      (grows x c (m + k) i (omega arith)) (grows x c (m + k) j (omega arith)) (ap (λ (k : ℕ). k * c * t k) e ∙ grows x c (m + k) n l)
      (product i (suc j) (omega arith) ∙ ap (λ (k : ℕ). W * (choose i (suc j) * t k)) (add-suc i j)) (product (suc i) j (omega arith) ∙ ap (λ (k : ℕ). W * (choose (suc i) j * t k)) (suc-add i j))

  -- the sum up to m times a term, and times parts of the terms up to k
  row_is : (j : ℕ) → j ≤ k → total t m * t j ≡ W * row t m j
  row_is j h =
      mul_comm (total t m) (t j) ∙ sym (total-scale (t j) t m)
      ∙ total-same (λ (i : ℕ). t j * t i) (λ (i : ℕ). W * (choose i j * t (i + j))) m (λ i l. mul_comm (t j) (t i) ∙ product i j (add-le-add l h))
      ∙ total-scale W (λ (i : ℕ). choose i j * t (i + j)) m

  parts-times : (part : ℕ → ℕ → ℕ) → ((i a n : ℕ) → part i (a * n) ≡ a * part i n) → total t m * total (λ (i : ℕ). part i (t i)) k ≡ W * total (λ (i : ℕ). part i (row t m i)) k
  parts-times part linear =
      sym (total-scale (total t m) (λ (i : ℕ). part i (t i)) k)
      ∙ total-same (λ (i : ℕ). total t m * part i (t i)) (λ (i : ℕ). W * part i (row t m i)) k (λ i l. sym (linear i (total t m) (t i)) ∙ ap (part i) (row_is i l) ∙ linear i W (row t m i))
      ∙ total-scale W (λ (i : ℕ). part i (row t m i)) k

  -- in units of 1 / den c (m + k)
  plus-in : total (evens t) k ≡ scale c k m * plus x c k
  unfolding evens plus odd
  plus-in = parts-rescaled x c (λ i n. cond (odd i) 0 n) even-part (plus x c) refl (λ n. refl) k m

  minus-in : total (odds t) k ≡ scale c k m * minus x c k
  unfolding odds minus odd
  minus-in = parts-rescaled x c (λ i n. cond (odd i) n 0) odd_part (minus x c) refl (λ n. refl) k m

  sum-in : total t m ≡ scale c m k * exp_sum x c m
  sum-in = ap (λ (L : ℕ). total (divided x c L) m) (add_comm m k) ∙ sum-rescaled x c m k

  den-in : W ≡ scale c m k * den c m
  den-in = ap (den c) (add_comm m k) ∙ den-rescaled c m k

  abbrev units : ℕ
  units = scale c m k * scale c k m

  units-pos : zero < units
  units-pos = mul-pos (scale-pos c m k pos) (scale-pos c k m pos)

  added_is : W * total (evens (row t m)) k ≡ exp_sum x c m * plus x c k * units
  unfolding evens
  added_is = sym (parts-times (λ i n. cond (odd i) 0 n) even-part) ∙ (λ i. sum-in i * plus-in i) ∙ turn (scale c m k) (exp_sum x c m) (scale c k m) (plus x c k)
    where
      turn : (a p b q : ℕ) → a * p * (b * q) ≡ p * q * (a * b)
      turn a p b q = simp sums

  taken_is : W * (t 0 + total (odds (row t m)) k) ≡ (den c m * den c k + exp_sum x c m * minus x c k) * units
  unfolding odds
  taken_is =
      mul-add W (t 0) (total (odds (row t m)) k)
      ∙ (λ i. (ap (λ (n : ℕ). W * n) (first x c (m + k)) ∙ (λ i. den-in i * den-rescaled c k m i)) i + (sym (parts-times (λ i n. cond (odd i) n 0) odd_part) ∙ (λ i. sum-in i * minus-in i)) i)
      ∙ turn (scale c m k) (den c m) (exp_sum x c m) (scale c k m) (den c k) (minus x c k)
    where
      turn : (a d p b e q : ℕ) → a * d * (b * e) + a * p * (b * q) ≡ (d * e + p * q) * (a * b)
      turn a d p b e q = simp sums

-- ---- the two bounds

module _ (x c m n : ℕ) (pos : zero < c) where
  pub even-reciprocal : n + n ≤ m → den c m * den c (n + n) + exp_sum x c m * minus x c (n + n) ≤ exp_sum x c m * plus x c (n + n)
  even-reciprocal h =
      le_of_mul-le-mul_right {k = units x c m (n + n) pos}
      (le_trans (le_of_eq (sym (taken_is x c m (n + n) pos))) (le_trans (mul-le-mul_left (den c (m + (n + n))) (signed (divided x c (m + (n + n))) m false (n + n) (even n) h)) (le_of_eq (added_is x c m (n + n) pos))))
      (units-pos x c m (n + n) pos)

  pub odd-reciprocal : suc (n + n) ≤ m → exp_sum x c m * plus x c (suc (n + n)) ≤ den c m * den c (suc (n + n)) + exp_sum x c m * minus x c (suc (n + n))
  unfolding odd
  odd-reciprocal h =
      let j = suc (n + n) in
      le_of_mul-le-mul_right {k = units x c m j pos}
      (le_trans (le_of_eq (sym (added_is x c m j pos))) (le_trans (mul-le-mul_left (den c (m + j)) (signed (divided x c (m + j)) m true j (ap not (even n)) h)) (le_of_eq (taken_is x c m j pos))))
      (units-pos x c m j pos)
