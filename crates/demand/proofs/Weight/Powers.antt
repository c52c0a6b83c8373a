-- The terms of exp(x / c) over one denominator, and that the sums of two such series multiply as exp does.
use mathlib.Core.Path.{◌≡◌, refl, sym, ap, ◌∙◌, subst}
use mathlib.Core.Bool.{cond}
use mathlib.Core.Logic.{inl, inr}
use Prim.Native.Nat.{ℕ, zero, suc, ◌+◌, ◌-◌, ◌*◌, ◌^◌, ◌≤◌, ◌<◌, zero-le}
use native.Mathlib.Nat.{add_comm, eq-or-lt_of_le, le_refl, le_trans, le_of_eq, le_of_lt, mul-pos, mul-le-mul_right, le_of_mul-le-mul_right, eq_of_mul-eq-mul_right, pow-zero, pow-suc, add-mul, mul_assoc, mul_comm, mul_left_comm, one-mul, zero-add, suc-add}
use native.Mathlib.Omega.{arith}
use lib.Dec.{leb, lit<}
use borrow.Author.Tests.{le-leb, lt-leb}
use Rattle.demand.specs.Decay.Exponential.{den}
use Rattle.demand.proofs.Weight.Bounds.{sums}
use Rattle.demand.proofs.Weight.Convolution.{Sequence, Grows, total, conv, conv-grows, conv-total, conv-at-most, conv-at-least, total-same, total-scale, total-grows}

pub den_pos : (c k : ℕ) → zero < c → zero < den c k
unfolding den
den_pos c zero h = lit< tt
den_pos c (suc k) h = mul-pos (den_pos c k h) (mul-pos (omega arith) h)

-- 1 + x / c + (x / c) ^ 2 / 2! + .. + (x / c) ^ n / n!, times den c n
unfoldable pub exp_sum : (x c n : ℕ) → ℕ
exp_sum x c zero = 1
exp_sum x c (suc n) = exp_sum x c n * (suc n * c) + x ^ suc n

-- x ^ i / (c ^ i * i!) of den c L, for i up to L
unfoldable pub divided : (x c L : ℕ) → Sequence
divided x c zero i = 1
divided x c (suc L) i = cond (leb i L) (suc L * c * divided x c L i) (x ^ suc L)

-- den c (d + n) / den c n
unfoldable pub scale : (c n d : ℕ) → ℕ
scale c n zero = 1
scale c n (suc d) = suc (d + n) * c * scale c n d

module _ (x c : ℕ) where
  within : (L i : ℕ) → i ≤ L → divided x c (suc L) i ≡ suc L * c * divided x c L i
  unfolding divided
  within L i h = simp (le-leb i L h)

  last : (L : ℕ) → divided x c L L ≡ x ^ L
  unfolding divided
  last zero = sym (pow-zero x)
  last (suc L) = simp (lt-leb (suc L) L (omega arith))

  pub first : (L : ℕ) → divided x c L 0 ≡ den c L
  unfolding divided den
  first zero = refl
  first (suc L) = within L 0 zero-le ∙ ap (λ (n : ℕ). suc L * c * n) (first L) ∙ mul_comm (suc L * c) (den c L)

  pub grows : (L : ℕ) → Grows x c L (divided x c L) (divided x c L)
  grows zero i h = absurd (none i h)
    where
      none : (i : ℕ) → i < 0 → ⊥
      none i h = omega arith
  grows (suc L) i h = elim (eq-or-lt_of_le (back i L h)) [
    | inl e ↦ subst (λ (j : ℕ). suc j * c * divided x c (suc L) (suc j) ≡ x * divided x c (suc L) j) (sym e) top
    | inr l ↦ inner l (grows L i l)
  ]
    where
      back : (i L : ℕ) → i < suc L → i ≤ L
      back i L h = omega arith

      top : suc L * c * divided x c (suc L) (suc L) ≡ x * divided x c (suc L) L
      top =
          ap (λ (n : ℕ). suc L * c * n) (last (suc L) ∙ pow-suc x L) ∙ turn (suc L * c) (x ^ L) x
          ∙ ap (λ (n : ℕ). x * n) (ap (λ (n : ℕ). suc L * c * n) (sym (last L)) ∙ sym (within L L (le_refl L)))
        where
          turn : (a b x : ℕ) → a * (b * x) ≡ x * (a * b)
          turn a b x = simp sums

      inner : i < L → suc i * c * divided x c L (suc i) ≡ x * divided x c L i → suc i * c * divided x c (suc L) (suc i) ≡ x * divided x c (suc L) i
      inner l g =
          ap (λ (n : ℕ). suc i * c * n) (within L (suc i) l)
          ∙ mul_left_comm (suc i * c) (suc L * c) (divided x c L (suc i))
          ∙ ap (λ (n : ℕ). suc L * c * n) g
          ∙ mul_left_comm (suc L * c) x (divided x c L i)
          ∙ ap (λ (n : ℕ). x * n) (sym (within L i (le_of_lt l)))

  -- over a larger denominator
  rescaled : (n d i : ℕ) → i ≤ n → divided x c (d + n) i ≡ scale c n d * divided x c n i
  unfolding scale
  rescaled n zero i h = ap (λ (k : ℕ). divided x c k i) (zero-add n) ∙ sym (one-mul (divided x c n i))
  rescaled n (suc d) i h =
      ap (λ (k : ℕ). divided x c k i) (suc-add d n) ∙ within (d + n) i (le_trans h (far d n)) ∙ ap (λ (k : ℕ). suc (d + n) * c * k) (rescaled n d i h)
      ∙ sym (mul_assoc (suc (d + n) * c) (scale c n d) (divided x c n i))
    where
      far : (d n : ℕ) → n ≤ d + n
      far d n = omega arith

  -- A sum of parts of the terms: f n, over den c n, where f grows with each term by its part.
  module _ (part : ℕ → ℕ → ℕ) (linear : (i a n : ℕ) → part i (a * n) ≡ a * part i n) (f : ℕ → ℕ) (start : f 0 ≡ part 0 1) (step : (n : ℕ) → f (suc n) ≡ f n * (suc n * c) + part (suc n) (x ^ suc n)) where
    parts_are : (n : ℕ) → total (λ (i : ℕ). part i (divided x c n i)) n ≡ f n
    unfolding total divided
    parts_are zero = sym start
    parts_are (suc n) =
        (λ i. (total-same (λ (i : ℕ). part i (divided x c (suc n) i)) (λ (i : ℕ). suc n * c * part i (divided x c n i)) n (λ i h. ap (part i) (within n i h) ∙ linear i (suc n * c) (divided x c n i))
        ∙ total-scale (suc n * c) (λ (i : ℕ). part i (divided x c n i)) n ∙ ap (λ (k : ℕ). suc n * c * k) (parts_are n) ∙ mul_comm (suc n * c) (f n)) i + part (suc n) (last (suc n) i))
        ∙ sym (step n)

    pub parts-rescaled : (n d : ℕ) → total (λ (i : ℕ). part i (divided x c (d + n) i)) n ≡ scale c n d * f n
    parts-rescaled n d =
        total-same (λ (i : ℕ). part i (divided x c (d + n) i)) (λ (i : ℕ). scale c n d * part i (divided x c n i)) n (λ i h. ap (part i) (rescaled n d i h) ∙ linear i (scale c n d) (divided x c n i))
        ∙ total-scale (scale c n d) (λ (i : ℕ). part i (divided x c n i)) n ∙ ap (λ (k : ℕ). scale c n d * k) (parts_are n)

  sum_is : (n : ℕ) → total (divided x c n) n ≡ exp_sum x c n
  unfolding exp_sum
  sum_is = parts_are (λ i n. n) (λ i a n. refl) (exp_sum x c) refl (λ n. refl)

  pub sum-rescaled : (n d : ℕ) → total (divided x c (d + n)) n ≡ scale c n d * exp_sum x c n
  unfolding exp_sum
  sum-rescaled = parts-rescaled (λ i n. n) (λ i a n. refl) (exp_sum x c) refl (λ n. refl)

pub den-rescaled : (c n d : ℕ) → den c (d + n) ≡ scale c n d * den c n
den-rescaled c n d = sym (first 0 c (d + n)) ∙ rescaled 0 c n d 0 zero-le ∙ ap (λ (k : ℕ). scale c n d * k) (first 0 c n)

pub scale-pos : (c n d : ℕ) → zero < c → zero < scale c n d
unfolding scale
scale-pos c n zero h = lit< tt
scale-pos c n (suc d) h = mul-pos (mul-pos (omega arith) h) (scale-pos c n d h)

-- ---- exp((x + y) / c) is exp(x / c) * exp(y / c), sum by sum

module _ (x y c L : ℕ) (pos : zero < c) where
  -- (x + y) ^ k / k! is the convolution of x ^ i / i! and y ^ j / j!
  binomial : (k : ℕ) → k ≤ L → conv (divided x c L) (divided y c L) k ≡ den c L * divided (x + y) c L k
  unfolding conv
  binomial zero h = λ i. first x c L i * (first y c L ∙ sym (first (x + y) c L)) i
  binomial (suc k) h =
      let f = divided x c L in
      let g = divided y c L in
      let p = divided (x + y) c L in
      eq_of_mul-eq-mul_right (suc k * c) (mul-pos (omega arith) pos) (conv f g (suc k)) (den c L * p (suc k))
      (mul_comm (conv f g (suc k)) (suc k * c)
      ∙ conv-grows x y c L f f g g (grows x c L) (grows y c L) k h
      ∙ sym (add-mul x y (conv f g k))
      ∙ ap (λ (n : ℕ). (x + y) * n) (binomial k (le_of_lt h))
      ∙ mul_left_comm (x + y) (den c L) (p k)
      ∙ ap (λ (n : ℕ). den c L * n) (sym (grows (x + y) c L k h))
      ∙ turn (den c L) (suc k * c) (p (suc k)))
    where
      turn : (d s n : ℕ) → d * (s * n) ≡ d * n * s
      turn d s n = simp sums

  products : total (conv (divided x c L) (divided y c L)) L ≡ den c L * exp_sum (x + y) c L
  products = total-same (conv (divided x c L) (divided y c L)) (λ (k : ℕ). den c L * divided (x + y) c L k) L binomial ∙ total-scale (den c L) (divided (x + y) c L) L ∙ ap (λ (n : ℕ). den c L * n) (sum_is (x + y) c L)

  triangle : conv (divided x c L) (total (divided y c L)) L ≡ den c L * exp_sum (x + y) c L
  triangle = sym (conv-total (divided x c L) (divided y c L) L) ∙ products

-- a sum at x + y is at most the product of those at x and y
pub sum-at-most : (x y c n : ℕ) → zero < c → exp_sum (x + y) c n * den c n ≤ exp_sum x c n * exp_sum y c n
sum-at-most x y c n pos =
    le_trans (le_of_eq (mul_comm (exp_sum (x + y) c n) (den c n) ∙ sym (triangle x y c n pos)))
    (le_trans (conv-at-most (divided x c n) (total (divided y c n)) (total (divided y c n) n) n below) (le_of_eq (λ i. sum_is x c n i * sum_is y c n i)))
  where
    below : (j : ℕ) → j ≤ n → total (divided y c n) j ≤ total (divided y c n) n
    below j h =
        let e : n - j + j ≡ n = omega arith in
        subst (λ (k : ℕ). total (divided y c n) j ≤ total (divided y c n) k) e (total-grows (divided y c n) j (n - j))

-- and at least that of shorter ones
pub sum-at-least : (x y c m n : ℕ) → zero < c → exp_sum x c m * exp_sum y c n * den c (m + n) ≤ exp_sum (x + y) c (m + n) * (den c m * den c n)
sum-at-least x y c m n pos =
    cancel (exp_sum x c m) (exp_sum y c n) (scale c m n) (scale c n m) (den c m) (den c n) (den c (m + n)) (exp_sum (x + y) c (m + n)) (den_pos c (m + n) pos)
    (ap (den c) (add_comm m n) ∙ den-rescaled c m n) (den-rescaled c n m)
    (le_trans (le_of_eq (λ i. sym (ap (λ (k : ℕ). total (divided x c k) m) (add_comm m n) ∙ sum-rescaled x c m n) i * sym (sum-rescaled y c n m) i))
    (le_trans (conv-at-least (divided x c (m + n)) (total (divided y c (m + n))) (total (divided y c (m + n)) n) n m above) (le_of_eq (triangle x y c (m + n) pos))))
  where
    above : (j : ℕ) → n ≤ j → j ≤ m + n → total (divided y c (m + n)) n ≤ total (divided y c (m + n)) j
    above j h l =
        let e : j - n + n ≡ j = omega arith in
        subst (λ (k : ℕ). total (divided y c (m + n)) n ≤ total (divided y c (m + n)) k) e (total-grows (divided y c (m + n)) n (j - n))

    cancel : (X Y s t d e D E : ℕ) → zero < D → D ≡ s * d → D ≡ t * e → s * X * (t * Y) ≤ D * E → X * Y * D ≤ E * (d * e)
    cancel X Y s t d e D E p a b h =
        le_of_mul-le-mul_right {k = D}
        (le_trans (le_of_eq (regroup X Y D))
        (le_trans (le_of_eq (λ i. X * Y * (a i * b i)))
        (le_trans (le_of_eq (spread X Y s t d e)) (le_trans (mul-le-mul_right (d * e) h) (le_of_eq (gather D E d e)))))) p
      where
        regroup : (X Y D : ℕ) → X * Y * D * D ≡ X * Y * (D * D)
        regroup X Y D = mul_assoc (X * Y) D D

        spread : (X Y s t d e : ℕ) → X * Y * (s * d * (t * e)) ≡ s * X * (t * Y) * (d * e)
        spread X Y s t d e = simp sums

        gather : (D E d e : ℕ) → D * E * (d * e) ≡ E * (d * e) * D
        gather D E d e = simp sums
