-- Floats that are finite with a clear sign bit, between fractions: what one rounding, a product, a sum and a quotient of them lie between.
use mathlib.Core.Path.{◌≡◌, refl, sym, ap, ◌∙◌, subst}
use Prim.Native.Nat.{ℕ, suc, ◌+◌, ◌*◌, ◌^◌, ◌≤◌, ◌<◌}
use native.Mathlib.Nat.{le_trans, le_of_eq, le_of_lt, lt_irrefl, lt_of_lt_of_le, mul-pos, mul-le-mul, mul-le-mul_right, mul-mul-mul_comm, le_of_mul-le-mul_right, mul_comm, zero-mul, pos_of_ne-zero}
use native.Mathlib.Omega.{arith}
use mathlib.Core.Bool.{Bool, true, false, cond, ◌&&◌, ◌||◌, true≢false}
use lib.Dec.{T, ltb, eqb, ltb→lt, eqb→eq}
use lib.IntN.{ℤ}
use lib.Ieee.{Float, nan, inf, fin, Format, prec, emax, low, up, down, odd, units, round, add, sum, mul, div, le}
use lib.Ieee.Fits.{down_pos, round_is}
use lib.Ieee.Exact.{HasValue, odd_sign}
use lib.Ieee.Order.{round_mono}
use borrow.Author.Tests.{ne_eqb}
use Rattle.demand.proofs.Weight.Bounds.{sums}

-- x is finite with a clear sign bit, and at most a / c
abbrev pub AtMost : Float → ℕ → ℕ → Type 0
AtMost nan a c = ⊥
AtMost (inf t) a c = ⊥
AtMost (fin t m e) a c = (t ≡ false) × (m * up e * c ≤ a * down e)

-- x is finite with a clear sign bit, and at least a / c
abbrev pub AtLeast : Float → ℕ → ℕ → Type 0
AtLeast nan a c = ⊥
AtLeast (inf t) a c = ⊥
AtLeast (fin t m e) a c = (t ≡ false) × (a * down e ≤ m * up e * c)

pub at_most : (x : Float) (a c : ℕ) → HasValue x false a c → AtMost x a c
at_most nan a c v = v
at_most (inf t) a c v = v
at_most (fin t m e) a c v = (v.0, le_of_eq v.1)

pub at_least : (x : Float) (a c : ℕ) → HasValue x false a c → AtLeast x a c
at_least nan a c v = v
at_least (inf t) a c v = v
at_least (fin t m e) a c v = (v.0, le_of_eq (sym v.1))

-- a bound by a fraction that is at least as large
wider : (x y a c b d : ℕ) → 0 < c → x * c ≤ a * y → a * d ≤ b * c → x * d ≤ b * y
wider x y a c b d p h k =
    le_of_mul-le-mul_right {k = c} (simp sums (omega (arith, simp sums at (mul-le-mul_right d h), simp sums at (mul-le-mul_right y k)))) p

-- ---- one rounding

abbrev clear : Float → Type 0
clear nan = ⊥
clear (inf t) = t ≡ false
clear (fin t m e) = t ≡ false

valued-clear : (x : Float) (a c : ℕ) → HasValue x false a c → clear x
valued-clear nan a c v = v
valued-clear (inf t) a c v = absurd v
valued-clear (fin t m e) a c v = v.0

units-clear : (f : Format) (q k : ℕ) → clear (units f false q k)
unfolding units
units-clear f q k = either (ltb (q * 2 ^ k) (2 ^ (low f + suc (emax f))))
  where
    either : (b : Bool) → clear (cond b (odd (suc (prec f)) false q k (low f)) (inf false))
    either true = valued-clear (odd (suc (prec f)) false q k (low f)) (q * 2 ^ k) (2 ^ low f) (odd_sign (suc (prec f)) false q k (low f))
    either false = refl

round-clear : (f : Format) (a c : ℕ) → clear (round f false a c)
round-clear f a c = subst clear (sym (round_is f false a c)) (units-clear f _ _)

compared : (a b : ℕ) → T (ltb a b || (eqb a b && true)) → a ≤ b
compared a b t = go (ltb a b) (eqb a b) (ltb→lt a b) (eqb→eq a b) t
  where
    go : (l e : Bool) → (T l → a < b) → (T e → a ≡ b) → T (l || (e && true)) → a ≤ b
    go true e f g t = le_of_lt (f tt)
    go false true f g t = le_of_eq (g tt)
    go false false f g t = absurd t

pub below-value : (x y : Float) (b d : ℕ) → clear x → T (le x y) → HasValue y false b d → AtMost x b d
unfolding le
below-value nan y b d s h v = absurd s
below-value (inf t) nan b d s h v = absurd v
below-value (inf t) (inf u) b d s h v = absurd v
below-value (inf true) (fin u n k) b d s h v = absurd (true≢false s)
below-value (inf false) (fin u n k) b d s h v = absurd h
below-value (fin t m e) nan b d s h v = absurd v
below-value (fin t m e) (inf u) b d s h v = absurd v
below-value (fin true m e) (fin u n k) b d s h v = absurd (true≢false s)
below-value (fin false m e) (fin true n k) b d s h v = absurd (true≢false v.0)
below-value (fin false m e) (fin false n k) b d s h v =
    (refl, through (m * up e) (n * up k) (down e) (down k) b d (down_pos k) (compared (m * up e * down k) (n * up k * down e) h) v.1)
  where
    through : (x y p q b d : ℕ) → 0 < q → x * q ≤ y * p → y * d ≡ b * q → x * d ≤ b * p
    through x y p q b d z h v =
        le_of_mul-le-mul_right {k = q} (simp sums (omega (arith, simp sums at (mul-le-mul_right d h), simp sums at (ap (λ (n : ℕ). n * p) v)))) z

above-value : (x y : Float) (a c b d : ℕ) → AtMost x a c → T (le y x) → HasValue y false b d → AtLeast x b d
unfolding le
above-value nan y a c b d w h v = absurd w
above-value (inf t) y a c b d w h v = absurd w
above-value (fin t m e) nan a c b d w h v = absurd v
above-value (fin t m e) (inf u) a c b d w h v = absurd v
above-value (fin true m e) (fin u n k) a c b d w h v = absurd (true≢false w.0)
above-value (fin false m e) (fin true n k) a c b d w h v = absurd (true≢false v.0)
above-value (fin false m e) (fin false n k) a c b d w h v =
    (refl, through (m * up e) (n * up k) (down e) (down k) b d (down_pos k) (compared (n * up k * down e) (m * up e * down k) h) v.1)
  where
    through : (x y p q b d : ℕ) → 0 < q → y * p ≤ x * q → y * d ≡ b * q → b * p ≤ x * d
    through x y p q b d z h v =
        le_of_mul-le-mul_right {k = q} (simp sums (omega (arith, simp sums at (mul-le-mul_right d h), simp sums at (ap (λ (n : ℕ). n * p) v)))) z

-- a quotient by a float that is at least s / t, for an s above 0, is one rounding
above_zero : (n u s t d : ℕ) → 0 < s → 0 < d → s * d ≤ n * u * t → 0 < n * u
above_zero n u s t d S D h = pos_of_ne-zero (λ z. lt_irrefl 0 (lt_of_lt_of_le (mul-pos S D) (le_trans h (le_of_eq (ap (λ (i : ℕ). i * t) z ∙ zero-mul t)))))

quotient-rounded : (f : Format) (m n : ℕ) (e k : ℤ) (s t : ℕ) → 0 < s → s * down k ≤ n * up k * t → div f (fin false m e) (fin false n k) ≡ round f false (m * up e * down k) (n * up k * down e)
unfolding div
quotient-rounded f m n e k s t S h = simp (ne_eqb n 0 not-zero)
  where
    not-zero : n ≡ 0 → ⊥
    not-zero z = lt_irrefl 0 (lt_of_lt_of_le (above_zero n (up k) s t (down k) S (down_pos k) h) (le_of_eq (ap (λ (i : ℕ). i * up k) z ∙ zero-mul (up k))))

module _ (f : Format) (b d : ℕ) (exactly : HasValue (round f false b d) false b d) (D : 0 < d) where
  -- a fraction that is at most one that the format holds is rounded to at most that
  pub round-at-most : (a c : ℕ) → 0 < c → a * d ≤ b * c → AtMost (round f false a c) b d
  round-at-most a c C h = below-value (round f false a c) (round f false b d) b d (round-clear f a c) (round_mono f a c b d C D h) exactly

  -- and one that is at least that, and not too large, to at least that
  pub round-at-least : (a c g h : ℕ) → 0 < c → b * c ≤ a * d → AtMost (round f false a c) g h → AtLeast (round f false a c) b d
  round-at-least a c g h C k m = above-value (round f false a c) (round f false b d) g h b d m (round_mono f b d a c D C k) exactly

  -- ---- the operations

  pub mul-at-most : (x y : Float) (p q s t : ℕ) → 0 < q → 0 < t → p * s * d ≤ b * (q * t) → AtMost x p q → AtMost y s t → AtMost (mul f x y) b d
  unfolding mul
  mul-at-most nan y p q s t Q U h v w = absurd v
  mul-at-most (inf u) y p q s t Q U h v w = absurd v
  mul-at-most (fin u m e) nan p q s t Q U h v w = absurd w
  mul-at-most (fin u m e) (inf r) p q s t Q U h v w = absurd w
  mul-at-most (fin true m e) (fin r n k) p q s t Q U h v w = absurd (true≢false v.0)
  mul-at-most (fin false m e) (fin true n k) p q s t Q U h v w = absurd (true≢false w.0)
  mul-at-most (fin false m e) (fin false n k) p q s t Q U h v w =
      round-at-most (m * up e * (n * up k)) (down e * down k) (mul-pos (down_pos e) (down_pos k))
      (wider (m * up e * (n * up k)) (down e * down k) (p * s) (q * t) b d (mul-pos Q U) (product (m * up e) (n * up k) (down e) (down k) p q s t v.1 w.1) h)
    where
      product : (a b c d p q s t : ℕ) → a * q ≤ p * c → b * t ≤ s * d → a * b * (q * t) ≤ p * s * (c * d)
      product a b c d p q s t h k =
          le_trans (le_of_eq (mul-mul-mul_comm a b q t)) (le_trans (mul-le-mul h k) (le_of_eq (mul-mul-mul_comm p c s d)))

  pub add-at-most : (x y : Float) (p q s t : ℕ) → 0 < q → 0 < t → (p * t + s * q) * d ≤ b * (q * t) → AtMost x p q → AtMost y s t → AtMost (add f x y) b d
  unfolding add sum
  add-at-most nan y p q s t Q U h v w = absurd v
  add-at-most (inf u) y p q s t Q U h v w = absurd v
  add-at-most (fin u m e) nan p q s t Q U h v w = absurd w
  add-at-most (fin u m e) (inf r) p q s t Q U h v w = absurd w
  add-at-most (fin true m e) (fin r n k) p q s t Q U h v w = absurd (true≢false v.0)
  add-at-most (fin false m e) (fin true n k) p q s t Q U h v w = absurd (true≢false w.0)
  add-at-most (fin false m e) (fin false n k) p q s t Q U h v w =
      round-at-most (m * up e * down k + n * up k * down e) (down e * down k) (mul-pos (down_pos e) (down_pos k))
      (wider (m * up e * down k + n * up k * down e) (down e * down k) (p * t + s * q) (q * t) b d (mul-pos Q U) (both (m * up e) (n * up k) (down e) (down k) p q s t v.1 w.1) h)
    where
      both : (a b c d p q s t : ℕ) → a * q ≤ p * c → b * t ≤ s * d → (a * d + b * c) * (q * t) ≤ (p * t + s * q) * (c * d)
      both a b c d p q s t h k = simp sums (omega (arith, simp sums at (mul-le-mul_right (t * d) h), simp sums at (mul-le-mul_right (q * c) k)))

  pub div-at-most : (x y : Float) (p q s t : ℕ) → 0 < q → 0 < s → p * t * d ≤ b * (q * s) → AtMost x p q → AtLeast y s t → AtMost (div f x y) b d
  div-at-most nan y p q s t Q U h v w = absurd v
  div-at-most (inf u) y p q s t Q U h v w = absurd v
  div-at-most (fin u m e) nan p q s t Q U h v w = absurd w
  div-at-most (fin u m e) (inf r) p q s t Q U h v w = absurd w
  div-at-most (fin true m e) (fin r n k) p q s t Q U h v w = absurd (true≢false v.0)
  div-at-most (fin false m e) (fin true n k) p q s t Q U h v w = absurd (true≢false w.0)
  div-at-most (fin false m e) (fin false n k) p q s t Q U h v w =
      subst (λ (z : Float). AtMost z b d) (sym (quotient-rounded f m n e k s t U w.1))
      (round-at-most (m * up e * down k) (n * up k * down e) (mul-pos (above_zero n (up k) s t (down k) U (down_pos k) w.1) (down_pos e))
      (wider (m * up e * down k) (n * up k * down e) (p * t) (q * s) b d (mul-pos Q U) (ratio (m * up e) (n * up k) (down e) (down k) p q s t v.1 w.1) h))
    where
      regroup : (p c b t : ℕ) → p * c * (b * t) ≡ p * t * (b * c)
      regroup p c b t = simp sums

      ratio : (a b c d p q s t : ℕ) → a * q ≤ p * c → s * d ≤ b * t → a * d * (q * s) ≤ p * t * (b * c)
      ratio a b c d p q s t h k =
          le_trans (le_of_eq (mul-mul-mul_comm a d q s ∙ ap (λ (i : ℕ). a * q * i) (mul_comm d s)))
          (le_trans (mul-le-mul h k) (le_of_eq (regroup p c b t)))

  -- y is at most s / t and at least i / j, for an i above 0
  pub div-at-least : (x y : Float) (p q s t i j g h : ℕ) → 0 < q → 0 < t → 0 < i → b * (q * s) ≤ p * t * d → AtLeast x p q → AtMost y s t → AtLeast y i j → AtMost (div f x y) g h → AtLeast (div f x y) b d
  div-at-least nan y p q s t i j g h Q U I k v w z r = absurd v
  div-at-least (inf u) y p q s t i j g h Q U I k v w z r = absurd v
  div-at-least (fin u m e) nan p q s t i j g h Q U I k v w z r = absurd w
  div-at-least (fin u m e) (inf l) p q s t i j g h Q U I k v w z r = absurd w
  div-at-least (fin true m e) (fin l n o) p q s t i j g h Q U I k v w z r = absurd (true≢false v.0)
  div-at-least (fin false m e) (fin true n o) p q s t i j g h Q U I k v w z r = absurd (true≢false w.0)
  div-at-least (fin false m e) (fin false n o) p q s t i j g h Q U I k v w z r =
      let is = quotient-rounded f m n e o i j I z.1 in
      subst (λ (z : Float). AtLeast z b d) (sym is)
      (round-at-least (m * up e * down o) (n * up o * down e) g h (mul-pos (above_zero n (up o) i j (down o) I (down_pos o) z.1) (down_pos e))
      (ratio (m * up e) (n * up o) (down e) (down o) b d p q s t (mul-pos U Q) k v.1 w.1) (subst (λ (z : Float). AtMost z g h) is r))
    where
      ratio : (A N c o b d p q s t : ℕ) → 0 < t * q → b * (q * s) ≤ p * t * d → p * c ≤ A * q → N * t ≤ s * o → b * (N * c) ≤ A * o * d
      ratio A N c o b d p q s t Z k v w =
          le_of_mul-le-mul_right {k = t * q}
          (simp sums (omega (arith, simp sums at (mul-le-mul_right (b * q * c) w), simp sums at (mul-le-mul_right (o * c) k), simp sums at (mul-le-mul_right (t * d * o) v)))) Z
