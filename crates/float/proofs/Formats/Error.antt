-- The relative error of one rounding, in either format and with either sign: a fraction in the normal range is rounded to within one part in 2 ^ prec of itself.
-- A float that is finite and above zero is `num` / `den` (`lib.Ieee.Positive`).
use Rattle.std.proofs.Common.{◌≡◌, ℕ, zero, suc, ◌+◌, ◌-◌, ◌*◌, ◌/◌, ◌^◌, ◌<◌, ◌≤◌, Bool, true, false, cond, T, eqb, ℤ, sym, refl, ap, ◌∙◌, subst, le_trans, le_of_eq, lt_of_lt_of_le, lt_of_le_of_lt, mul-le-mul_right, mul_assoc, mul_comm, mul-le-mul_left, mul-pos, le-div_iff_mul-le, mul_right_comm, le_of_mul-le-mul_right, mul_left_comm, arith, lit<, lit≤, eqb→eq, ltb→lt, pow_pos, pow-add}
use native.Mathlib.Nat.{pow-succ'}
use lib.Dec.{not_T}
use lib.Ieee.Bits.{cond_no}
use lib.Ieee.{Float, nan, inf, fin, Format, binary32, binary64, prec, emax, low, size, up, down, round, mul, div, neg}
use lib.Ieee.Digits.{size_reaches}
use lib.Ieee.Exact.{HasValue}
use lib.Ieee.Order.{drop, kept}
use lib.Ieee.Scale.{grid, overflow, round_val, round_under, finite, normal_of_fraction}
use lib.Ieee.Positive.{num, den, positive, value→cross, positive_of_value, first_pos}
use Rattle.float.proofs.Formats.Nearest.{closest-up, closest-down}
use Rattle.float.proofs.Formats.Values.{neg-round, neg-neg}

-- ---- in units of what is dropped: the rounded number against n / c, with p digits kept
-- 2 ^ p is twice 2 ^ (p - 1), and one more than 2 ^ p - 1
halved : (p : ℕ) → 0 < p → 2 ^ p ≡ 2 * 2 ^ (p - 1)
halved p h = ap (λ (z : ℕ). 2 ^ z) (next p h) ∙ pow-succ' 2 (p - 1)
  where
    next : (p : ℕ) → 0 < p → p ≡ suc (p - 1)
    next p h = omega arith

-- what is dropped is at most 2 ^ -(p - 1) of n / c
unit-le : (p n c : ℕ) → 0 < p → 0 < c → p ≤ size (n / c) → c * 2 ^ drop p n c * 2 ^ (p - 1) ≤ n
unit-le p n c P C N =
    let k = size (n / c) - p in
    let l : p - 1 + k < size (n / c) = omega arith in
    let r : 2 ^ (p - 1 + k) * c ≤ n = (le-div_iff_mul-le C).0 (size_reaches (n / c) (p - 1 + k) l) in
    le_trans (le_of_eq (turn c (2 ^ k) (2 ^ (p - 1)) ∙ ap (λ (x : ℕ). x * c) (sym (pow-add 2 (p - 1) k)))) r
  where
    turn : (a b d : ℕ) → a * b * d ≡ d * b * a
    turn a b d = simp (mul_assoc, mul_comm, mul_left_comm)

-- twice the rounded number and its bounds, by `closest`
module _ (p n c : ℕ) (P : 0 < p) (C : 0 < c) (N : p ≤ size (n / c)) where
  abbrev rounded : ℕ
  rounded = kept p n c * 2 ^ drop p n c * c

  abbrev unit : ℕ
  unit = c * 2 ^ drop p n c

  scaled : kept p n c * unit ≡ rounded
  scaled = regroup (kept p n c) (2 ^ drop p n c) c
    where
      regroup : (q k c : ℕ) → q * (c * k) ≡ q * k * c
      regroup q k c = simp (mul_assoc, mul_comm)

  pub grid-up : rounded * 2 ^ p ≤ n * (2 ^ p + 1)
  grid-up = go rounded unit (2 ^ (p - 1)) (2 ^ p) (halved p P) (subst (λ (x : ℕ). x * 2 ≤ n * 2 + unit) scaled (closest-up n unit)) (unit-le p n c P C N)
    where
      go : (g u H Q : ℕ) → Q ≡ 2 * H → g * 2 ≤ n * 2 + u → u * H ≤ n → g * Q ≤ n * (Q + 1)
      go g u H Q e h k = rw e (omega (arith, mul-le-mul_right H h))

  pub grid-down : n * (2 ^ p - 1) ≤ rounded * 2 ^ p
  grid-down = go rounded unit (2 ^ (p - 1)) (2 ^ p) (2 ^ p - 1) (halved p P) (less (2 ^ p) (pow_pos p)) (subst (λ (x : ℕ). n * 2 ≤ x * 2 + unit) scaled (closest-down n unit (mul-pos C (pow_pos (drop p n c))))) (unit-le p n c P C N)
    where
      less : (q : ℕ) → 0 < q → q - 1 + 1 ≡ q
      less q h = omega arith

      go : (g u H Q K : ℕ) → Q ≡ 2 * H → K + 1 ≡ Q → n * 2 ≤ g * 2 + u → u * H ≤ n → n * K ≤ g * Q
      go g u H Q K e f h k = rw e (omega (arith, mul-le-mul_right H h, ap (λ (z : ℕ). n * z) (f ∙ e)))

-- ---- as fractions: where v / w is g / l, a bound on g / l against a / c is one on v / w
module _ (a c g l v w M N : ℕ) (L : 0 < l) (e : v * l ≡ g * w) where
  left : a * w * M * l ≡ a * l * M * w
  left = swap a w M l
    where
      swap : (a b c d : ℕ) → a * b * c * d ≡ a * d * c * b
      swap a b c d = simp (mul_assoc, mul_comm, mul_left_comm)

  right : v * c * N * l ≡ g * c * N * w
  right = turn v c N l ∙ ap (λ (x : ℕ). x * (c * N)) e ∙ sym (turn g c N w)
    where
      turn : (a b c d : ℕ) → a * b * c * d ≡ a * d * (b * c)
      turn a b c d = simp (mul_assoc, mul_comm, mul_left_comm)

  low_of : a * l * M ≤ g * c * N → a * w * M ≤ v * c * N
  low_of h = le_of_mul-le-mul_right (le_trans (le_of_eq left) (le_trans (mul-le-mul_right w h) (le_of_eq (sym right)))) L

  high-of : g * c * N ≤ a * l * M → v * c * N ≤ a * w * M
  high-of h = le_of_mul-le-mul_right (le_trans (le_of_eq right) (le_trans (mul-le-mul_right w h) (le_of_eq (sym left)))) L

-- x is finite and above zero, and within one part in 2 ^ prec of a / c
pub record Near (f : Format) (x : Float) (a c : ℕ) : Type 0 where
  pub above : T (positive x)
  pub low : a * den x * (2 ^ prec f - 1) ≤ num x * c * 2 ^ prec f
  pub high : num x * c * 2 ^ prec f ≤ a * den x * (2 ^ prec f + 1)

-- the numbers of the two formats
prec-pos : (f : Format) → 0 < prec f
prec-pos binary32 = lit< tt
prec-pos binary64 = lit< tt

two : (f : Format) → 2 ≤ 2 ^ prec f
two binary32 = lit≤ tt
two binary64 = lit≤ tt

low_parts : (f : Format) → 2 ^ low f ≡ 2 ^ (emax f - 1) * 2 ^ (prec f - 1)
low_parts binary32 = refl
low_parts binary64 = refl

room : (f : Format) → 2 ^ (emax f - 1) * 2 ^ low f * 2 < overflow f
room binary32 = lit< tt
room binary64 = lit< tt

-- one part in P more is less than twice
double : (y z P : ℕ) → 0 < P → y * P ≤ z * (P + 1) → y ≤ z * 2
double y z P p h = le_of_mul-le-mul_right {k = P} (le_trans h (omega (arith, mul-le-mul_left z p))) p

-- a / c is 2 ^ -(emax - 1) or more, so in the normal range
module _ (f : Format) (a c : ℕ) (C : 0 < c) (lo : c ≤ a * 2 ^ (emax f - 1)) where
  units_of : 2 ^ (prec f - 1) * c ≤ a * 2 ^ low f
  units_of =
      le_trans (mul-le-mul_left (2 ^ (prec f - 1)) lo)
      (le_of_eq (mul_left_comm (2 ^ (prec f - 1)) a (2 ^ (emax f - 1)) ∙ ap (λ (z : ℕ). a * z) (mul_comm (2 ^ (prec f - 1)) (2 ^ (emax f - 1)) ∙ sym (low_parts f))))

  normal : prec f ≤ size (a * 2 ^ low f / c)
  normal = normal_of_fraction f a c C units_of

-- a / c between 2 ^ -(emax - 1) and 2 ^ (emax - 1)
pub round-near : (f : Format) (a c : ℕ) → 0 < c → c ≤ a * 2 ^ (emax f - 1) → a ≤ c * 2 ^ (emax f - 1) → Near f (round f false a c) a c
round-near f a c C lo hi =
    let n = a * 2 ^ low f in
    let g = grid f a c in
    let x = round f false a c in
    let P = 2 ^ prec f in
    let N = normal f a c C lo in
    let u = grid-up (prec f) n c (prec-pos f) C N in
    let d = grid-down (prec f) n c (prec-pos f) C N in
    let twice : g * c ≤ n * 2 = double (g * c) n P (pow_pos (prec f)) u in
    let top : n * 2 ≤ 2 ^ (emax f - 1) * 2 ^ low f * 2 * c = le_trans (mul-le-mul_right 2 (mul-le-mul_right (2 ^ low f) hi)) (le_of_eq (turn c (2 ^ (emax f - 1)) (2 ^ low f) 2)) in
    let under : g < overflow f = lt_of_le_of_lt (le_of_mul-le-mul_right (le_trans twice top) C) (room f) in
    let v = round_val f a c under in
    record {
      above = positive_of_value x g (2 ^ low f) v (first_pos g c (some (g * c) n P (two f) (lt_of_lt_of_le (mul-pos (pow_pos (prec f - 1)) C) (units_of f a c C lo)) d));
      low = low_of a c g (2 ^ low f) (num x) (den x) (P - 1) P (pow_pos (low f)) (value→cross x g (2 ^ low f) v) d;
      high = high-of a c g (2 ^ low f) (num x) (den x) (P + 1) P (pow_pos (low f)) (value→cross x g (2 ^ low f) v) u;
    }
  where
    turn : (a b c d : ℕ) → a * b * c * d ≡ b * c * d * a
    turn a b c d = simp (mul_assoc, mul_comm, mul_left_comm)

    some : (y n P : ℕ) → 2 ≤ P → 0 < n → n * (P - 1) ≤ y * P → 0 < y
    some zero n P h p k = absurd (never n P h p k)
      where
        never : (n P : ℕ) → 2 ≤ P → 0 < n → n * (P - 1) ≤ 0 * P → ⊥
        never n P h p k = let q : 0 < n * (P - 1) = mul-pos p (omega arith) in omega arith
    some (suc y) n P h p k = omega arith

-- ---- the operations on two values that are finite and above zero
pub div_is : (f : Format) (x y : Float) → T (positive x) → T (positive y) → div f x y ≡ round f false (num x * den y) (num y * den x)
unfolding div
div_is f nan y p q = absurd p
div_is f (inf s) y p q = absurd p
div_is f (fin true m e) y p q = absurd p
div_is f (fin false m e) nan p q = absurd q
div_is f (fin false m e) (inf t) p q = absurd q
div_is f (fin false m e) (fin true n d) p q = absurd q
div_is f (fin false m e) (fin false n d) p q =
    cond_no (eqb n 0) (cond (eqb m 0) nan (inf false)) (round f false (m * up e * down d) (n * up d * down e)) (not_T (eqb n 0) (λ (u : T (eqb n 0)). no n (ltb→lt 0 n q) (eqb→eq n 0 u)))
  where
    no : (k : ℕ) → 0 < k → k ≡ 0 → ⊥
    no k h z = omega arith

pub mul_is : (f : Format) (x y : Float) → T (positive x) → T (positive y) → mul f x y ≡ round f false (num x * num y) (den x * den y)
unfolding mul
mul_is f nan y p q = absurd p
mul_is f (inf s) y p q = absurd p
mul_is f (fin true m e) y p q = absurd p
mul_is f (fin false m e) nan p q = absurd q
mul_is f (fin false m e) (inf t) p q = absurd q
mul_is f (fin false m e) (fin true n d) p q = absurd q
mul_is f (fin false m e) (fin false n d) p q = refl

-- ---- how large: where a / c is at least 1 / p, or at most p, x is at least half of that, or at most twice
module _ (f : Format) (x : Float) (a c p : ℕ) (C : 0 < c) (near : Near f x a c) where
  pub near-lo : c ≤ a * p → den x ≤ num x * (p * 2)
  near-lo h =
      let P = 2 ^ prec f in
      let s : den x * (P - 1) * c ≤ num x * p * P * c =
      le_trans (le_of_eq (mul_right_comm (den x) (P - 1) c ∙ ap (λ (y : ℕ). y * (P - 1)) (mul_comm (den x) c)))
      (le_trans (mul-le-mul_right (P - 1) (mul-le-mul_right (den x) h))
      (le_trans (le_of_eq (out a p (den x) (P - 1)))
      (le_trans (mul-le-mul_right p near.low) (le_of_eq (in-to (num x) c P p))))) in
      le_trans (half (den x) (num x * p) P (two f) (le_of_mul-le-mul_right s C)) (le_of_eq (mul_assoc (num x) p 2))
    where
      out : (a b c d : ℕ) → a * b * c * d ≡ a * c * d * b
      out a b c d = simp (mul_assoc, mul_comm, mul_left_comm)

      in-to : (a b c d : ℕ) → a * b * c * d ≡ a * d * c * b
      in-to a b c d = simp (mul_assoc, mul_comm, mul_left_comm)

      half : (y z P : ℕ) → 2 ≤ P → y * (P - 1) ≤ z * P → y ≤ z * 2
      half y z P h k = le_of_mul-le-mul_right {k = P - 1} (le_trans k (le_trans (mul-le-mul_left z (twice P h)) (le_of_eq (sym (mul_assoc z 2 (P - 1)))))) (above-one P h)
        where
          twice : (P : ℕ) → 2 ≤ P → P ≤ 2 * (P - 1)
          twice P h = omega arith

          above-one : (P : ℕ) → 2 ≤ P → 0 < P - 1
          above-one P h = omega arith

  pub near-hi : a ≤ c * p → num x ≤ den x * (p * 2)
  near-hi h =
      let P = 2 ^ prec f in
      let s : num x * P * c ≤ den x * p * (P + 1) * c =
      le_trans (le_of_eq (mul_right_comm (num x) P c))
      (le_trans near.high
      (le_trans (mul-le-mul_right (P + 1) (mul-le-mul_right (den x) h)) (le_of_eq (in-to c p (den x) (P + 1))))) in
      le_trans (double (num x) (den x * p) P (pow_pos (prec f)) (le_of_mul-le-mul_right s C)) (le_of_eq (mul_assoc (den x) p 2))
    where
      in-to : (a b c d : ℕ) → a * b * c * d ≡ c * b * d * a
      in-to a b c d = simp (mul_assoc, mul_comm, mul_left_comm)

-- ---- the same of what `round` wrote, with either sign, and up to the overflow
-- Where a / c is in the normal range and is rounded to the finite number m * 2 ^ e, the two differ by at most one part in 2 ^ prec of a / c.
error-pos : (f : Format) (a c m : ℕ) (e : ℤ) → 0 < c → c ≤ a * 2 ^ (emax f - 1) → round f false a c ≡ fin false m e
    → (a * down e * (2 ^ prec f - 1) ≤ m * up e * c * 2 ^ prec f) × (m * up e * c * 2 ^ prec f ≤ a * down e * (2 ^ prec f + 1))
error-pos f a c m e C lo p =
    let P = 2 ^ prec f in
    let N = normal f a c C lo in
    let g = grid f a c in
    let v : HasValue (fin false m e) false g (2 ^ low f) = subst (λ (x : Float). HasValue x false g (2 ^ low f)) p (round_val f a c (round_under f a c (subst (λ (x : Float). T (finite x)) (sym p) tt))) in (
      low_of a c g (2 ^ low f) (m * up e) (down e) (P - 1) P (pow_pos (low f)) v.1 (grid-down (prec f) (a * 2 ^ low f) c (prec-pos f) C N),
      high-of a c g (2 ^ low f) (m * up e) (down e) (P + 1) P (pow_pos (low f)) v.1 (grid-up (prec f) (a * 2 ^ low f) c (prec-pos f) C N),
    )

flipped : (m : ℕ) (e : ℤ) → neg (fin true m e) ≡ fin false m e
unfolding neg
flipped m e = refl

pub round-error : (f : Format) (s : Bool) (a c m : ℕ) (e : ℤ) → 0 < c → c ≤ a * 2 ^ (emax f - 1) → round f s a c ≡ fin s m e
    → (a * down e * (2 ^ prec f - 1) ≤ m * up e * c * 2 ^ prec f) × (m * up e * c * 2 ^ prec f ≤ a * down e * (2 ^ prec f + 1))
round-error f false a c m e C lo p = error-pos f a c m e C lo p
round-error f true a c m e C lo p = error-pos f a c m e C lo (sym (neg-neg (round f false a c)) ∙ ap neg (neg-round f a c ∙ p) ∙ flipped m e)
