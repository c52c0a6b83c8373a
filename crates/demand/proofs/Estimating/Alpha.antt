-- Alpha is exact: a whole number of parts, at most S, over S.
use mathlib.Core.Path.{◌≡◌, refl, sym, ap, ◌∙◌}
use mathlib.Core.Bool.{Bool, true, false, cond}
use Prim.Native.Nat.{ℕ, zero, suc, ◌-◌, ◌*◌, ◌/◌, ◌%◌, ◌^◌, ◌≤◌, ◌<◌, zero-le}
use native.Mathlib.Nat.{mul_assoc, mul_comm, le_refl, le_trans, le_of_lt, mul-pos, mul-le-mul, lt_of_le_of_lt, mul-lt-mul_of_pos_right, sub-le, div-le_of_le-mul, mod-lt, pos_of_ne-zero}
use lib.Dec.{lit<, lit≤, leb, eqb}
use borrow.Author.Tests.{eqb-false}
use lib.IntN.{pos}
use lib.Pow.{pow_pos, pow-add}
use lib.Ieee.{Float, nan, inf, fin, binary64, up, down, unlike, round, div, of_int}
use lib.Ieee.Fits.{down_pos}
use lib.Ieee.Exact.{HasValue, round_exact}
use lib.Ieee.Scale.{round_same}
use lib.Ieee.Back.{round_whole}
use Rattle.demand.specs.Decay.Weight.{S, next, term, sum, series, power, weight}
use Rattle.demand.specs.Estimators.Estimator.{whole, alpha}
use Rattle.demand.proofs.Weight.Division.{scaled-lt}
use Rattle.demand.proofs.Weight.Terms.{sum-le}

-- ---- the weight is at most S

first-power-le : series S ≤ S
unfolding next term sum series
first-power-le = lit≤ tt

pub power_le : (q : ℕ) → power q ≤ S
unfolding power
power_le zero = le_refl S
power_le (suc q) = div-le_of_le-mul S (mul-le-mul (power_le q) first-power-le)

pub series-le : (y : ℕ) → y ≤ S → series y ≤ S
unfolding series
series-le y h = sum-le y 10 h

pub weight-le : (e c : ℕ) → weight e c ≤ S
unfolding weight
weight-le e c = by-constant (eqb c 0) refl
  where
    late : (b : Bool) (n : ℕ) → n ≤ S → cond b 0 n ≤ S
    late true n h = zero-le
    late false n h = h

    by-constant : (b : Bool) → eqb c 0 ≡ b → cond b 0 (cond (leb 37 (e / c)) 0 (series (e % c * S / c) * power (e / c) / S)) ≤ S
    by-constant true t = zero-le
    by-constant false t =
        late (leb 37 (e / c)) _
        (div-le_of_le-mul S (mul-le-mul (series-le _ (le_of_lt (scaled-lt (e % c) S c (mod-lt e (pos_of_ne-zero (eqb-false c 0 t))) (lit< tt)))) (power_le (e / c))))

-- ---- the division by S rounds nothing

one-over : whole S ≡ fin false 1 (pos 52)
unfolding of_int
one-over = refl

over : (x : Float) (n : ℕ) → HasValue x false n 1 → div binary64 x (fin false 1 (pos 52)) ≡ round binary64 false n S
unfolding div
over nan n v = absurd v
over (inf t) n v = absurd v
over (fin t m e) n v =
    ap (λ (s : Bool). round binary64 (unlike s false) (m * up e * 1) (1 * 2 ^ 52 * down e)) v.0
    ∙ round_same binary64 false (m * up e * 1) (1 * 2 ^ 52 * down e) n S (mul-pos (lit< tt) (down_pos e)) (lit< tt)
    (ap (λ (k : ℕ). k * 2 ^ 52) v.1 ∙ mul_assoc n (down e) (2 ^ 52) ∙ ap (λ (k : ℕ). n * k) (mul_comm (down e) (2 ^ 52)))

pub parts-over : (n : ℕ) → n ≤ S → div binary64 (whole n) (whole S) ≡ round binary64 false n S
unfolding of_int
parts-over n h = ap (div binary64 (whole n)) one-over ∙ over (round binary64 false n 1) n (round_whole binary64 false n (le_trans h (lit≤ tt)))

pub parts-exact : (n : ℕ) → n ≤ S → HasValue (round binary64 false n S) false n S
parts-exact n h =
    let small : n < 2 ^ 53 = lt_of_le_of_lt h (lit< tt) in
    round_exact binary64 false n S n 1022 (lit< tt) small
    (le_trans (mul-lt-mul_of_pos_right small (pow_pos 1022)) (lit≤ tt))
    (ap (λ (k : ℕ). n * k) (pow-add 2 1022 52) ∙ sym (mul_assoc n (2 ^ 1022) (2 ^ 52)))

-- 01: 'Alpha is (S − D) ÷ S, exact in f64'
pub alpha-exact : (e c : ℕ) → HasValue (alpha e c) false (S - weight e c) S
unfolding alpha
alpha-exact e c = parts-exact (S - weight e c) (sub-le S (weight e c))
