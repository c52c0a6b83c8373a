-- Floats by their exact values: `HasValue x s a c` says that x is a / c in size, with the sign s.
use Rattle.std.proofs.Common.{◌≡◌, ℕ, zero, suc, ◌+◌, ◌*◌, ◌^◌, ◌<◌, Bool, true, false, cond, not, T, ltb, sym, refl, ap, ◌∙◌, mul_right_comm}
use native.Mathlib.Nat.{eq_of_mul-eq-mul_right}
use lib.Ieee.{Float, nan, inf, fin, Format, prec, emax, low, up, down, odd, units, round, neg, is_nan}
use lib.Ieee.Fits.{round_is}
use lib.Ieee.Exact.{HasValue}

-- one value as two fractions
pub rescale : (x : Float) (s : Bool) (w l a c : ℕ) → 0 < l → a * l ≡ w * c → HasValue x s w l → HasValue x s a c
rescale nan s w l a c L e h = h
rescale (inf t) s w l a c L e h = h
rescale (fin t m d) s w l a c L e (sign, h) = (sign, eq_of_mul-eq-mul_right l L (m * up d * c) (a * down d) both)
  where
    both : m * up d * c * l ≡ a * down d * l
    both = mul_right_comm (m * up d) c l ∙ ap (λ (z : ℕ). z * c) h ∙ mul_right_comm w (down d) c ∙ ap (λ (z : ℕ). z * down d) (sym e) ∙ mul_right_comm a l (down d)

pub not-nan : (x : Float) (s : Bool) (a c : ℕ) → HasValue x s a c → T (not (is_nan x))
unfolding is_nan
not-nan nan s a c h = absurd h
not-nan (inf t) s a c h = tt
not-nan (fin t m e) s a c h = tt

-- the negated float of a fraction is the float of the negated fraction
pub neg-odd : (d q k l : ℕ) → neg (odd d false q k l) ≡ odd d true q k l
unfolding neg odd
neg-odd d zero k l = refl
neg-odd d (suc q) k l = refl

neg-units : (f : Format) (q k : ℕ) → neg (units f false q k) ≡ units f true q k
unfolding units neg
neg-units f q k = go (ltb (q * 2 ^ k) (2 ^ (low f + suc (emax f))))
  where
    go : (b : Bool) → neg (cond b (odd (suc (prec f)) false q k (low f)) (inf false)) ≡ cond b (odd (suc (prec f)) true q k (low f)) (inf true)
    go true = neg-odd (suc (prec f)) q k (low f)
    go false = refl

pub neg-round : (f : Format) (a c : ℕ) → neg (round f false a c) ≡ round f true a c
neg-round f a c = ap neg (round_is f false a c) ∙ neg-units f _ _ ∙ sym (round_is f true a c)

pub neg-neg : (x : Float) → neg (neg x) ≡ x
unfolding neg
neg-neg nan = refl
neg-neg (inf true) = refl
neg-neg (inf false) = refl
neg-neg (fin true m e) = refl
neg-neg (fin false m e) = refl
