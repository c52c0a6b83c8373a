-- What it takes that a format holds a finite float: bounds on its significand and on its exponent.
use Rattle.std.proofs.Common.{◌≡◌, ℕ, zero, suc, ◌*◌, ◌%◌, ◌^◌, ◌<◌, ◌≤◌, Bool, ◌&&◌, T, eqb, ltb, leb, ℤ, pos, negsuc, sym, refl, ◌∙◌, subst, lt_of_lt_of_le, le_of_suc-le-suc, lt_irrefl, mul-pos, one-mul, lt_of_not-le, zero-mul, mul-one, arith, eqb→eq, ltb→lt, leb→le, pow_pos}
use native.Mathlib.Nat.{pow-succ'}
use lib.Pow.{pow-lt}
use lib.Ieee.{fin, Format, prec, emax, low, up, down, fits}
use lib.Ieee.Fits.{and_l, and_r, down_pos}

-- the tests of a number that is not zero: the significand, the smallest place, the largest value
record Parts (f : Format) (m : ℕ) (e : ℤ) : Type 0 where
  small : m < 2 ^ prec f
  place : down e ≤ 2 ^ low f
  top : m * up e < 2 ^ suc (emax f) * down e

parts : (f : Format) (s : Bool) (m : ℕ) (e : ℤ) → T (fits f (fin s (suc m) e)) → Parts f (suc m) e
unfolding fits
parts f s m e t =
    let A = eqb (suc m % 2) 1 in
    let B = ltb (suc m) (2 ^ prec f) in
    let C = leb (down e) (2 ^ low f) in
    let D = ltb (suc m * up e) (2 ^ suc (emax f) * down e) in
    record {
      small = ltb→lt (suc m) (2 ^ prec f) (and_r A B (and_l (A && B) C (and_l (A && B && C) D t)));
      place = leb→le (down e) (2 ^ low f) (and_r (A && B) C (and_l (A && B && C) D t));
      top = ltb→lt (suc m * up e) (2 ^ suc (emax f) * down e) (and_r (A && B && C) D t);
    }

-- a zero has the exponent 0
pub zero_exp : (f : Format) (s : Bool) (e : ℤ) → T (fits f (fin s zero e)) → e ≡ pos 0
unfolding fits
zero_exp f s e t = go e (eqb→eq (up e * down e) 1 t)
  where
    even : (p : ℕ) → 2 * p ≡ 1 → ⊥
    even p e = omega arith

    go : (e : ℤ) → up e * down e ≡ 1 → e ≡ pos 0
    go (pos zero) h = refl
    go (pos (suc k)) h = absurd (even (2 ^ k) (sym (pow-succ' 2 k) ∙ sym (mul-one (2 ^ suc k)) ∙ h))
    go (negsuc k) h = absurd (even (2 ^ k) (sym (pow-succ' 2 k) ∙ sym (one-mul (2 ^ suc k)) ∙ h))

pub fits-small : (f : Format) (s : Bool) (m : ℕ) (e : ℤ) → T (fits f (fin s m e)) → m < 2 ^ prec f
fits-small f s zero e t = pow_pos (prec f)
fits-small f s (suc m) e t = (parts f s m e t).small

pub fits-top : (f : Format) (s : Bool) (m : ℕ) (e : ℤ) → T (fits f (fin s m e)) → m * up e < 2 ^ suc (emax f) * down e
fits-top f s zero e t = subst (λ (x : ℕ). x < 2 ^ suc (emax f) * down e) (sym (zero-mul (up e))) (mul-pos (pow_pos (suc (emax f))) (down_pos e))
fits-top f s (suc m) e t = (parts f s m e t).top

pub fits-down : (f : Format) (s : Bool) (m : ℕ) (e : ℤ) → T (fits f (fin s m e)) → down e ≤ 2 ^ low f
fits-down f s zero e t = subst (λ (d : ℤ). down d ≤ 2 ^ low f) (sym (zero_exp f s e t)) (pow_pos (low f))
fits-down f s (suc m) e t = (parts f s m e t).place

pub pow_le_back : (a l : ℕ) → 2 ^ a ≤ 2 ^ l → a ≤ l
pow_le_back a l h = le_of_suc-le-suc (lt_of_not-le (λ (g : suc l ≤ a). lt_irrefl (2 ^ l) (lt_of_lt_of_le (pow-lt g) h)))
