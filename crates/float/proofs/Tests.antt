-- What a Bool test of the code says of a float.
use Rattle.std.proofs.Common.{◌≡◌, ℕ, ◌*◌, Bool, true, false, not, ◌&&◌, T, eqb, ℤ, sym, refl, ap, subst}
use mathlib.Core.Bool.{false≢true}
use lib.Dec.{eqb_refl}
use lib.Ieee.{Float, nan, inf, fin, up, down, ne, is_nan}
use lib.Ieee.Bits.{is_true}

pub yes : {b : Bool} → b ≡ true → T b
yes e = subst T (sym e) tt

pub no : {b : Bool} → b ≡ false → T (not b)
no e = subst (λ (x : Bool). T (not x)) (sym e) tt

same : (m : ℕ) (e : ℤ) → not (eqb (m * up e * down e) (m * up e * down e) && true) ≡ false
same m e = ap (λ (b : Bool). not (b && true)) (is_true (eqb (m * up e * down e) (m * up e * down e)) (eqb_refl (m * up e * down e)))

-- `x != x` is the test for a NaN
pub nan-test : (x : Float) → ne x x ≡ is_nan x
unfolding ne is_nan
nan-test nan = refl
nan-test (inf true) = refl
nan-test (inf false) = refl
nan-test (fin true m e) = same m e
nan-test (fin false m e) = same m e

pub nan_is : (x : Float) → is_nan x ≡ true → x ≡ nan
unfolding is_nan
nan_is nan h = refl
nan_is (inf s) h = absurd (false≢true h)
nan_is (fin s m e) h = absurd (false≢true h)
