-- Bit patterns, of either format: which are finite with a clear sign bit.
use Rattle.std.proofs.Common.{◌≡◌, ℕ, zero, suc, ◌+◌, ◌*◌, ◌/◌, ◌%◌, ◌<◌, ◌≤◌, Bool, true, false, cond, not, ◌&&◌, T, eqb, ltb, leb, sym, refl, ap, ◌∙◌, zero-le, le_trans, le_of_eq, lt_of_lt_of_le, le_of_suc-le-suc, lt_of_le_of_lt, le_of_lt, mod-lt, mod-eq_of_lt, mul_comm, div-lt_iff_lt-mul, le-div_iff_mul-le, arith, pow_pos, ltb-true, le-ltb, lt-ltb, eqb-true, leb-false, leb-true}
use lib.Ieee.{Float, nan, inf, fin, Format, binary32, binary64, hid, ones, top, prec, low, odd, is_nan, fits, of_fields, of_bits, to_bits}
use lib.Ieee.Bits.{is_true, of_bits-to_bits}
use borrow.Author.Tests.{eqb-false}
use Rattle.float.specs.Magnitude.{magnitude}
use Rattle.questions.proofs.Tests.{split, same-ltb}

pub infinity-clear : (f : Format) → ones f * hid f < top f
infinity-clear binary32 = omega arith
infinity-clear binary64 = omega arith

-- ---- finite with a clear sign bit
odd-magnitude : (d : ℕ) (s : Bool) (q k l : ℕ) → magnitude (odd d s q k l) ≡ not s
unfolding odd
odd-magnitude d s zero k l = refl
odd-magnitude d s (suc q) k l = refl

not_finite : (b s : Bool) → magnitude (cond b (inf s) nan) ≡ false
not_finite true s = refl
not_finite false s = refl

fields-magnitude : (f : Format) (s : Bool) (x t : ℕ) → x ≤ ones f → magnitude (of_fields f s x t) ≡ (not s && ltb x (ones f))
unfolding of_fields
fields-magnitude f s zero t h = odd-magnitude (prec f) s t 0 (low f) ∙ always (not s) f
  where
    always : (b : Bool) (f : Format) → b ≡ (b && ltb 0 (ones f))
    always true binary32 = refl
    always true binary64 = refl
    always false f = refl
fields-magnitude f s (suc x) t h = split (eqb (suc x) (ones f))
    (λ e. ap (λ (b : Bool). magnitude (cond b (cond (eqb t 0) (inf s) nan) (odd (prec f) s (hid f + t) x (low f)))) e
    ∙ not_finite (eqb t 0) s
    ∙ sym (ap (λ (b : Bool). not s && b) (le-ltb (suc x) (ones f) (le_of_eq (sym (eqb-true (suc x) (ones f) e)))) ∙ off (not s)))
    (λ e. ap (λ (b : Bool). magnitude (cond b (cond (eqb t 0) (inf s) nan) (odd (prec f) s (hid f + t) x (low f)))) e
    ∙ odd-magnitude (prec f) s (hid f + t) x (low f)
    ∙ sym (ap (λ (b : Bool). not s && b) (lt-ltb (suc x) (ones f) (below (suc x) (ones f) h (eqb-false (suc x) (ones f) e))) ∙ on (not s)))
  where
    off : (b : Bool) → (b && false) ≡ false
    off true = refl
    off false = refl

    on : (b : Bool) → (b && true) ≡ b
    on true = refl
    on false = refl

    below : (a b : ℕ) → a ≤ b → (a ≡ b → ⊥) → a < b
    below a b l n = omega arith

hid-pos : (f : Format) → 0 < hid f
hid-pos f = pow_pos _

pub magnitude-bits : (f : Format) (b : ℕ) → ltb b (ones f * hid f) ≡ magnitude (of_bits f b)
unfolding of_bits
magnitude-bits f b = split (leb (top f) b)
    (λ s.
    le-ltb b (ones f * hid f) (le_trans (le_of_lt (infinity-clear f)) (leb-true (top f) b s))
    ∙ sym (ap (λ (z : Bool). magnitude (of_fields f z (b % top f / hid f) (b % hid f))) s ∙ fields-magnitude f true (b % top f / hid f) (b % hid f) (field (b % top f) (mod-lt b (top_pos f)))))
    (λ s.
    let u : b < top f = leb-false (top f) b s in
    let m : b % top f ≡ b = mod-eq_of_lt u in
    same-ltb b (ones f * hid f) (b / hid f) (ones f) (λ l. (div-lt_iff_lt-mul (hid-pos f)).1 l) (λ l. (le-div_iff_mul-le (hid-pos f)).1 l)
    ∙ sym (ap (λ (z : Bool). magnitude (of_fields f z (b % top f / hid f) (b % hid f))) s
    ∙ ap (λ (z : ℕ). magnitude (of_fields f false (z / hid f) (b % hid f))) m
    ∙ fields-magnitude f false (b / hid f) (b % hid f) (field b u)))
  where
    top_pos : (f : Format) → 0 < top f
    top_pos f = lt_of_le_of_lt zero-le (infinity-clear f)

    field : (b : ℕ) → b < top f → b / hid f ≤ ones f
    field b u = le_of_suc-le-suc ((div-lt_iff_lt-mul (hid-pos f)).1 (lt_of_lt_of_le u (le_of_eq (mul_comm (hid f) (suc (ones f))))))

-- the same of a float by its pattern
pub magnitude-of : (f : Format) (x : Float) → T (fits f x) → magnitude (of_bits f (to_bits f x)) ≡ magnitude x
magnitude-of f x F = ap magnitude (of_bits-to_bits f x F)

pub magnitude-pattern : (f : Format) (x : Float) → T (fits f x) → T (magnitude x) → to_bits f x < ones f * hid f
magnitude-pattern f x F p = ltb-true (to_bits f x) (ones f * hid f) (magnitude-bits f (to_bits f x) ∙ magnitude-of f x F ∙ is_true (magnitude x) p)

pub magnitude-no-nan : (x : Float) → T (magnitude x) → T (not (is_nan x))
unfolding is_nan
magnitude-no-nan nan p = absurd p
magnitude-no-nan (inf s) p = tt
magnitude-no-nan (fin s m e) p = tt

-- a pattern of an f64 by its fields
pub of_bits_is : (b : ℕ) → of_bits binary64 b ≡ of_fields binary64 (leb 9223372036854775808 b) (b % 9223372036854775808 / 4503599627370496) (b % 4503599627370496)
unfolding of_bits
of_bits_is b = refl
