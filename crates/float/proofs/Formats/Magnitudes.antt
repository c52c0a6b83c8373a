-- The order of finite numbers with a clear sign bit is that of their patterns, of either format: IEEE 754's fields rise with the number.
use Rattle.std.proofs.Common.{◌≡◌, ℕ, zero, suc, ◌+◌, ◌*◌, ◌/◌, ◌%◌, ◌^◌, ◌<◌, ◌≤◌, Bool, true, false, cond, eqb, ltb, sym, ap, ◌∙◌, subst, inl, inr, true≢false, le_trans, le_of_eq, lt_of_lt_of_le, le_of_suc-le-suc, not-suc-le-zero, le_of_lt, mul-le-mul_right, mod-lt, mod-eq_of_lt, mul_assoc, suc-mul, mul_comm, div-lt_iff_lt-mul, lt_of_mul-lt-mul_right, eq-or-lt_of_le, mul-le-mul_left, mul-lt-mul_of_pos_right, mul-pos, div-add-mod', mul-one, mul_right_comm, le_of_mul-le-mul_right, arith, pow_pos, pow_mono, ltb-false, ltb-true, le-ltb, lt-ltb, ne_eqb}
use native.Mathlib.Nat.{pow-succ'}
use borrow.Author.Tests.{lt-leb}
use lib.Ieee.{Float, Format, nan, inf, fin, prec, low, hid, ones, top, up, down, odd, of_fields, of_bits, lt}
use lib.Ieee.Fits.{down_pos}
use lib.Ieee.Exact.{HasValue, odd_sign}
use Rattle.questions.proofs.Tests.{split}
use Rattle.float.proofs.Formats.Patterns.{infinity-clear}

-- the number of an exponent's field x and digits t, in units of the smallest value; h is the leading digit's weight
abbrev number : ℕ → ℕ → ℕ → ℕ
number h zero t = t
number h (suc x) t = (h + t) * 2 ^ x

-- the same by the pattern
abbrev pub amount : ℕ → ℕ → ℕ
amount h b = number h (b / h) (b % h)

-- ---- the number rises with the fields, and so with the pattern
digits-rise : (h x t u : ℕ) → t < u → number h x t < number h x u
digits-rise h zero t u l = l
digits-rise h (suc x) t u l = mul-lt-mul_of_pos_right (more h t u l) (pow_pos x)
  where
    more : (h t u : ℕ) → t < u → h + t < h + u
    more h t u l = omega arith

exponents-rise : (h x t y u : ℕ) → t < h → x < y → number h x t < number h y u
exponents-rise h x t zero u d l = absurd (not-suc-le-zero l)
exponents-rise h zero t (suc y) u d l =
    let p : h + u ≤ (h + u) * 2 ^ y = le_trans (le_of_eq (sym (mul-one (h + u)))) (mul-le-mul_left (h + u) (pow_pos y)) in
    omega arith
exponents-rise h (suc x) t (suc y) u d l =
    lt_of_lt_of_le (mul-lt-mul_of_pos_right (twice h t d) (pow_pos x))
    (le_trans (le_of_eq (mul_assoc h 2 (2 ^ x) ∙ ap (λ (z : ℕ). h * z) (sym (pow-succ' 2 x))))
    (le_trans (mul-le-mul_left h (pow_mono (le_of_suc-le-suc l))) (mul-le-mul_right (2 ^ y) (once h u))))
  where
    twice : (h t : ℕ) → t < h → h + t < h * 2
    twice h t d = omega arith

    once : (h u : ℕ) → h ≤ h + u
    once h u = omega arith

fields-rise : (h x t y u : ℕ) → t < h → u < h → x * h + t < y * h + u → number h x t < number h y u
fields-rise h x t y u d g l = elim (eq-or-lt_of_le exponents) [
  | inl e ↦ subst (λ (z : ℕ). number h x t < number h z u) e (digits-rise h x t u (omega (arith, l, ap (λ (z : ℕ). z * h) e)))
  | inr m ↦ exponents-rise h x t y u d m
]
  where
    exponents : x ≤ y
    exponents = split (ltb y x)
        (λ e. absurd (omega (arith, l, g, suc-mul y h, mul-le-mul_right h (ltb-true y x e))))
        (λ e. ltb-false y x e)

amounts-rise : (h a b : ℕ) → 0 < h → a < b → amount h a < amount h b
amounts-rise h a b p l = fields-rise h (a / h) (a % h) (b / h) (b % h) (mod-lt a p) (mod-lt b p) (omega (arith, l, div-add-mod' a h, div-add-mod' b h))

amounts-keep : (h a b : ℕ) → 0 < h → a ≤ b → amount h a ≤ amount h b
amounts-keep h a b p l = elim (eq-or-lt_of_le l) [ inl e ↦ le_of_eq (ap (amount h) e) | inr m ↦ le_of_lt (amounts-rise h a b p m) ]

-- ---- a pattern stands for its number
fields_value : (f : Format) (x t : ℕ) → x < ones f → HasValue (of_fields f false x t) false (number (hid f) x t) (2 ^ low f)
unfolding of_fields
fields_value f zero t h = subst (λ (n : ℕ). HasValue (odd (prec f) false t 0 (low f)) false n (2 ^ low f)) (mul-one t) (odd_sign (prec f) false t 0 (low f))
fields_value f (suc x) t h =
    subst (λ (b : Bool). HasValue (cond b (cond (eqb t 0) (inf false) nan) (odd (prec f) false (hid f + t) x (low f))) false ((hid f + t) * 2 ^ x) (2 ^ low f))
    (sym (ne_eqb (suc x) (ones f) (λ e. omega (arith, e, h)))) (odd_sign (prec f) false (hid f + t) x (low f))

pub pattern-value : (f : Format) (b : ℕ) → b < ones f * hid f → HasValue (of_bits f b) false (amount (hid f) b) (2 ^ low f)
unfolding of_bits
pattern-value f b h =
    let clear : b < top f = lt_of_lt_of_le h (le_of_lt (infinity-clear f)) in
    subst (λ (x : Float). HasValue x false (amount (hid f) b) (2 ^ low f))
    (sym
    (ap (λ (s : Bool). of_fields f s (b % top f / hid f) (b % hid f)) (lt-leb (top f) b clear)
    ∙ ap (λ (n : ℕ). of_fields f false (n / hid f) (b % hid f)) (mod-eq_of_lt clear)))
    (fields_value f (b / hid f) (b % hid f) ((div-lt_iff_lt-mul (pow_pos _)).1 h))

-- ---- two floats that are a / c and b / c
values-compared : (x y : Float) (a b c : ℕ) → 0 < c → HasValue x false a c → HasValue y false b c → (a < b → lt x y ≡ true) × (b ≤ a → lt x y ≡ false)
unfolding lt
values-compared nan y a b c C v w = absurd v
values-compared (inf s) y a b c C v w = absurd v
values-compared (fin true m e) y a b c C v w = absurd (true≢false v.0)
values-compared (fin false m e) nan a b c C v w = absurd w
values-compared (fin false m e) (inf s) a b c C v w = absurd w
values-compared (fin false m e) (fin true n d) a b c C v w = absurd (true≢false w.0)
values-compared (fin false m e) (fin false n d) a b c C v w =
    let l : m * up e * down d * c ≡ a * (down e * down d) = mul_right_comm (m * up e) (down d) c ∙ ap (λ (z : ℕ). z * down d) v.1 ∙ mul_assoc a (down e) (down d) in
    let r : n * up d * down e * c ≡ b * (down e * down d) = mul_right_comm (n * up d) (down e) c ∙ ap (λ (z : ℕ). z * down e) w.1 ∙ mul_assoc b (down d) (down e) ∙ ap (λ (z : ℕ). b * z) (mul_comm (down d) (down e)) in (
      λ h. lt-ltb (m * up e * down d) (n * up d * down e) (lt_of_mul-lt-mul_right c (subst (λ (z : ℕ). z < n * up d * down e * c) (sym l) (subst (λ (z : ℕ). a * (down e * down d) < z) (sym r) (mul-lt-mul_of_pos_right h (mul-pos (down_pos e) (down_pos d)))))),
      λ h. le-ltb (m * up e * down d) (n * up d * down e) (le_of_mul-le-mul_right (subst (λ (z : ℕ). z ≤ m * up e * down d * c) (sym r) (subst (λ (z : ℕ). b * (down e * down d) ≤ z) (sym l) (mul-le-mul_right (down e * down d) h))) C),
    )

-- ---- the theorem
pub magnitudes-order : (f : Format) (p q : ℕ) → p < ones f * hid f → q < ones f * hid f → lt (of_bits f p) (of_bits f q) ≡ ltb p q
magnitudes-order f p q h k =
    let l = values-compared (of_bits f p) (of_bits f q) (amount (hid f) p) (amount (hid f) q) (2 ^ low f) (pow_pos (low f)) (pattern-value f p h) (pattern-value f q k) in
    split (ltb p q)
    (λ e. l.0 (amounts-rise (hid f) p q (pow_pos _) (ltb-true p q e)) ∙ sym e)
    (λ e. l.1 (amounts-keep (hid f) q p (pow_pos _) (ltb-false p q e)) ∙ sym e)
