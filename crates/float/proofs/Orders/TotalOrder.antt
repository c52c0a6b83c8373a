-- totalOrder among the patterns of numbers is the order of the numbers: IEEE 754 §5.10 a) to c), for every pattern that is no NaN's.
use Rattle.std.proofs.Common.{◌≡◌, ℕ, zero, suc, ◌+◌, ◌-◌, ◌*◌, ◌/◌, ◌%◌, ◌<◌, ◌≤◌, Bool, true, false, cond, not, ◌&&◌, ◌||◌, eqb, ltb, leb, ◌⊎◌, ℤ, sym, refl, ap, ◌∙◌, subst, inl, inr, true≢false, eq-or-lt_of_le, arith, ltb-false, ltb-true, le-ltb, lt-ltb, eq-eqb, le-leb}
use lib.Ieee.{Float, nan, inf, fin, binary64, up, down, odd, of_fields, of_bits, nan_bits, neg, lt, eq}
use lib.Ieee.Bits.{nan_bits_above}
use lib.Ieee.Exact.{HasValue}
use borrow.Author.Tests.{lt-leb}
use Rattle.float.specs.Order.{negative, place, total_less}
use Rattle.questions.proofs.Tests.{split, same-ltb}
use Rattle.float.proofs.Formats.Values.{neg-odd}
use Rattle.float.proofs.Formats.Patterns.{of_bits_is}
use Rattle.float.proofs.Formats.Magnitudes.{pattern-value, magnitudes-order}
use Rattle.float.proofs.Orders.Order.{place-clear, place_set, total-less-clear}

-- ---- patterns up to the infinity's, which is 0x7ff0_0000_0000_0000
infinity-is : of_bits binary64 9218868437227405312 ≡ inf false
unfolding of_bits
infinity-is = refl

-- a finite float with a clear sign is below the infinity, and nothing is above it
value-below : (x : Float) (a c : ℕ) → HasValue x false a c → (lt x (inf false) ≡ true) × (lt (inf false) x ≡ false)
unfolding lt
value-below nan a c v = absurd v
value-below (inf s) a c v = absurd v
value-below (fin s m e) a c v = (refl, refl)

infinity-level : lt (inf false) (inf false) ≡ false
unfolding lt
infinity-level = refl

pub numbers-order : (p q : ℕ) → p ≤ 9218868437227405312 → q ≤ 9218868437227405312 → lt (of_bits binary64 p) (of_bits binary64 q) ≡ ltb p q
numbers-order p q P Q = elim (eq-or-lt_of_le P) [
  | inl i ↦ elim (eq-or-lt_of_le Q) [
    | inl j ↦ top p i q j ∙ infinity-level ∙ sym (le-ltb p q (omega arith))
    | inr k ↦ ap (λ (z : Float). lt z (of_bits binary64 q)) (ap (of_bits binary64) i ∙ infinity-is) ∙ (value-below (of_bits binary64 q) _ _ (pattern-value binary64 q k)).1 ∙ sym (le-ltb p q (omega arith))
  ]
  | inr h ↦ elim (eq-or-lt_of_le Q) [
    | inl j ↦ ap (λ (z : Float). lt (of_bits binary64 p) z) (ap (of_bits binary64) j ∙ infinity-is) ∙ (value-below (of_bits binary64 p) _ _ (pattern-value binary64 p h)).0 ∙ sym (lt-ltb p q (omega arith))
    | inr k ↦ magnitudes-order binary64 p q h k
  ]
]
  where
    top : (p : ℕ) → p ≡ 9218868437227405312 → (q : ℕ) → q ≡ 9218868437227405312 → lt (of_bits binary64 p) (of_bits binary64 q) ≡ lt (inf false) (inf false)
    top p i q j =
        ap (λ (z : Float). lt z (of_bits binary64 q)) (ap (of_bits binary64) i ∙ infinity-is)
        ∙ ap (λ (z : Float). lt (inf false) z) (ap (of_bits binary64) j ∙ infinity-is)

-- ---- with the sign bit set a pattern stands for the negated number
neg-cond : (b c : Bool) (x y : Float) → neg x ≡ y → cond b (cond c (inf true) nan) y ≡ neg (cond b (cond c (inf false) nan) x)
unfolding neg
neg-cond true true x y h = refl
neg-cond true false x y h = refl
neg-cond false c x y h = sym h

neg-fields : (x t : ℕ) → of_fields binary64 true x t ≡ neg (of_fields binary64 false x t)
unfolding of_fields
neg-fields zero t = sym (neg-odd 53 t 0 1074)
neg-fields (suc x) t = neg-cond (eqb (suc x) 2047) (eqb t 0) (odd 53 false (4503599627370496 + t) x 1074) (odd 53 true (4503599627370496 + t) x 1074) (neg-odd 53 (4503599627370496 + t) x 1074)

abbrev sign : ℕ
sign = 9223372036854775808

signed : (s : Bool) (b p : ℕ) → leb sign b ≡ s → b % sign ≡ p → b % 4503599627370496 ≡ p % 4503599627370496 → of_bits binary64 b ≡ of_fields binary64 s (p / 4503599627370496) (p % 4503599627370496)
signed s b p h e d =
    of_bits_is b
    ∙ ap (λ (z : Bool). of_fields binary64 z (b % sign / 4503599627370496) (b % 4503599627370496)) h
    ∙ ap (λ (z : ℕ). of_fields binary64 s (z / 4503599627370496) (b % 4503599627370496)) e
    ∙ ap (λ (z : ℕ). of_fields binary64 s (p / 4503599627370496) z) d

pub negated : (p : ℕ) → p < sign → of_bits binary64 (sign + p) ≡ neg (of_bits binary64 p)
negated p h =
    signed true (sign + p) p (le-leb sign (sign + p) (omega arith)) (omega arith) (omega arith)
    ∙ neg-fields (p / 4503599627370496) (p % 4503599627370496)
    ∙ ap neg (sym (signed false p p (lt-leb sign p h) (omega arith) refl))

-- ---- the four pairs of signs
-- a number with a clear sign
data Clear : Float → Type 0 where
  infinite : Clear (inf false)
  whole : (m : ℕ) (e : ℤ) → Clear (fin false m e)

value-clear : (x : Float) (a c : ℕ) → HasValue x false a c → Clear x
value-clear nan a c v = absurd v
value-clear (inf s) a c v = absurd v
value-clear (fin true m e) a c v = absurd (true≢false v.0)
value-clear (fin false m e) a c v = whole m e

clear-bits : (p : ℕ) → p ≤ 9218868437227405312 → Clear (of_bits binary64 p)
clear-bits p P = elim (eq-or-lt_of_le P) [
  | inl i ↦ subst Clear (sym (ap (of_bits binary64) i ∙ infinity-is)) infinite
  | inr h ↦ value-clear (of_bits binary64 p) _ _ (pattern-value binary64 p h)
]

-- what totalOrder says of two numbers: x is below y, or they are -0 and +0
abbrev pub numbers_less : Float → Float → Bool
numbers_less x y = lt x y || (eq x y && (negative x && not (negative y)))

drop-equal : (l e : Bool) → (l || (e && false)) ≡ l
drop-equal true e = refl
drop-equal false true = refl
drop-equal false false = refl

clear-clear : {x : Float} (y : Float) → Clear x → numbers_less x y ≡ lt x y
clear-clear y infinite = drop-equal (lt (inf false) y) (eq (inf false) y)
clear-clear y (whole m e) = drop-equal (lt (fin false m e) y) (eq (fin false m e) y)

set-set : {x y : Float} → Clear x → Clear y → numbers_less (neg x) (neg y) ≡ lt y x
unfolding neg lt eq
set-set infinite infinite = refl
set-set infinite (whole n k) = refl
set-set (whole m e) infinite = refl
set-set (whole m e) (whole n k) = drop-equal (ltb (n * up k * down e) (m * up e * down k)) (eq (fin true m e) (fin true n k))

-- a clear sign is never below a set one
clear-set : {x y : Float} → Clear x → Clear y → numbers_less x (neg y) ≡ false
unfolding neg lt eq
clear-set infinite infinite = refl
clear-set infinite (whole n k) = refl
clear-set (whole m e) infinite = refl
clear-set (whole m e) (whole n k) = drop-equal false (eq (fin false m e) (fin true n k))

-- a set sign is below a clear one, the zeros included
set-clear : {x y : Float} → Clear x → Clear y → numbers_less (neg x) y ≡ true
unfolding neg lt eq
set-clear infinite infinite = refl
set-clear infinite (whole n k) = refl
set-clear (whole m e) infinite = refl
set-clear (whole m e) (whole n k) = zeros (m * up e * down k) (n * up k * down e)
  where
    zeros : (a b : ℕ) → (ltb 0 (a + b) || ((eqb a b && eqb a 0) && true)) ≡ true
    zeros a b =
        split (ltb 0 (a + b))
        (λ h. ap (λ (t : Bool). t || ((eqb a b && eqb a 0) && true)) h)
        (λ h.
        let l = ltb-false 0 (a + b) h in
        ap (λ (t : Bool). t || ((eqb a b && eqb a 0) && true)) h
        ∙ ap (λ (t : Bool). (t && eqb a 0) && true) (eq-eqb a b (omega arith))
        ∙ ap (λ (t : Bool). t && true) (eq-eqb a 0 (omega arith)))

-- ---- totalOrder of two patterns that are no NaN's is the order of their numbers
magnitude-no-nan : (b : ℕ) → nan_bits binary64 b ≡ false → b % sign ≤ 9218868437227405312
magnitude-no-nan b h = ltb-false 9218868437227405312 (b % sign) (sym (nan_bits_above binary64 b) ∙ h)

-- a pattern is its magnitude, or that with the sign bit set
halves : (b : ℕ) → b < 2 * sign → (b ≡ b % sign) ⊎ (b ≡ sign + b % sign)
halves b h = split (ltb b sign) (λ e. inl (small b (ltb-true b sign e))) (λ e. inr (large b h (ltb-false b sign e)))
  where
    small : (b : ℕ) → b < sign → b ≡ b % sign
    small b l = omega arith

    large : (b : ℕ) → b < 2 * sign → sign ≤ b → b ≡ sign + b % sign
    large b h l = omega arith

module _ (p q : ℕ) (P : p ≤ 9218868437227405312) (Q : q ≤ 9218868437227405312) where
  -- by the places, and by the numbers
  placed : (a b x y : ℕ) → place a ≡ x → place b ≡ y → total_less a b ≡ ltb x y
  unfolding total_less
  placed a b x y h k = ap (λ (z : ℕ). ltb z (place b)) h ∙ ap (λ (z : ℕ). ltb x z) k

  two-clear : total_less p q ≡ numbers_less (of_bits binary64 p) (of_bits binary64 q)
  two-clear = total-less-clear p q (omega arith) (omega arith) ∙ sym (numbers-order p q P Q) ∙ sym (clear-clear (of_bits binary64 q) (clear-bits p P))

  two-set : total_less (sign + p) (sign + q) ≡ numbers_less (of_bits binary64 (sign + p)) (of_bits binary64 (sign + q))
  two-set =
      placed (sign + p) (sign + q) (sign - 1 - p) (sign - 1 - q) (place_set (sign + p) (omega arith) ∙ omega arith) (place_set (sign + q) (omega arith) ∙ omega arith)
      ∙ same-ltb (sign - 1 - p) (sign - 1 - q) q p (λ h. omega arith) (λ h. omega arith)
      ∙ sym (numbers-order q p Q P)
      ∙ sym (set-set (clear-bits p P) (clear-bits q Q))
      ∙ sym (ap (λ (z : Float). numbers_less z (of_bits binary64 (sign + q))) (negated p (omega arith)) ∙ ap (λ (z : Float). numbers_less (neg (of_bits binary64 p)) z) (negated q (omega arith)))

  set-then-clear : total_less (sign + p) q ≡ numbers_less (of_bits binary64 (sign + p)) (of_bits binary64 q)
  set-then-clear =
      placed (sign + p) q (sign - 1 - p) (sign + q) (place_set (sign + p) (omega arith) ∙ omega arith) (place-clear q (omega arith))
      ∙ lt-ltb (sign - 1 - p) (sign + q) (omega arith)
      ∙ sym (set-clear (clear-bits p P) (clear-bits q Q))
      ∙ sym (ap (λ (z : Float). numbers_less z (of_bits binary64 q)) (negated p (omega arith)))

  clear-then-set : total_less p (sign + q) ≡ numbers_less (of_bits binary64 p) (of_bits binary64 (sign + q))
  clear-then-set =
      placed p (sign + q) (sign + p) (sign - 1 - q) (place-clear p (omega arith)) (place_set (sign + q) (omega arith) ∙ omega arith)
      ∙ le-ltb (sign + p) (sign - 1 - q) (omega arith)
      ∙ sym (clear-set (clear-bits p P) (clear-bits q Q))
      ∙ sym (ap (λ (z : Float). numbers_less (of_bits binary64 p) z) (negated q (omega arith)))

pub total-less-numbers : (a b : ℕ) → a < 2 * sign → b < 2 * sign → nan_bits binary64 a ≡ false → nan_bits binary64 b ≡ false → total_less a b ≡ numbers_less (of_bits binary64 a) (of_bits binary64 b)
total-less-numbers a b A B na nb = go (halves a A) (halves b B)
  where
    Same : ℕ → ℕ → Type 0
    Same x y = total_less x y ≡ numbers_less (of_bits binary64 x) (of_bits binary64 y)

    P : a % sign ≤ 9218868437227405312
    P = magnitude-no-nan a na

    Q : b % sign ≤ 9218868437227405312
    Q = magnitude-no-nan b nb

    at : (x y : ℕ) → a ≡ x → b ≡ y → Same x y → Same a b
    at x y e f h = subst (λ (z : ℕ). Same a z) (sym f) (subst (λ (z : ℕ). Same z y) (sym e) h)

    go : (a ≡ a % sign) ⊎ (a ≡ sign + a % sign) → (b ≡ b % sign) ⊎ (b ≡ sign + b % sign) → Same a b
    go (inl e) (inl f) = at _ _ e f (two-clear (a % sign) (b % sign) P Q)
    go (inl e) (inr f) = at _ _ e f (clear-then-set (a % sign) (b % sign) P Q)
    go (inr e) (inl f) = at _ _ e f (set-then-clear (a % sign) (b % sign) P Q)
    go (inr e) (inr f) = at _ _ e f (two-set (a % sign) (b % sign) P Q)
