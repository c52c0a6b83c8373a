-- The whole number nearest to a float above zero, as an integer. x is N / D, with N = m * up e and D = down e.
use Rattle.std.proofs.Common.{◌≡◌, ℕ, suc, ◌+◌, ◌*◌, ◌/◌, ◌^◌, ◌<◌, ◌≤◌, min, Bool, true, false, T, ltb, ℤ, pos, negsuc, sym, refl, ap, ◌∙◌, true≢false, le_trans, le_of_eq, lt_of_lt_of_le, lt_of_le_of_lt, le_of_lt, mul_assoc, div-lt_iff_lt-mul, lt_of_mul-lt-mul_right, mul-lt-mul_of_pos_right, mul-one, mul_right_comm, div-one, arith, lit<, pow_pos, pow-add, ltb-false, ltb-true}
use native.Mathlib.Nat.{pow-succ'}
use lib.Ieee.{Float, nan, inf, fin, binary64, up, down, round, to_unsigned, fits}
use lib.Ieee.Fits.{down_pos, round-fits}
use lib.Ieee.Exact.{HasValue, round_exact}
use lib.Ieee.Nearest.{div_same}
use lib.Ieee.Positive.{num, den, positive}
use lib.Ieee.Back.{whole_unique, round_whole}
use Rattle.float.specs.Integral.{round_away}
use Rattle.float.proofs.Formats.Held.{fits-small, fits-top}

-- ---- a whole number that the format holds is written as itself
pub round-of-whole : (s : Bool) (m a : ℕ) → T (fits binary64 (fin s m (pos a))) → round binary64 s (m * 2 ^ a) 1 ≡ fin s m (pos a)
round-of-whole s m a F =
    let h : m * 2 ^ a * 2 ^ 1074 ≡ m * 2 ^ (a + 1074) * 1 = mul_assoc m (2 ^ a) (2 ^ 1074) ∙ ap (λ (x : ℕ). m * x) (sym (pow-add 2 a 1074)) ∙ sym (mul-one (m * 2 ^ (a + 1074))) in
    let t : m * 2 ^ a < 2 ^ 1024 = lt_of_lt_of_le (fits-top binary64 s m (pos a) F) (le_of_eq (mul-one (2 ^ 1024))) in
    let u : m * 2 ^ (a + 1074) < 2 ^ (1074 + 1024) = lt_of_le_of_lt (le_of_eq (sym (mul-one (m * 2 ^ (a + 1074))) ∙ sym h)) (lt_of_lt_of_le (mul-lt-mul_of_pos_right t (pow_pos 1074)) (le_of_eq refl)) in
    whole_unique binary64 (round binary64 s (m * 2 ^ a) 1) (fin s m (pos a)) s (m * 2 ^ a) (round-fits binary64 s (m * 2 ^ a) 1) F
    (round_exact binary64 s (m * 2 ^ a) 1 m (a + 1074) (lit< tt) (fits-small binary64 s m (pos a) F) u h)
    (refl, refl)

-- from 2 ^ 52 on, every value is whole
no_fraction : (m a : ℕ) → m < 2 ^ 53 → 4503599627370496 * 2 ^ suc a ≤ m → ⊥
no_fraction m a h k =
    let e : 2 ^ suc a ≡ 2 * 2 ^ a = pow-succ' 2 a in
    omega (arith, pow_pos a)

near-one : (n : ℕ) → (2 * n + 1) / 2 ≡ n
near-one n = omega arith

pub round-large : (s : Bool) (m : ℕ) (e : ℤ) → T (fits binary64 (fin s m e)) → 4503599627370496 * down e ≤ m * up e → fin s m e ≡ round_away (fin s m e)
unfolding round_away
round-large s m (pos a) F h = sym (ap (λ (x : ℕ). round binary64 s x 1) (near-one (m * 2 ^ a)) ∙ round-of-whole s m a F)
round-large s m (negsuc a) F h = absurd (no_fraction m a (fits-small binary64 s m (negsuc a) F) (le_trans h (le_of_eq (mul-one m))))

-- ---- the whole part
pub part-is : (m : ℕ) (e : ℤ) → m * up e < 9007199254740992 * down e → (to_unsigned 64 (fin false m e) ≡ m * up e / down e) × (m * up e / down e < 9007199254740992)
unfolding to_unsigned
part-is m e h =
    let l : m * up e / down e < 9007199254740992 = (div-lt_iff_lt-mul (down_pos e)).1 h in
    (uncapped (m * up e / down e) l, l)
  where
    uncapped : (a : ℕ) → a < 9007199254740992 → min a 18446744073709551615 ≡ a
    uncapped a g = omega arith

-- of a value a / c below 2 ^ 53
below : (a c m : ℕ) (e : ℤ) → 0 < c → a < 9007199254740992 * c → m * up e * c ≡ a * down e → m * up e < 9007199254740992 * down e
below a c m e C h v =
    lt_of_mul-lt-mul_right c
    (lt_of_le_of_lt (le_of_eq v) (lt_of_lt_of_le (mul-lt-mul_of_pos_right h (down_pos e)) (le_of_eq (mul_right_comm 9007199254740992 c (down e)))))

pub value-part : (z : Float) (a c : ℕ) → 0 < c → a < 9007199254740992 * c → HasValue z false a c → to_unsigned 64 z ≡ a / c
value-part nan a c C h v = absurd v
value-part (inf s) a c C h v = absurd v
value-part (fin true m e) a c C h v = absurd (true≢false v.0)
value-part (fin false m e) a c C h v = (part-is m e (below a c m e C h v.1)).0 ∙ div_same (m * up e) (down e) a c (down_pos e) C v.1

-- ---- `round` and then `as u64`, of a value above zero
few : (N D : ℕ) → 0 < D → N < 4503599627370496 * D → (2 * N + D) / (2 * D) < 9007199254740992
few N D P h = (div-lt_iff_lt-mul (double D P)).1 (omega arith)
  where
    double : (d : ℕ) → 0 < d → 0 < 2 * d
    double d p = omega arith

pub rounded-small : (m : ℕ) (e : ℤ) → m * up e < 4503599627370496 * down e → to_unsigned 64 (round_away (fin false m e)) ≡ min ((2 * (m * up e) + down e) / (2 * down e)) 18446744073709551615
unfolding round_away
rounded-small m e h =
    let k = (2 * (m * up e) + down e) / (2 * down e) in
    let l : k < 9007199254740992 = few (m * up e) (down e) (down_pos e) h in
    value-part (round binary64 false k 1) k 1 (lit< tt) (omega arith) (round_whole binary64 false k (le_of_lt l)) ∙ div-one k ∙ uncapped k l
  where
    uncapped : (a : ℕ) → a < 9007199254740992 → a ≡ min a 18446744073709551615
    uncapped a g = omega arith

rounded-large : (m : ℕ) (e : ℤ) → T (fits binary64 (fin false m e)) → 4503599627370496 * down e ≤ m * up e → to_unsigned 64 (fin false m e) ≡ min ((2 * (m * up e) + down e) / (2 * down e)) 18446744073709551615
unfolding to_unsigned
rounded-large m (pos a) F h = ap (λ (x : ℕ). min x 18446744073709551615) (div-one (m * 2 ^ a) ∙ sym (near-one (m * 2 ^ a)))
rounded-large m (negsuc a) F h = absurd (no_fraction m a (fits-small binary64 false m (negsuc a) F) (le_trans h (le_of_eq (mul-one m))))

pub rounded-part : (x : Float) → T (fits binary64 x) → T (positive x) → to_unsigned 64 (round_away x) ≡ min ((2 * num x + den x) / (2 * den x)) 18446744073709551615
rounded-part nan F p = absurd p
rounded-part (inf s) F p = absurd p
rounded-part (fin true m e) F p = absurd p
rounded-part (fin false m e) F p = go (ltb (m * up e) (4503599627370496 * down e)) refl
  where
    go : (b : Bool) → ltb (m * up e) (4503599627370496 * down e) ≡ b → to_unsigned 64 (round_away (fin false m e)) ≡ min ((2 * (m * up e) + down e) / (2 * down e)) 18446744073709551615
    go true h = rounded-small m e (ltb-true (m * up e) (4503599627370496 * down e) h)
    go false h =
        let l = ltb-false (m * up e) (4503599627370496 * down e) h in
        ap (to_unsigned 64) (sym (round-large false m e F l)) ∙ rounded-large m e F l
