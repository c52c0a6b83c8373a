-- A tick keeps the rate finite with a clear sign bit: attempts per second are at most 2 ^ 94, and what is kept of the rate leaves room for that.
use mathlib.Core.Path.{◌≡◌, refl, sym, ap, ◌∙◌, subst}
use mathlib.Core.Logic.{inl, inr}
use mathlib.Core.Bool.{Bool, true, false, cond, true≢false}
use Prim.Native.Nat.{ℕ, suc, ◌+◌, ◌-◌, ◌*◌, ◌^◌, ◌≤◌, ◌<◌}
use native.Mathlib.Nat.{pos_of_ne-zero, eq-or-lt_of_le, add_comm, add-mul, le_refl, le_trans, le_of_eq, le_of_lt, lt_of_mul-lt-mul_right, mul-pos, mul-le-mul, mul-le-mul_right, mul-one, one-mul, mul_assoc, sub-le, sub-add_cancel}
use native.Mathlib.Omega.{arith}
use borrow.Author.Tests.{leb-true, leb-false, le-ltb, eqb-false}
use lib.Dec.{T, lit<, lit≤, leb, eqb}
use lib.IntN.{pos, negsuc}
use lib.Pow.{pow_pos, pow-add, pow_mono}
use lib.Ieee.{Float, nan, inf, fin, binary64, up, down, round, of_int, add, sub, sum, neg, mul, div, fits}
use lib.Ieee.Fits.{down_pos}
use lib.Ieee.Exact.{HasValue, round_exact}
use lib.Ieee.Back.{round_whole}
use Rattle.float.specs.Magnitude.{magnitude}
use Rattle.float.proofs.Formats.Held.{fits-small, fits-top}
use Rattle.demand.specs.Decay.Weight.{S, weight}
use Rattle.demand.specs.Estimators.Estimator.{whole, alpha, folded, valid, ticked_from, ticked}
use Rattle.demand.specs.declared.demand.Demand.{Demand}
use Rattle.demand.proofs.Estimating.Alpha.{weight-le, parts-exact, alpha-exact}
use Rattle.demand.proofs.Estimating.Ranges.{AtMost, AtLeast, at_most, at_least, round-at-most, round-at-least, mul-at-most, add-at-most, div-at-most, div-at-least}
use Rattle.std.specs.declared.option.Option.{Option}
use Rattle.std.specs.declared.option.Option.TheVariants.{None, Some}
use Rattle.demand.specs.declared.demand.Times.{Times}

-- the largest f64, and the largest below it that a factor below 1 leaves of it
abbrev largest : ℕ
largest = (2 ^ 53 - 1) * 2 ^ 971

abbrev left : ℕ
left = (2 ^ 53 - 2) * 2 ^ 971

-- ---- a rate that is finite with a clear sign bit is at most the largest f64

whole_le : (m k : ℕ) → m < 2 ^ 53 → m * 2 ^ k < 2 ^ 1024 → m * 2 ^ k ≤ largest
whole_le m k h t = by_size (leb k 971) refl
  where
    -- a power that the largest has too is taken off both
    high : (j : ℕ) → 971 + j ≡ k → m * 2 ^ k ≤ largest
    high j e =
        let is : m * 2 ^ k ≡ m * 2 ^ j * 2 ^ 971 = ap (λ (n : ℕ). m * 2 ^ n) (sym e ∙ add_comm 971 j) ∙ ap (λ (n : ℕ). m * n) (pow-add 2 j 971) ∙ sym (mul_assoc m (2 ^ j) (2 ^ 971)) in
        let small : m * 2 ^ j < 2 ^ 53 = lt_of_mul-lt-mul_right (2 ^ 971) (subst (λ (n : ℕ). n < 2 ^ 53 * 2 ^ 971) is t) in
        le_trans (le_of_eq is) (mul-le-mul_right (2 ^ 971) (below small))
      where
        below : {n : ℕ} → n < 2 ^ 53 → n ≤ 2 ^ 53 - 1
        below h = omega arith

    by_size : (b : Bool) → leb k 971 ≡ b → m * 2 ^ k ≤ largest
    by_size true e = mul-le-mul {n₂ = 2 ^ 53 - 1} {m₂ = 2 ^ 971} (omega arith) (pow_mono (leb-true k 971 e))
    by_size false e = high (k - 971) (omega (arith, leb-false k 971 e))

rate-at-most : (x : Float) → T (fits binary64 x) → magnitude x ≡ true → AtMost x largest 1
rate-at-most nan f h = absurd (true≢false (sym h))
rate-at-most (inf s) f h = absurd (true≢false (sym h))
rate-at-most (fin true m e) f h = absurd (true≢false (sym h))
rate-at-most (fin false m (pos k)) f h =
    (refl, rw (mul-one (m * 2 ^ k), mul-one largest) (whole_le m k (fits-small binary64 false m (pos k) f) (subst (λ (n : ℕ). m * 2 ^ k < n) (mul-one (2 ^ 1024)) (fits-top binary64 false m (pos k) f))))
rate-at-most (fin false m (negsuc k)) f h =
    (refl, rw (mul-one (m * 1), mul-one m) (le_trans (le_of_lt (fits-small binary64 false m (negsuc k) f)) (le_trans (lit≤ tt) (mul-le-mul {n₁ = largest} {m₁ = 1} (le_refl largest) (pow_pos (suc k))))))

-- ---- the whole numbers that bound the steps are floats

exactly : (n q j : ℕ) → q < 2 ^ 53 → q * 2 ^ j < 2 ^ 2098 → n * 2 ^ 1074 ≡ q * 2 ^ j * 1 → HasValue (round binary64 false n 1) false n 1
exactly n q j small under is = round_exact binary64 false n 1 q j (lit< tt) small under is

exactly-0 : HasValue (round binary64 false 0 1) false 0 1
exactly-0 = exactly 0 0 0 (lit< tt) (lit< tt) refl

exactly-1 : HasValue (round binary64 false 1 1) false 1 1
exactly-1 = exactly 1 1 1074 (lit< tt) (lit< tt) refl

exactly-64 : HasValue (round binary64 false (2 ^ 64) 1) false (2 ^ 64) 1
exactly-64 = exactly (2 ^ 64) 1 1138 (lit< tt) (lit< tt) refl

exactly-94 : HasValue (round binary64 false (2 ^ 94) 1) false (2 ^ 94) 1
exactly-94 = exactly (2 ^ 94) 1 1168 (lit< tt) (lit< tt) refl

exactly-left : HasValue (round binary64 false left 1) false left 1
exactly-left = exactly left (2 ^ 53 - 2) 2045 (lit< tt) (lit< tt) refl

exactly-largest : HasValue (round binary64 false largest 1) false largest 1
exactly-largest = exactly largest (2 ^ 53 - 1) 2045 (lit< tt) (lit< tt) refl

-- 1 / 2 ^ 30 is below a nanosecond in seconds
exactly-tiny : HasValue (round binary64 false 1 (2 ^ 30)) false 1 (2 ^ 30)
exactly-tiny = round_exact binary64 false 1 (2 ^ 30) 1 1044 (lit< tt) (lit< tt) (lit< tt) refl

-- ---- attempts per second

counted : (n : ℕ) → n < 2 ^ 64 → AtMost (whole n) (2 ^ 64) 1
unfolding of_int
counted n h = round-at-most binary64 (2 ^ 64) 1 exactly-64 (lit< tt) n 1 (lit< tt) (omega arith)

elapsed-least : (e : ℕ) → 0 < e → e < 2 ^ 64 → AtLeast (whole e) 1 1
unfolding of_int
elapsed-least e p h = round-at-least binary64 1 1 exactly-1 (lit< tt) e 1 (2 ^ 64) 1 (lit< tt) (omega arith) (counted e h)

-- nanoseconds in a second
abbrev nanos : Float
nanos = whole 1_000_000_000

billion : HasValue nanos false 1_000_000_000 1
unfolding of_int
billion = round_whole binary64 false 1_000_000_000 (lit≤ tt)

billion-most : AtMost nanos 1_000_000_000 1
billion-most = at_most nanos 1_000_000_000 1 billion

billion-least : AtLeast nanos 1_000_000_000 1
billion-least = at_least nanos 1_000_000_000 1 billion

seconds-least : (e : ℕ) → 0 < e → e < 2 ^ 64 → AtLeast (div binary64 (whole e) nanos) 1 (2 ^ 30)
seconds-least e p h =
    div-at-least binary64 1 (2 ^ 30) exactly-tiny (lit< tt) (whole e) nanos 1 1 1_000_000_000 1 1_000_000_000 1 (2 ^ 64) 1 (lit< tt) (lit< tt) (lit< tt) (lit≤ tt)
    (elapsed-least e p h) billion-most billion-least
    (div-at-most binary64 (2 ^ 64) 1 exactly-64 (lit< tt) (whole e) nanos (2 ^ 64) 1 1_000_000_000 1 (lit< tt) (lit< tt) (lit≤ tt) (counted e h) billion-least)

per-second : (n e : ℕ) → n < 2 ^ 64 → 0 < e → e < 2 ^ 64 → AtMost (div binary64 (whole n) (div binary64 (whole e) nanos)) (2 ^ 94) 1
per-second n e hn p he =
    div-at-most binary64 (2 ^ 94) 1 exactly-94 (lit< tt) (whole n) (div binary64 (whole e) nanos) (2 ^ 64) 1 1 (2 ^ 30) (lit< tt) (lit< tt) (lit≤ tt) (counted n hn) (seconds-least e p he)

-- ---- 1 - alpha is at most D / S

one-is : whole 1 ≡ fin false 1 (pos 0)
unfolding of_int
one-is = refl

module _ (D : ℕ) (h : D ≤ S) where
  parts : (n : ℕ) → (S - D) * n + D * n ≡ S * n
  parts n = sym (add-mul (S - D) D n) ∙ ap (λ (k : ℕ). k * n) (sub-add_cancel h)

  difference : (x n : ℕ) → x * S ≡ (S - D) * n → (1 * n - x * 1) * S ≤ D * (1 * n)
  difference x n e = rw (one-mul n, mul-one x) (omega (arith, parts n))

  rest-of-one : (a : Float) → HasValue a false (S - D) S → AtMost (sub binary64 (fin false 1 (pos 0)) a) D S
  unfolding sub neg add sum
  rest-of-one nan v = absurd v
  rest-of-one (inf t) v = absurd v
  rest-of-one (fin true m e) v = absurd (true≢false v.0)
  rest-of-one (fin false m e) v =
      let below : m * up e * 1 ≤ 1 * down e = omega (arith, parts (down e), v.1) in
      simp (le-ltb (1 * down e) (m * up e * 1) below)
      (round-at-most binary64 D S (parts-exact D h) (lit< tt) (1 * down e - m * up e * 1) (1 * down e) (mul-pos (lit< tt) (down_pos e)) (difference (m * up e) (down e) v.1))

  rest_of : (a : Float) → HasValue a false (S - D) S → AtMost (sub binary64 (whole 1) a) D S
  rest_of a v = subst (λ (x : Float). AtMost (sub binary64 x a) D S) (sym one-is) (rest-of-one a v)

-- ---- the average after a tick

-- what is new is at most `new`, and what is kept at most `old`
module _ (rate x a : Float) (D new old : ℕ) (d : D ≤ S) (is : HasValue a false (S - D) S) (r : AtMost rate largest 1) (at : AtMost x (2 ^ 94) 1) where
  together : HasValue (round binary64 false new 1) false new 1 → HasValue (round binary64 false old 1) false old 1 → (S - D) * 2 ^ 94 * 1 ≤ new * (S * 1) → D * largest * 1 ≤ old * (S * 1) → (new * 1 + old * 1) * 1 ≤ largest * (1 * 1)
      → AtMost (add binary64 (mul binary64 a x) (mul binary64 (sub binary64 (whole 1) a) rate)) largest 1
  together hn ho n o l =
      add-at-most binary64 largest 1 exactly-largest (lit< tt) (mul binary64 a x) (mul binary64 (sub binary64 (whole 1) a) rate) new 1 old 1 (lit< tt) (lit< tt) l
      (mul-at-most binary64 new 1 hn (lit< tt) a x (S - D) S (2 ^ 94) 1 (lit< tt) (lit< tt) n (at_most a (S - D) S is) at)
      (mul-at-most binary64 old 1 ho (lit< tt) (sub binary64 (whole 1) a) rate D S largest 1 (lit< tt) (lit< tt) o (rest_of D d a is) r)

averaged : (rate x a : Float) (D : ℕ) → D ≤ S → HasValue a false (S - D) S → AtMost rate largest 1 → AtMost x (2 ^ 94) 1
    → AtMost (add binary64 (mul binary64 a x) (mul binary64 (sub binary64 (whole 1) a) rate)) largest 1
averaged rate x a D d is r at = elim (eq-or-lt_of_le d) [
  | inl e ↦ together rate x a D 0 largest d is r at exactly-0 exactly-largest (le_of_eq (nothing D e)) (all D e) (lit≤ tt)
  | inr l ↦ together rate x a D (2 ^ 94) left d is r at exactly-94 exactly-left (some D) (less D l) (lit≤ tt)
]
  where
    nothing : (D : ℕ) → D ≡ S → (S - D) * 2 ^ 94 * 1 ≡ 0 * (S * 1)
    nothing D e = rw e refl

    all : (D : ℕ) → D ≡ S → D * largest * 1 ≤ largest * (S * 1)
    all D e = rw e (lit≤ tt)

    some : (D : ℕ) → (S - D) * 2 ^ 94 * 1 ≤ 2 ^ 94 * (S * 1)
    some D = rw (mul-one ((S - D) * 2 ^ 94)) (le_trans (mul-le-mul_right (2 ^ 94) (sub-le S D)) (lit≤ tt))

    less : (D : ℕ) → D < S → D * largest * 1 ≤ left * (S * 1)
    less D l = rw (mul-one (D * largest)) (le_trans (mul-le-mul_right largest (below D l)) (lit≤ tt))
      where
        below : (D : ℕ) → D < S → D ≤ S - 1
        below D l = omega arith

magnitude-of : (x : Float) (a c : ℕ) → AtMost x a c → magnitude x ≡ true
magnitude-of nan a c h = absurd h
magnitude-of (inf t) a c h = absurd h
magnitude-of (fin true m e) a c h = absurd (true≢false h.0)
magnitude-of (fin false m e) a c h = refl

pub folded-kept : (rate : Float) (n e c : ℕ) → T (fits binary64 rate) → magnitude rate ≡ true → n < 2 ^ 64 → 0 < e → e < 2 ^ 64 → magnitude (folded rate n e c) ≡ true
unfolding folded
folded-kept rate n e c f m hn p he =
    magnitude-of (folded rate n e c) largest 1
    (averaged rate (div binary64 (whole n) (div binary64 (whole e) nanos)) (alpha e c) (weight e c) (weight-le e c) (alpha-exact e c) (rate-at-most rate f m) (per-second n e hn p he))

-- ---- a tick

-- the fields of an estimator fit their Rust widths
pub record InRange (d : Demand) : Type 0 where
  pub rate : T (fits binary64 d.current_rate)
  pub attempts : d.attempts_since_tick < 2 ^ 64

-- from a rate that is finite with a clear sign bit, `tick` gives such a rate
pub tick-kept : (d : Demand) (now : ℕ) → InRange d → now < 2 ^ 64 → valid d ≡ true → valid (ticked d now) ≡ true
unfolding ticked_from
tick-kept d now r h v = from d.times
  where
    from : (t : Option Times) → valid (ticked_from t d now) ≡ true
    from None = v
    from (Some k) = by-elapsed (now - k.last_tick) (eqb (now - k.last_tick) 0) refl refl
      where
        by-elapsed : (e : ℕ) (b : Bool) → now - k.last_tick ≡ e → eqb (now - k.last_tick) 0 ≡ b
            → valid (cond b d (record { current_rate = folded d.current_rate d.attempts_since_tick (now - k.last_tick) d.time_constant; attempts_since_tick = 0; times = Some (record { last_tick = now; since = k.since }); time_constant = d.time_constant })) ≡ true
        by-elapsed e true is t = v
        by-elapsed e false is t =
            folded-kept d.current_rate d.attempts_since_tick (now - k.last_tick) d.time_constant r.rate v r.attempts (pos_of_ne-zero (eqb-false (now - k.last_tick) 0 t)) (omega arith)
