-- A debt that is carried over keeps its slots: five roundings each within one part in 2^53, and one to a whole number.
use Prim.Native.Nat.{ℕ, zero, suc, ◌+◌, ◌-◌, ◌*◌, ◌/◌, ◌^◌, ◌≤◌, ◌<◌, min}
use mathlib.Core.Path.{◌≡◌, refl, sym, ap, ◌∙◌, subst}
use mathlib.Core.Logic.{inl, inr}
use mathlib.Core.Bool.{true, false, and-false}
use native.Mathlib.Nat.{le_trans, le_of_eq, mul_comm, mul_assoc, mul-pos, mul-le-mul_left, mul-le-mul_right, le_of_mul-le-mul_right}
use native.Mathlib.Nat.{div-add-mod', mod-lt, div-mul-le_self, eq-zero-or-pos}
use native.Mathlib.Omega.{arith}
use lib.Dec.{T, eqb, ltb, lit<, lit≤}
use borrow.Author.Tests.{ltb-true, ltb-false}
use lib.Ieee.{Float, nan, inf, fin, binary64, round, mul, div, is_nan, lt, eq, up, down, of_int, to_unsigned}
use Rattle.float.specs.Order.{below, choose, maximum_number}
use lib.Ieee.Fits.{mul-fits}
use lib.Ieee.Positive.{num, den, positive, den_pos}
use Rattle.float.specs.Integral.{round_away}
use Rattle.float.proofs.Orders.Order.{below-is}
use Rattle.float.proofs.Formats.Error.{Near, div_is, mul_is}
use Rattle.float.proofs.Integers.Integral.{rounded-part}
use Rattle.gcra.specs.declared.Quota.{Quota}
use Rattle.gcra.specs.declared.Units.{Units}
use Rattle.gcra.specs.declared.Gcra.{Gcra}
use Rattle.gcra.specs.Packed.{Accepted, valid_quota, max_burst}
use Rattle.gcra.specs.Rate.{float, slots, debt_slots, slot_nanos, carry_tat, set_quota}
use Rattle.questions.proofs.Tests.{split}
use Rattle.gcra.proofs.Packed.Validity.{Valid, valid-quota}
use Rattle.gcra.proofs.Rate.Rates.{same-keeps, equal-same}
use Rattle.gcra.proofs.Rate.Fractions.{Part, Sized, part-times, part_then, part-over, sized-times, sized-over, sized-wider, rounds, near-low, near-high, near-sized}

-- a whole number as a float
whole-sized : (n : ℕ) → 0 < n → n < 2 ^ 64 → Sized n 1 (2 ^ 64)
whole-sized n P N = record { lo = omega arith; hi = omega arith }

whole-near : (n : ℕ) → 0 < n → n < 2 ^ 64 → Near binary64 (float n) n 1
unfolding of_int
whole-near n P N = rounds (lit< tt) (whole-sized n P N) (lit≤ tt)

float-sized : (n : ℕ) → 0 < n → n < 2 ^ 64 → Sized (num (float n)) (den (float n)) (2 ^ 65)
float-sized n P N = near-sized (lit< tt) (whole-near n P N) (whole-sized n P N)

num_pos : (v w p : ℕ) → 0 < w → Sized v w p → 0 < v
num_pos zero w p W s = absurd (omega (arith, s.lo))
num_pos (suc v) w p W s = omega arith

-- the nearest whole number to v / w
nearest : ℕ → ℕ → ℕ
nearest v w = (2 * v + w) / (2 * w)

nearest-up : (v w : ℕ) → 0 < w → Part v w (2 * nearest v w + 1) 2 1 1
unfolding nearest
nearest-up v w W = record { holds = omega (arith, div-add-mod' (2 * v + w) (2 * w), mod-lt (2 * v + w) (mul-pos {m = 2} {n = w} (lit< tt) W)) }

nearest-down : (v w k : ℕ) → suc k ≡ nearest v w → Part (2 * k + 1) 2 v w 1 1
unfolding nearest
nearest-down v w k e = record { holds = omega (arith, div-mul-le_self (2 * v + w) (2 * w), ap (λ (z : ℕ). z * (2 * w)) e) }

-- what a rounding leaves and what it may add, of 2^53 parts
abbrev less : ℕ
less = 2 ^ 53 - 1

abbrev exactly : ℕ
exactly = 2 ^ 53

abbrev more : ℕ
more = 2 ^ 53 + 1

-- a bound with m / n, from one with M / N that is no closer
looser : (a b m n M N : ℕ) → 0 < n → M * n ≤ m * N → a * m ≤ b * n → a * M ≤ b * N
looser a b m n M N P h k =
    le_of_mul-le-mul_right
    (le_trans (le_of_eq (mul_assoc a M n))
    (le_trans (mul-le-mul_left a h)
    (le_trans (le_of_eq (sym (mul_assoc a m N)))
    (le_trans (mul-le-mul_right N k) (le_of_eq (turn b n N))))))
    P
  where
    turn : (a b c : ℕ) → a * b * c ≡ a * c * b
    turn a b c = simp (mul_assoc, mul_comm)

-- ---- the slots of a debt: debt / old, with three roundings
module _ (debt old : ℕ) (D : 0 < debt) (D' : debt < 2 ^ 64) (O : 0 < old) (O' : old < 2 ^ 64) where
  abbrev quotient : Float
  quotient = div binary64 (float debt) (float old)

  -- the quotient before it is rounded
  abbrev above : ℕ
  above = num (float debt) * den (float old)

  abbrev under : ℕ
  under = den (float debt) * num (float old)

  sized : Sized above under (2 ^ 130)
  sized = sized-times (float-sized debt D D') (sized-over (float-sized old O O'))

  under-pos : 0 < under
  under-pos = mul-pos (den_pos (float debt)) (num_pos (num (float old)) (den (float old)) (2 ^ 65) (den_pos (float old)) (float-sized old O O'))

  quotient-near : Near binary64 quotient above under
  quotient-near =
      subst (λ (y : Float). Near binary64 y above under)
      (ap (λ (c : ℕ). round binary64 false above c) (mul_comm (den (float debt)) (num (float old)))
      ∙ sym (div_is binary64 (float debt) (float old) (whole-near debt D D').above (whole-near old O O').above))
      (rounds under-pos sized (lit≤ tt))

  quotient-low : Part (debt * 1) (1 * old) (num quotient) (den quotient) (less * exactly * less) (exactly * more * exactly)
  quotient-low =
      part_then under-pos (part-times (near-low (whole-near debt D D')) (part-over (near-high (whole-near old O O')))) (near-low quotient-near)

  quotient-high : Part (num quotient) (den quotient) (debt * 1) (1 * old) (exactly * (exactly * less)) (more * (more * exactly))
  quotient-high =
      part_then under-pos (near-high quotient-near) (part-times (near-high (whole-near debt D D')) (part-over (near-low (whole-near old O O'))))

-- a float of moderate size that is at least the slots of a debt, up to the rounding
record Slots (debt old : ℕ) (y : Float) : Type 0 where
  counts : T (positive y)
  size : Sized (num y) (den y) (2 ^ 131)
  least : Part (debt * 1) (1 * old) (num y) (den y) (less * exactly * less) (exactly * more * exactly)

quotient-slots : (debt old : ℕ) → 0 < debt → debt < 2 ^ 64 → 0 < old → old < 2 ^ 64 → Slots debt old (div binary64 (float debt) (float old))
quotient-slots debt old D D' O O' =
    record {
      counts = (quotient-near debt old D D' O O').above;
      size = near-sized (under-pos debt old D D' O O') (quotient-near debt old D D' O O') (sized debt old D D' O O');
      least = quotient-low debt old D D' O O';
    }

-- of two positive floats the greater is the first, or the second and no less than the first
greater : (P : Float → Type 0) (x y : Float) → T (positive x) → T (positive y) → P x
    → (Part (num x) (den x) (num y) (den y) 1 1 → P y) → P (maximum_number x y)
unfolding maximum_number choose below is_nan lt
greater P nan y p q f g = absurd p
greater P (inf s) y p q f g = absurd p
greater P (fin true m e) y p q f g = absurd p
greater P (fin false m e) nan p q f g = absurd q
greater P (fin false m e) (inf s) p q f g = absurd q
greater P (fin false m e) (fin true n d) p q f g = absurd q
greater P (fin false m e) (fin false n d) p q f g =
    let x = fin false m e in
    let y = fin false n d in
    split (ltb (m * up e * down d) (n * up d * down e))
    (λ h. rw (sym (below-is x y true (eq x y) h refl)) (g (record { holds = omega (arith, ltb-true (m * up e * down d) (n * up d * down e) h) })))
    (λ h. rw (sym (below-is x y false (eq x y) h refl) ∙ and-false (eq x y)) f)

-- a burst, where it is more
burst-slots : (debt old b : ℕ) (y : Float) → 0 < b → b < 2 ^ 64 → Slots debt old y → Slots debt old (maximum_number y (float b))
burst-slots debt old b y B B' s =
    greater (Slots debt old) y (float b) s.counts (whole-near b B B').above s
    (λ h.
    let z = float-sized b B B' in
    record {
      counts = (whole-near b B B').above;
      size = sized-wider (lit≤ tt) z;
      least = part_then (den_pos y) s.least h;
    })

-- ---- that many slots of another interval, in nanoseconds: a fourth and a fifth rounding, and one to a whole number
module _ (y : Float) (Y : T (positive y)) (S : Sized (num y) (den y) (2 ^ 131)) (new : ℕ) (N : 0 < new) (N' : new < 2 ^ 64) where
  abbrev product : Float
  product = mul binary64 y (float new)

  factor-pos : 0 < den y * den (float new)
  factor-pos = mul-pos (den_pos y) (den_pos (float new))

  product-near : Near binary64 product (num y * num (float new)) (den y * den (float new))
  product-near =
      subst (λ (z : Float). Near binary64 z (num y * num (float new)) (den y * den (float new)))
      (sym (mul_is binary64 y (float new) Y (whole-near new N N').above))
      (rounds factor-pos (sized-times S (float-sized new N N')) (lit≤ tt))

  abbrev nanos : ℕ
  nanos = to_unsigned 64 (round_away product)

  -- the whole number, before it is held in a u64
  abbrev whole : ℕ
  whole = nearest (num product) (den product)

  nanos-is : nanos ≡ min whole (2 ^ 64 - 1)
  unfolding nearest
  nanos-is = rounded-part product (mul-fits binary64 y (float new)) product-near.above

  whole-low : {a c m n : ℕ} → Part a c (num y) (den y) m n
      → Part (a * new) (c * 1) (2 * whole + 1) 2 (m * less * less * 1) (n * exactly * exactly * 1)
  whole-low h =
      part_then (den_pos product) (part_then factor-pos (part-times h (near-low (whole-near new N N'))) (near-low product-near))
      (nearest-up (num product) (den product) (den_pos product))

  whole-high : {a c m n : ℕ} (k : ℕ) → suc k ≡ whole → Part (num y) (den y) a c m n
      → Part (2 * k + 1) 2 (a * new) (c * 1) (1 * (exactly * (m * exactly))) (1 * (more * (n * more)))
  whole-high k e h =
      part_then (den_pos product) (nearest-down (num product) (den product) k e)
      (part_then factor-pos (near-high product-near) (part-times h (near-high (whole-near new N N'))))

  -- r nanoseconds of T' for d of T: at least d * T' / T, less half a nanosecond and one part in 2^50
  nanos-low : (debt old : ℕ) → Part (debt * 1) (1 * old) (num y) (den y) (less * exactly * less) (exactly * more * exactly) → nanos < 2 ^ 64 - 1
      → debt * new * 2 ^ 51 ≤ nanos * old * 2 ^ 51 + old * 2 ^ 50 + debt * new * 2
  nanos-low debt old h l =
      last nanos whole nanos-is l
      (looser (debt * 1 * new * 2) ((2 * whole + 1) * (1 * old * 1)) _ _ (2 ^ 50 - 1) (2 ^ 50) (lit< tt) (lit≤ tt) (whole-low h).holds)
    where
      last : (r w : ℕ) → r ≡ min w (2 ^ 64 - 1) → r < 2 ^ 64 - 1 → debt * 1 * new * 2 * (2 ^ 50 - 1) ≤ (2 * w + 1) * (1 * old * 1) * 2 ^ 50
          → debt * new * 2 ^ 51 ≤ r * old * 2 ^ 51 + old * 2 ^ 50 + debt * new * 2
      last r w e l h = let z : w ≡ r = omega arith in omega (arith, ap (λ (x : ℕ). x * old) z)

  -- and at most that and as much more
  nanos-high : (debt old : ℕ) → Part (num y) (den y) (debt * 1) (1 * old) (exactly * (exactly * less)) (more * (more * exactly))
      → nanos * old * 2 ^ 51 ≤ debt * new * 2 ^ 51 + old * 2 ^ 50 + debt * new * 2
  nanos-high debt old h =
      last nanos whole nanos-is
      (λ k e. looser ((2 * k + 1) * (1 * old * 1)) (debt * 1 * new * 2) _ _ (2 ^ 50) (2 ^ 50 + 1) (lit< tt) (lit≤ tt) (whole-high k e h).holds)
    where
      last : (r w : ℕ) → r ≡ min w (2 ^ 64 - 1) → ((k : ℕ) → suc k ≡ w → (2 * k + 1) * (1 * old * 1) * 2 ^ 50 ≤ debt * 1 * new * 2 * (2 ^ 50 + 1))
          → r * old * 2 ^ 51 ≤ debt * new * 2 ^ 51 + old * 2 ^ 50 + debt * new * 2
      last r zero e h = let z : r ≡ 0 = omega arith in omega (arith, ap (λ (x : ℕ). x * old) z)
      last r (suc k) e h = let m : r ≤ suc k = omega arith in omega (arith, mul-le-mul_right old m, h k refl)

-- ---- in whole slots
-- p slots of T, carried over, are no less than p slots of T' less one
slots_kept : (d T T' p r : ℕ) → 0 < T → 0 < T' → p ≤ max_burst → p * T ≤ d
    → d * T' * 2 ^ 51 ≤ r * T * 2 ^ 51 + T * 2 ^ 50 + d * T' * 2 → p * T' < r + T'
slots_kept d T T' p r P Q few owed h =
    let a : p * T * T' ≤ d * T' = mul-le-mul_right T' owed in
    let b : p * T' * (2 ^ 51 - 2) * T ≤ (r * 2 ^ 51 + 2 ^ 50) * T = omega arith in
    let c : p * T' * (2 ^ 51 - 2) ≤ r * 2 ^ 51 + 2 ^ 50 = le_of_mul-le-mul_right b P in
    omega (arith, mul-le-mul_right T' few)

nothing-owed : (p T T' c : ℕ) → 0 < T → 0 < T' → p * T ≤ 0 → p * T' < c + T'
nothing-owed zero T T' c P Q h = omega arith
nothing-owed (suc p) T T' c P Q h = absurd (omega arith)

-- where the TAT is held at 2^64 - 1, it is far enough ahead
held : (now r c x T' : ℕ) → c ≡ min (now + r) (2 ^ 64 - 1) → now < 2 ^ 62 → x ≤ 2 ^ 61 → (r < 2 ^ 64 - 1 → x < r + T') → x < c - now + T'
held now r c x T' e l s f =
    split (ltb r (2 ^ 64 - 1))
    (λ h. let g : x < r + T' = f (ltb-true _ _ h) in omega arith)
    (λ h. let g : 2 ^ 64 - 1 ≤ r = ltb-false _ _ h in omega arith)

carry-is : (tat : ℕ) (old new : Quota) (now : ℕ) → carry_tat tat old new now ≡ min (now + slot_nanos (debt_slots tat old new now) new) (2 ^ 64 - 1)
unfolding carry_tat
carry-is tat old new now = refl

module _ (u : Units) (a : Accepted u) (old new : Quota) (vo : valid_quota u old ≡ true) (vn : valid_quota u new ≡ true) where
  valid-old : Valid u old
  valid-old = valid-quota u old vo

  valid-new : Valid u new
  valid-new = valid-quota u new vn

  old-fits : old.interval < 2 ^ 64
  old-fits = omega (arith, valid-old.most)

  new-fits : new.interval < 2 ^ 64
  new-fits = omega (arith, valid-new.most)

  -- the slots of a debt, where the TAT is saturated too
  debt-counts : (tat now : ℕ) → tat < 2 ^ 64 → 0 < tat - now → Slots (tat - now) old.interval (debt_slots tat old new now)
  unfolding debt_slots
  debt-counts tat now l d =
      let s = quotient-slots (tat - now) old.interval d (omega arith) valid-old.least old-fits in
      let o = burst-slots (tat - now) old.interval old.burst _ valid-old.burst.least (omega (arith, valid-old.burst.most)) s in
      split (eqb tat (2 ^ 64 - 1))
      (λ h. rw h (burst-slots (tat - now) old.interval new.burst _ valid-new.burst.least (omega (arith, valid-new.burst.most)) o))
      (λ h. rw h s)

  -- The nanoseconds that a debt becomes: at most debt * T' / T, and half a nanosecond and one part in 2^50 more.
  pub carried-at-most : (debt : ℕ) → 0 < debt → debt < 2 ^ 64
      → slot_nanos (slots debt old) new * old.interval * 2 ^ 51 ≤ debt * new.interval * 2 ^ 51 + old.interval * 2 ^ 50 + debt * new.interval * 2
  unfolding slot_nanos
  carried-at-most debt D D' =
      let s = quotient-slots debt old.interval D D' valid-old.least old-fits in
      nanos-high (slots debt old) s.counts s.size new.interval valid-new.least new-fits debt old.interval
      (quotient-high debt old.interval D D' valid-old.least old-fits)

  -- And at least that, less as much, where it fits a u64.
  pub carried-at-least : (tat now : ℕ) → tat < 2 ^ 64 → 0 < tat - now → slot_nanos (debt_slots tat old new now) new < 2 ^ 64 - 1
      → (tat - now) * new.interval * 2 ^ 51
      ≤ slot_nanos (debt_slots tat old new now) new * old.interval * 2 ^ 51 + old.interval * 2 ^ 50 + (tat - now) * new.interval * 2
  unfolding slot_nanos
  carried-at-least tat now l d f =
      let s = debt-counts tat now l d in
      nanos-low (debt_slots tat old new now) s.counts s.size new.interval valid-new.least new-fits (tat - now) old.interval s.least f

  -- A debt of p slots or more loses less than one slot when it is carried over, for p at most MAX_BURST and p * T' at most 2^61.
  pub carry-keeps : (tat now p : ℕ) → tat < 2 ^ 64 → now < 2 ^ 62 → p ≤ max_burst → p * new.interval ≤ 2 ^ 61
      → p * old.interval ≤ tat - now
      → p * new.interval < carry_tat tat old new now - now + new.interval
  carry-keeps tat now p l early few small owed =
      elim (eq-zero-or-pos (tat - now)) [
        | inl z ↦ nothing-owed p old.interval new.interval (carry_tat tat old new now - now) valid-old.least valid-new.least (omega arith)
        | inr d ↦
            held now (slot_nanos (debt_slots tat old new now) new) (carry_tat tat old new now) (p * new.interval) new.interval
            (carry-is tat old new now) early small
            (λ f.
            slots_kept (tat - now) old.interval new.interval p _ valid-old.least valid-new.least few owed
            (carried-at-least tat now l d f))
      ]

-- The same quota changes nothing at all.
pub same-quota-keeps : (g : Gcra) (now : ℕ) → set_quota g g.quota now ≡ g
same-quota-keeps g now = sym (same-keeps g g.quota now (equal-same g.quota g.quota refl))
