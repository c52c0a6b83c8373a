-- The terms of the series fall, and from one that is 0 on the sum stays.
use mathlib.Core.Path.{◌≡◌, refl, sym, ap, ◌∙◌}
use Prim.Native.Nat.{ℕ, zero, suc, ◌+◌, ◌-◌, ◌*◌, ◌/◌, ◌≤◌, ◌<◌}
use native.Mathlib.Nat.{le_refl, le_trans, le_of_eq, le-add_left, mul-le-mul_left, mul-le-mul_right, mul_comm, zero-mul, zero-div, zero-add, suc-add, div-le_of_le-mul}
use native.Mathlib.Numerals.{add-one, add-two}
use native.Mathlib.Omega.{arith}
use Rattle.demand.specs.Decay.Weight.{S, next, term, sum, series}

pub double : (m : ℕ) → suc m + suc m ≡ suc (suc (m + m))
double m = omega arith

-- ---- the terms fall, for a y of at most S

pub next_le : (k t y : ℕ) → y ≤ S → 0 < k → next k t y ≤ t
unfolding next
next_le k t y h p =
    div-le_of_le-mul (k * S)
    (le_trans (mul-le-mul_left t (le_trans h (omega (arith, mul-le-mul_right S p)))) (le_of_eq (mul_comm t (k * S))))

pub term-falls : (y k : ℕ) → y ≤ S → term y (suc k) ≤ term y k
unfolding term
term-falls y k h = next_le (suc k) (term y k) y h (omega arith)

pub term-le : (y k : ℕ) → y ≤ S → term y k ≤ S
unfolding term
term-le y zero h = le_refl S
term-le y (suc k) h = le_trans (term-falls y k h) (term-le y k h)

last-le : (y j : ℕ) → term y (j + j) ≤ sum y j
unfolding sum
last-le y zero = le_refl (term y zero)
last-le y (suc j) = rw double (le-add_left (term y (suc (suc (j + j)))) (sum y j - term y (suc (j + j))))

-- the term that is taken away next
pub taken-le : (y j : ℕ) → y ≤ S → term y (suc (j + j)) ≤ sum y j
taken-le y j h = le_trans (term-falls y (j + j) h) (last-le y j)

pub sum-le : (y j : ℕ) → y ≤ S → sum y j ≤ S
unfolding sum
sum-le y zero h = term-le y zero h
sum-le y (suc j) h = omega (arith, sum-le y j h, taken-le y j h, term-falls y (suc (j + j)) h)

-- ---- what the loop keeps: the sum of the terms 0 to 2 * j, and the last of them

pub record Upto (y j s t : ℕ) : Type 0 where
  pub is_sum : s ≡ sum y j
  pub is_term : t ≡ term y (j + j)

pub start : (y : ℕ) → Upto y 0 S S
unfolding term sum
start y = record { is_sum = refl; is_term = refl }

pub step : (y j s t odd even : ℕ) → Upto y j s t → odd ≡ next (j + j + 1) t y → even ≡ next (j + j + 2) odd y → Upto y (j + 1) (s - odd + even) even
unfolding term sum
step y j s t odd even u ho he =
    let eo : odd ≡ term y (suc (j + j)) = ho ∙ (λ i. next (add-one (j + j) i) (u.is_term i) y) in
    let ee : even ≡ term y (suc (suc (j + j))) = he ∙ (λ i. next (add-two (j + j) i) (eo i) y) in
    let en : suc (suc (j + j)) ≡ j + 1 + (j + 1) = omega arith in
    record { is_sum = rw add-one (λ i. u.is_sum i - eo i + ee i); is_term = ee ∙ ap (term y) en }

-- ---- from a term that is 0 on

next-zero : (y k : ℕ) → term y k ≡ 0 → term y (suc k) ≡ 0
unfolding term next
next-zero y k e = ap (λ (t : ℕ). t * y / (suc k * S)) e ∙ ap (λ (n : ℕ). n / (suc k * S)) (zero-mul y) ∙ zero-div (suc k * S)

zeros : (y k i : ℕ) → term y k ≡ 0 → term y (i + k) ≡ 0
zeros y k zero e = rw zero-add e
zeros y k (suc i) e = rw suc-add (next-zero y (i + k) (zeros y k i e))

stays : (y j i : ℕ) → term y (j + j) ≡ 0 → sum y (i + j) ≡ sum y j
unfolding sum
stays y j zero e = rw zero-add
stays y j (suc i) e =
    let n = i + j in
    let at_n : i + i + (j + j) ≡ n + n = omega arith in
    let z : term y (n + n) ≡ 0 = ap (term y) (sym at_n) ∙ zeros y (j + j) (i + i) e in
    let z₁ : term y (suc (n + n)) ≡ 0 = next-zero y (n + n) z in
    let z₂ : term y (suc (suc (n + n))) ≡ 0 = next-zero y (suc (n + n)) z₁ in
    rw (suc-add i j) (omega (arith, z₁, z₂, stays y j i e))

-- the series, once a term is 0 or all are in
pub settled : (y j s t : ℕ) → j ≤ 10 → Upto y j s t → t ≡ 0 → s ≡ series y
unfolding series
settled y j s t h u z =
    let e : 10 - j + j ≡ 10 = omega arith in
    u.is_sum ∙ sym (stays y j (10 - j) (sym u.is_term ∙ z)) ∙ ap (sum y) e

pub whole_sum : (y j s t : ℕ) → j ≤ 10 → 10 ≤ j → Upto y j s t → s ≡ series y
unfolding series
whole_sum y j s t h k u =
    let e : j ≡ 10 = omega arith in
    u.is_sum ∙ ap (sum y) e
