-- Long division: a quotient y of r * P by c with its rest, and one digit more of it.
use mathlib.Core.Path.{◌≡◌, sym, ap, ◌∙◌}
use Prim.Native.Nat.{ℕ, zero, ◌+◌, ◌-◌, ◌*◌, ◌/◌, ◌%◌, ◌≤◌, ◌<◌}
use native.Mathlib.Nat.{le_trans, le_of_eq, le_of_lt, lt-mul-div-succ, mul_right_comm, div-lt_iff_lt-mul, mul-lt-mul_of_pos_right, mul_assoc, mul_comm, mul-add, add-mul, div-add-mod', mod-lt}
use native.Mathlib.Omega.{arith}
use lib.Arith.{digits_div}

pub record Divided (r P c y rest : ℕ) : Type 0 where
  pub sum : y * c + rest ≡ r * P
  pub small : rest < c

-- no digit yet
pub none : (r c : ℕ) → r < c → Divided r 1 c 0 r
none r c h = record { sum = omega arith; small = h }

-- one more digit, in the base B
pub digit : (B r P c y rest : ℕ) → Divided r P c y rest → Divided r (P * B) c (y * B + rest * B / c) (rest * B % c)
digit B r P c y x d =
    let pos : zero < c = omega (arith, d.small) in
    record {
      sum =
          rw (add-mul (y * B) (x * B / c) c)
          (omega (arith, div-add-mod' (x * B) c, mul_right_comm y B c, add-mul (y * c) x B, ap (λ (n : ℕ). n * B) d.sum, mul_assoc r P B));
      small = mod-lt (x * B) pos;
    }

-- the first digit
pub first : (B r c : ℕ) → r < c → Divided r B c (r * B / c) (r * B % c)
first B r c h = record { sum = div-add-mod' (r * B) c; small = mod-lt (r * B) (omega arith) }

pub quotient : {r P c y rest : ℕ} → Divided r P c y rest → y ≡ r * P / c
quotient {r} {P} {c} {y} d = sym (ap (λ (n : ℕ). n / c) (sym d.sum) ∙ digits_div y d.small)

pub scaled-lt : (r P c : ℕ) → r < c → zero < P → r * P / c < P
scaled-lt r P c h p =
    (div-lt_iff_lt-mul {k = c} {x = r * P} {y = P} (omega arith)).1 (rw (mul_comm P c) (mul-lt-mul_of_pos_right h p))

pub quotient-lt : {r P c y rest : ℕ} → r < c → zero < P → Divided r P c y rest → y < P
quotient-lt {r} {P} {c} h p d = rw (quotient d) (scaled-lt r P c h p)

-- one more bit, as `ratio_by_bits` finds it
pub bit-clear : (r P c y rest : ℕ) → rest < c - rest → Divided r P c y rest → Divided r (P + P) c (y + y) (rest + rest)
bit-clear r P c y x h d = record { sum = rw (add-mul y y c, mul-add r P P) (omega (arith, d.sum)); small = omega (arith, d.small) }

pub bit-set : (r P c y rest : ℕ) → c - rest ≤ rest → Divided r P c y rest → Divided r (P + P) c (y + y + 1) (rest - (c - rest))
bit-set r P c y x h d = record { sum = rw (add-mul (y + y) 1 c, add-mul y y c, mul-add r P P) (omega (arith, d.sum, d.small)); small = omega (arith, d.small) }

-- a quotient's next whole number is above the fraction
pub quotient-next : (a b : ℕ) → zero < b → a ≤ (a / b + 1) * b
quotient-next a b h = le_trans (le_of_lt (lt-mul-div-succ a h)) (le_of_eq (mul_comm b (a / b + 1)))
