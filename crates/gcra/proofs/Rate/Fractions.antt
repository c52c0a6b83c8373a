-- Fractions and what a rounding takes off them: `Part a c v w m n` says that v / w is at least m / n of a / c, `Sized a c p` that a / c lies between 1 / p and p.
-- Read the other way round, a `Part` bounds from above.
use Prim.Native.Nat.{ℕ, ◌+◌, ◌-◌, ◌*◌, ◌^◌, ◌≤◌, ◌<◌}
use mathlib.Core.Path.{◌≡◌, sym, ap}
use mathlib.Core.Bool.{false}
use native.Mathlib.Nat.{le_trans, le_of_eq, mul_comm, mul_assoc, mul_left_comm, mul-le-mul, mul-le-mul_left, mul-le-mul_right, le_of_mul-le-mul_right}
use lib.Ieee.{Float, binary64, round}
use lib.Ieee.Positive.{num, den}
use Rattle.float.proofs.Formats.Error.{Near, round-near, near-lo, near-hi}

pub record Part (a c v w m n : ℕ) : Type 0 where
  pub holds : a * w * m ≤ v * c * n

pub record Sized (a c p : ℕ) : Type 0 where
  pub lo : c ≤ a * p
  pub hi : a ≤ c * p

pub part-times : {a c v w m n a' c' v' w' m' n' : ℕ} → Part a c v w m n → Part a' c' v' w' m' n' → Part (a * a') (c * c') (v * v') (w * w') (m * m') (n * n')
part-times {a} {c} {v} {w} {m} {n} {a'} {c'} {v'} {w'} {m'} {n'} h k =
    record { holds = le_trans (le_of_eq (pairs a a' w w' m m')) (le_trans (mul-le-mul h.holds k.holds) (le_of_eq (sym (pairs v v' c c' n n')))) }
  where
    pairs : (a b c d e f : ℕ) → a * b * (c * d) * (e * f) ≡ a * c * e * (b * d * f)
    pairs a b c d e f = simp (mul_assoc, mul_left_comm)

pub part_then : {a c v w x y m n m' n' : ℕ} → 0 < w → Part a c v w m n → Part v w x y m' n' → Part a c x y (m * m') (n * n')
part_then {a} {c} {v} {w} {x} {y} {m} {n} {m'} {n'} W h k =
    record {
      holds =
          le_of_mul-le-mul_right
          (le_trans (le_of_eq (one a y m m' w))
          (le_trans (mul-le-mul_right (y * m') h.holds)
          (le_trans (le_of_eq (two v c n y m'))
          (le_trans (mul-le-mul_right (c * n) k.holds) (le_of_eq (three x w n' c n))))))
          W;
    }
  where
    one : (a b c d e : ℕ) → a * b * (c * d) * e ≡ a * e * c * (b * d)
    one a b c d e = simp (mul_assoc, mul_comm, mul_left_comm)

    two : (a b c d e : ℕ) → a * b * c * (d * e) ≡ a * d * e * (b * c)
    two a b c d e = simp (mul_assoc, mul_comm, mul_left_comm)

    three : (a b c d e : ℕ) → a * b * c * (d * e) ≡ a * d * (e * c) * b
    three a b c d e = simp (mul_assoc, mul_comm, mul_left_comm)

-- one over each
pub part-over : {a c v w m n : ℕ} → Part a c v w m n → Part w v c a m n
part-over {a} {c} {v} {w} {m} {n} h =
    record { holds = le_trans (le_of_eq (ap (λ (z : ℕ). z * m) (mul_comm w a))) (le_trans h.holds (le_of_eq (ap (λ (z : ℕ). z * n) (mul_comm v c)))) }

pub sized-times : {a c p a' c' p' : ℕ} → Sized a c p → Sized a' c' p' → Sized (a * a') (c * c') (p * p')
sized-times {a} {c} {p} {a'} {c'} {p'} h k =
    record {
      lo = le_trans (mul-le-mul h.lo k.lo) (le_of_eq (pairs a p a' p'));
      hi = le_trans (mul-le-mul h.hi k.hi) (le_of_eq (pairs c p c' p'));
    }
  where
    pairs : (a b c d : ℕ) → a * b * (c * d) ≡ a * c * (b * d)
    pairs a b c d = simp (mul_assoc, mul_left_comm)

pub sized-over : {a c p : ℕ} → Sized a c p → Sized c a p
sized-over h = record { lo = h.hi; hi = h.lo }

pub sized-wider : {a c p q : ℕ} → p ≤ q → Sized a c p → Sized a c q
sized-wider {a} {c} h s = record { lo = le_trans s.lo (mul-le-mul_left a h); hi = le_trans s.hi (mul-le-mul_left c h) }

-- ---- one rounding of a fraction of moderate size
pub rounds : {a c p : ℕ} → 0 < c → Sized a c p → p ≤ 2 ^ 1022 → Near binary64 (round binary64 false a c) a c
rounds {a} {c} C s h = round-near binary64 a c C (le_trans s.lo (mul-le-mul_left a h)) (le_trans s.hi (mul-le-mul_left c h))

pub near-low : {x : Float} {a c : ℕ} → Near binary64 x a c → Part a c (num x) (den x) (2 ^ 53 - 1) (2 ^ 53)
near-low n = record { holds = n.low }

pub near-high : {x : Float} {a c : ℕ} → Near binary64 x a c → Part (num x) (den x) a c (2 ^ 53) (2 ^ 53 + 1)
near-high n = record { holds = n.high }

pub near-sized : {x : Float} {a c p : ℕ} → 0 < c → Near binary64 x a c → Sized a c p → Sized (num x) (den x) (p * 2)
near-sized {x} {a} {c} {p} C n s = record { lo = near-lo binary64 x a c p C n s.lo; hi = near-hi binary64 x a c p C n s.hi }
