-- Bounds on products, over variables alone. Each is a sum of the given bounds times something, once both sides are written as sums of products.
use Prim.Native.Nat.{ℕ, zero, ◌+◌, ◌*◌, ◌≤◌, ◌<◌}
use native.Mathlib.Nat.{mul_assoc, mul_comm, mul_left_comm, mul-add, add-mul, mul-one, one-mul, mul-le-mul, mul-le-mul_left, mul-le-mul_right, le_of_mul-le-mul_right}
use native.Mathlib.Omega.{arith}

pub ruleset sums = (mul-add, add-mul, mul_assoc, mul_comm, mul_left_comm, mul-one, one-mul)

-- the next term, rounded down twice, is at most the exact one
pub term-low : (s y c r T T' n d R : ℕ) → zero < s → T' * (n * s) ≤ T * y → y * c ≤ r * s → T * d ≤ s * R → T' * (d * (n * c)) ≤ s * (R * r)
term-low s y c r T T' n d R hs h₁ h₂ h₃ =
    le_of_mul-le-mul_right {k = s}
    (simp sums
    (omega (arith, simp sums at (mul-le-mul_right (c * d) h₁), simp sums at (mul-le-mul_left (T * d) h₂), simp sums at (mul-le-mul_right (r * s) h₃))))
    hs

-- and falls short of it by at most ε' where the last fell short by at most ε
pub term-high : (s y c r T T' n d R ε ε' : ℕ) → zero < s → T * y ≤ (T' + 1) * (n * s) → r * s ≤ (y + 1) * c → s * R ≤ (T + ε) * d → T ≤ s → y + 1 ≤ s → 1 + n + ε ≤ ε' * n
    → s * (R * r) ≤ (T' + ε') * (d * (n * c))
term-high s y c r T T' n d R ε ε' hs h₁ h₂ h₃ hT hy hε =
    le_of_mul-le-mul_right {k = s}
    (simp sums
    (omega (
      arith,
      simp sums at (mul-le-mul_right (r * s) h₃),
      simp sums at (mul-le-mul_left ((T + ε) * d) h₂),
      simp sums at (mul-le-mul_right (d * c) h₁),
      simp sums at (mul-le-mul_right (d * c) hT),
      simp sums at (mul-le-mul_right (ε * (d * c)) hy),
      simp sums at (mul-le-mul_right (s * (d * c)) hε),
    )))
    hs

-- A sum P of rounded terms against the exact sum (p - q) / d, in s parts: what holds before a term holds after it, with the term's own error.

pub minus-high : (s p q d n c P T R ε : ℕ) → s * p ≤ (P + T + ε) * d + s * q → T * (d * (n * c)) ≤ s * R → s * (p * (n * c)) ≤ (P + ε) * (d * (n * c)) + s * (q * (n * c) + R)
minus-high s p q d n c P T R ε h t = simp sums (omega (arith, simp sums at (mul-le-mul_right (n * c) h), simp sums at t))

pub plus-high : (s p q d n c P T R ε ε' : ℕ) → s * p ≤ (P + ε) * d + s * q → s * R ≤ (T + ε') * (d * (n * c)) → s * (p * (n * c) + R) ≤ (P + T + (ε + ε')) * (d * (n * c)) + s * (q * (n * c))
plus-high s p q d n c P T R ε ε' h t = simp sums (omega (arith, simp sums at (mul-le-mul_right (n * c) h), simp sums at t))

pub minus-low : (s p q d n c P T R δ ε' : ℕ) → (P + T) * d + s * q ≤ s * p + δ * d → s * R ≤ (T + ε') * (d * (n * c)) → P * (d * (n * c)) + s * (q * (n * c) + R) ≤ s * (p * (n * c)) + (δ + ε') * (d * (n * c))
minus-low s p q d n c P T R δ ε' h t = simp sums (omega (arith, simp sums at (mul-le-mul_right (n * c) h), simp sums at t))

pub plus-low : (s p q d n c P T R δ : ℕ) → P * d + s * q ≤ s * p + δ * d → T * (d * (n * c)) ≤ s * R → (P + T) * (d * (n * c)) + s * (q * (n * c)) ≤ s * (p * (n * c) + R) + δ * (d * (n * c))
plus-low s p q d n c P T R δ h t = simp sums (omega (arith, simp sums at (mul-le-mul_right (n * c) h), simp sums at t))

-- The product of two, rounded down: W is P * E / s, P is within ε of s * hi / d or s * lo / d, and E within η of s * H / B or s * L / B.

pub product_high : (s P E W hi d H B ε η z : ℕ) → zero < s → s * hi ≤ (P + ε) * d → s * H ≤ (E + η) * B → P * E ≤ (W + 1) * s → P ≤ s → s + η * s + ε * E + ε * η ≤ z * s
    → s * (hi * H) ≤ (W + z) * (d * B)
product_high s P E W hi d H B ε η z hs h₁ h₂ h₃ hP side =
    le_of_mul-le-mul_right {k = s}
    (simp sums
    (omega (
      arith,
      simp sums at (mul-le-mul h₁ h₂),
      simp sums at (mul-le-mul_right (d * B) h₃),
      simp sums at (mul-le-mul_right (η * (d * B)) hP),
      simp sums at (mul-le-mul_right (d * B) side),
    )))
    hs

pub product-low : (s P E W lo d L B ε η z g : ℕ) → zero < s → P * d ≤ s * lo + ε * d → E * B ≤ s * L + η * B → W * s ≤ P * E → lo ≤ d → s * L ≤ g * B → η * s + ε * g + ε * η ≤ z * s
    → W * (d * B) ≤ s * (lo * L) + z * (d * B)
product-low s P E W lo d L B ε η z g hs h₁ h₂ h₃ hlo hg side =
    le_of_mul-le-mul_right {k = s}
    (simp sums
    (omega (
      arith,
      simp sums at (mul-le-mul h₁ h₂),
      simp sums at (mul-le-mul_right (d * B) h₃),
      simp sums at (mul-le-mul_right (s * (η * B)) hlo),
      simp sums at (mul-le-mul_right (ε * d) hg),
      simp sums at (mul-le-mul_right (d * B) side),
    )))
    hs
