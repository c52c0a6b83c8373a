-- The arithmetic of the count, in whole slots. n slots of an interval T are owed of a spell that began at the reading f, where n * T + f ≤ y: y is
-- the later of the TAT and the reading t. By t the spell has paid back (t - f) / T of them, its share.
use Prim.Native.Nat.{ℕ, zero, suc, ◌+◌, ◌-◌, ◌*◌, ◌/◌, ◌≤◌, ◌<◌}
use mathlib.Core.Path.{◌≡◌, refl}
use native.Mathlib.Omega.{arith}
use native.Mathlib.Nat.{lt-div-mul-add}
use Rattle.gcra.proofs.Meter.Count.{within}

-- what a change of quota keeps of the slots ahead of the reading: it loses less than one, of B or fewer
abbrev pub Carries : (B T T' t y y' : ℕ) → Type 0
Carries B T T' t y y' = (p : ℕ) → p ≤ B → p * T + t ≤ y → p * T' + t < y' + T'

-- Of k slots, a share s and two that were owed, k are owed still.
kept : (B k s T T' f t y y' : ℕ) → t < f + (s * T + T) → (k + (s + 2)) * T + f ≤ y → k + (s + 2) ≤ B + s → t ≤ y' → Carries B T T' t y y'
    → k * T' + t ≤ y'
kept B k s T T' f t y y' short owed most le carries = omega (arith, carries (suc k) (omega arith) (omega arith))

-- So a change lets go of the share and two slots: one by rounding the share down, and one by the carry.
pub carried-over : (B n T T' f t y y' : ℕ) → 0 < T → f ≤ t → t ≤ y' → n * T + f ≤ y → n * T + f ≤ B * T + t → Carries B T T' t y y'
    → (n - ((t - f) / T + 2)) * T' + t ≤ y'
carried-over B n T T' f t y y' p l le owed few carries = go (n - ((t - f) / T + 2)) refl
  where
    go : (k : ℕ) → n - ((t - f) / T + 2) ≡ k → k * T' + t ≤ y'
    go zero e = omega arith
    go (suc k) e =
        let all : suc k + ((t - f) / T + 2) ≡ n = omega arith in
        kept B (suc k) ((t - f) / T) T T' f t y y' (omega (arith, lt-div-mul-add {a = t - f} p)) (rw all owed)
        (rw all (within n T f t B p l few)) le carries
