-- `decay::ratio_by_bits` meets its contract.
use mathlib.Core.Path.{◌≡◌, sym, subst}
use Prim.Native.Nat.{ℕ, ◌+◌, ◌*◌, ◌/◌, ◌^◌, ◌≤◌, ◌<◌}
use native.Mathlib.Nat.{two-pow-succ, le_trans}
use native.Mathlib.Numerals.{add-one}
use native.Mathlib.Omega.{arith}
use lib.Pow.{pow_mono, pow_pos}
use Rattle.demand.proofs.Weight.Division.{Divided, none, bit-clear, bit-set, quotient, quotient-lt}
use Rattle.demand.proofs.decay.ratio_by_bits.Lts.{then-rest-c, else-rest-c}
use Rattle.demand.proofs.decay.ratio_by_bits.Goals as goal

pow-next : (i : ℕ) → 2 ^ (i + 1) ≡ 2 ^ i + 2 ^ i
pow-next i = rw add-one (two-pow-succ i)

kept : (r c y rest i : ℕ) → r < c → Divided r (2 ^ i + 2 ^ i) c y rest → (rest < c) × (y < 2 ^ (i + 1)) × Divided r (2 ^ (i + 1)) c y rest
kept r c y rest i k d =
    let d' = subst (λ (P : ℕ). Divided r P c y rest) (sym (pow-next i)) d in
    (d.small, quotient-lt k (pow_pos (i + 1)) d', d')

small : (y i : ℕ) → y < 2 ^ i → i ≤ 52 → y < 2 ^ 52
small y i h k = le_trans h (pow_mono k)

pub loop-init : goal.loop-init
loop-init c = (c.requires, omega arith, none _ _ c.requires)

pub overflow_sub-c : goal.overflow_sub-c
overflow_sub-c c = omega (arith, c.loop.invariant.0)

pub overflow_add-y : goal.overflow_add-y
overflow_add-y c = record { fits = omega (arith, small _ _ c.loop.invariant.1 c.loop.auto.counter-end) }

pub overflow_sub-rest : goal.overflow_sub-rest
overflow_sub-rest c = omega (arith, c.loop.invariant.0)

pub overflow_add-y-else-rest-c : goal.overflow_add-y-else-rest-c
overflow_add-y-else-rest-c c = record { fits = omega (arith, small _ _ c.loop.invariant.1 c.loop.auto.counter-end) }

pub overflow_add-y-else-rest-c-2 : goal.overflow_add-y-else-rest-c-2
overflow_add-y-else-rest-c-2 c = record { fits = omega (arith, small _ _ c.loop.invariant.1 c.loop.auto.counter-end) }

pub loop-preserved : goal.loop-preserved
loop-preserved c =
    let i = c.loop.invariant in
    elim c.if-rest-c.branch [
      | then-rest-c w ↦ rw (w.y-is, w.rest-is) (kept _ _ _ _ _ c.requires (bit-clear _ _ _ _ _ w.if-rest-c.true i.2))
      | else-rest-c w ↦ rw (w.y-is, w.rest-is) (kept _ _ _ _ _ c.requires (bit-set _ _ _ _ _ w.if-rest-c.false i.2))
    ]

done : (r c y rest i : ℕ) → i ≤ 52 → 52 ≤ i → Divided r (2 ^ i) c y rest → y ≡ r * 2 ^ 52 / c
done r c y rest i h k d =
    let e : i ≡ 52 = omega arith in
    quotient (subst (λ (n : ℕ). Divided r (2 ^ n) c y rest) e d)

pub returns : goal.returns
returns c = done _ _ _ _ _ c.loop.auto.counter-end c.loop-test.false c.loop.invariant.2
