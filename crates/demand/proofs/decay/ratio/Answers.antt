-- `decay::ratio` meets its contract: two digits in the base 2 ^ 26, or `ratio_by_bits`.
use Prim.Native.Nat.{ℕ, zero, ◌+◌, ◌*◌, ◌/◌, ◌%◌, ◌^◌, ◌<◌}
use native.Mathlib.Nat.{mod-lt}
use native.Mathlib.Omega.{arith}
use lib.Pow.{pow_pos}
use Rattle.demand.proofs.Weight.Division.{Divided, first, digit, quotient, quotient-lt, scaled-lt}
use Rattle.demand.proofs.decay.ratio.Goals as goal

both : (r c : ℕ) → r < c → Divided r (2 ^ 52) c (r * 2 ^ 26 / c * 2 ^ 26 + r * 2 ^ 26 % c * 2 ^ 26 / c) (r * 2 ^ 26 % c * 2 ^ 26 % c)
both r c h = digit (2 ^ 26) r (2 ^ 26) c _ _ (first (2 ^ 26) r c h)

positive : {r c : ℕ} → r < c → zero < c
positive h = omega arith

pub overflow_mul-second : goal.overflow_mul-second
overflow_mul-second c = omega (arith, mod-lt (c.args.r * 2 ^ 26) (positive c.requires))

pub overflow_mul-result : goal.overflow_mul-result
overflow_mul-result c =
    let s = c.before in
    omega (arith, scaled-lt s.args.r (2 ^ 26) s.args.c s.requires (pow_pos 26))

pub overflow_add-result : goal.overflow_add-result
overflow_add-result c =
    let s = c.before in
    omega (arith, quotient-lt s.requires (pow_pos 52) (both s.args.r s.args.c s.requires))

pub returns-then-c-le274877906944 : goal.returns-then-c-le274877906944
returns-then-c-le274877906944 c = quotient (both c.args.r c.args.c c.requires)
