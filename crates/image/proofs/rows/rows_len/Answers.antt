-- A record has few bytes, so the product fits.
use Rattle.std.proofs.Common.{ℕ, ◌*◌, ap, arith}
use native.Mathlib.Nat.{mul-le-mul_right}
use Rattle.image.specs.Kinds.{kind_number}
use Rattle.image.proofs.Saving.PutLaws.{count-few}
use Rattle.image.proofs.rows.rows_len.Goals as goal

pub overflow_mul-result : goal.overflow_mul-result
overflow_mul-result c = omega (arith, count-few (kind_number c.args.kind), c.size.ensures, mul-le-mul_right c.size.result c.requires)

pub returns : goal.returns
returns c = ap (λ (size : ℕ). c.args.n * size) c.size.ensures
