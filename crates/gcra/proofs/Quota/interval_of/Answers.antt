-- `gcra::Quota::interval_of` meets its contract.
use native.Mathlib.Omega.{arith}
use Rattle.gcra.specs.Packed.{value_of, unit_of}
use Rattle.gcra.proofs.Packed.Encoding.{value-small}
use Rattle.gcra.proofs.Quota.interval_of.Goals as goal

pub overflow_mul-result : goal.overflow_mul-result
overflow_mul-result c =
    let w = c.args.packed in
    record { fits = rw c.unit_nanos.ensures (value-small _ c.requires (value_of w) (unit_of w) (omega arith)) }

pub returns : goal.returns
returns c = cc
