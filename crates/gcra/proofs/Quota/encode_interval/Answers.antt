-- `gcra::Quota::encode_interval` meets its contract: each way out is the unit that the tests found.
use Rattle.gcra.proofs.Packed.Encoding.{first-unit, second-unit, third-unit}
use Rattle.gcra.proofs.Quota.encode_interval.Goals as goal

pub returns-then-nanos-lt-VALUES : goal.returns-then-nanos-lt-VALUES
returns-then-nanos-lt-VALUES c = first-unit _ _ c.div_ceil-nanos.ensures c.if-nanos-lt-VALUES.true

pub returns-then-coarser-lt-VALUES : goal.returns-then-coarser-lt-VALUES
returns-then-coarser-lt-VALUES c = second-unit _ _ c.div_ceil-nanos.ensures c.if-nanos-lt-VALUES.false c.div_ceil-coarser.ensures c.if-coarser-lt-VALUES.true

pub returns : goal.returns
returns c =
    third-unit _ _ c.div_ceil-nanos.ensures c.if-nanos-lt-VALUES.false c.div_ceil-coarser.ensures c.if-coarser-lt-VALUES.false
    c.div_ceil.ensures
