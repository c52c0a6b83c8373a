-- By the unit: nanoseconds, a coarser one, or none.
use native.Mathlib.Omega.{arith}
use Rattle.gcra.proofs.Packed.PackedWords.{no-burst, no-unit, by-nanos, by-coarser}
use Rattle.gcra.proofs.Quota.is_packed.Goals as goal

pub returns-then-packed-eq0 : goal.returns-then-packed-eq0
returns-then-packed-eq0 c = no-burst _ c.if-packed-eq0.true

pub returns-in-0 : goal.returns-in-0
returns-in-0 c = by-nanos c.args.packed (omega arith) c.if-packed-eq0.false (omega arith)

pub returns-in-1 : goal.returns-in-1
returns-in-1 c = by-coarser c.args.packed (omega arith) c.if-packed-eq0.false (omega arith) (omega arith)

pub returns-in_default : goal.returns-in_default
returns-in_default c = no-unit _ (omega arith)
