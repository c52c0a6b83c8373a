-- The `kept` values before `i` whose flag is set are copied.
use Rattle.limiter.proofs.PassOne.CopyLaws.{Copying}
use Rattle.limiter.proofs.pass_one.copy_flagged.Given as goal

abbrev pub invariant-loop-i : goal.invariant-loop-i
invariant-loop-i l = Copying l.n l.from l.stays l.initial.to l.to l.i l.kept
