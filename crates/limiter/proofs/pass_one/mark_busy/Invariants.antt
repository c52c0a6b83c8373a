-- The flags before `i` are set.
use Rattle.limiter.specs.Steps.KeySteps.{units}
use Rattle.limiter.proofs.PassOne.MeasureLaws.{Busy}
use Rattle.limiter.proofs.pass_one.mark_busy.Given as goal

abbrev pub invariant-loop-i : goal.invariant-loop-i
invariant-loop-i l = Busy units l.silent l.n l.keys l.reading l.hots l.initial.stays l.stays l.i
