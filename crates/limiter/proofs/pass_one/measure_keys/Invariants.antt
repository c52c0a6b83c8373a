-- The first `i` of each are worked out.
use Rattle.limiter.specs.Steps.KeySteps.{units}
use Rattle.limiter.proofs.PassOne.MeasureLaws.{Measuring}
use Rattle.limiter.proofs.pass_one.measure_keys.Given as goal

abbrev pub invariant-loop-i : goal.invariant-loop-i
invariant-loop-i l =
    Measuring units l.silent l.n l.keys l.alpha l.cluster_size l.elsewhere l.initial.demands l.initial.thresholds l.initial.flags l.demands l.thresholds l.flags l.i
