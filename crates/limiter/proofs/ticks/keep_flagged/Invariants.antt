-- The `kept` records before `i` whose flag is set are at the front.
use Rattle.limiter.proofs.Walking.FlagLaws.{Flagging}
use Rattle.limiter.proofs.ticks.keep_flagged.Given as goal

abbrev pub invariant-loop-i : goal.invariant-loop-i
invariant-loop-i l = Flagging l.w l.n l.stays l.initial.t l.t l.i l.kept
