-- The pairs before `i` are checked.
use Rattle.limiter.proofs.Checking.EachLaws.{Reached}
use Rattle.limiter.proofs.many_checks.check_pairs.Given as goal

abbrev pub invariant-loop-i : goal.invariant-loop-i
invariant-loop-i l = Reached l.initial.left l.initial.keys l.list l.cluster_size l.initial.out l.i l.left l.keys l.out
