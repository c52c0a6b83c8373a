-- The records from `i` on, and the keys from `next` on, decide.
use Rattle.limiter.proofs.Validity.MergeLaws.{Merging}
use Rattle.limiter.proofs.scan.are_among.Given as goal

abbrev pub invariant-loop-i : goal.invariant-loop-i
invariant-loop-i l = Merging l.w l.n l.m l.t l.keys l.i l.next
