-- The weakest of the entries before `i` is `least`.
use Rattle.hot.proofs.HotSet.Scan.{Weakest}
use Rattle.hot.proofs.hot_set.weakest.Given as goal

abbrev pub invariant-loop-i : goal.invariant-loop-i
invariant-loop-i l = Weakest l.n l.hot l.least l.i
