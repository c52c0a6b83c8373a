-- The updates before `i` are made, of updates that passed their questions.
use Rattle.std.proofs.Common.{length}
use Rattle.hot.specs.HotSet.Calls.{eviction_margin, lent_updates}
use Rattle.hot.proofs.HotSet.EachLaws.{EachPassed, Updating}
use Rattle.hot.proofs.hot_set.HotSet.update_all.Given as goal

abbrev pub invariant-loop-i : goal.invariant-loop-i
invariant-loop-i l = record {
  passed : EachPassed l.initial.set l.initial.hot l.keys l.w l.n l.demands l.thresholds l.elsewhere (length l.initial.out);
  made : Updating eviction_margin l.initial.set l.now (lent_updates l.keys l.w l.n l.demands l.thresholds l.elsewhere) l.initial.hot l.initial.out l.i l.set l.hot l.out;
}
