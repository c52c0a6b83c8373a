-- The records before `i` pass.
use Rattle.records.proofs.Tables.ScanLaws.{Scanned}
use Rattle.hot.specs.HotSet.Steps.{are_entry_words}
use Rattle.hot.proofs.hot_set.are_valid.Given as goal

abbrev pub invariant-loop-i : goal.invariant-loop-i
invariant-loop-i l = Scanned are_entry_words 6 l.n l.hot l.i
