-- The records before `i` pass.
use Rattle.records.proofs.Tables.ScanLaws.{Scanned}
use Rattle.limiter.specs.Steps.Scan.{are_words}
use Rattle.limiter.specs.Steps.KeySteps.{units}
use Rattle.limiter.proofs.scan.are_records.Given as goal

abbrev pub invariant-loop-i : goal.invariant-loop-i
invariant-loop-i l = Scanned (are_words units) l.w l.n l.t l.i
