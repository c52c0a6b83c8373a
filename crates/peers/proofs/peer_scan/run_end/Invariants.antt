-- The records from the first of the run up to i are of the run.
use Rattle.peers.proofs.Peers.Validity.ScanRunLaws.{Ran}
use Rattle.peers.proofs.peer_scan.run_end.Given as goal

abbrev pub invariant-loop-i : goal.invariant-loop-i
invariant-loop-i l = Ran l.w l.n l.id l.from l.i l.t
