-- The runs of the first i peers are there, up to `from`, and the starts say where.
use Rattle.std.proofs.Common.{◌≡◌, length}
use Rattle.peers.specs.Peers.Steps.Scan.{Starts}
use Rattle.peers.proofs.Peers.Validity.ScanRunLaws.{Scanned}
use Rattle.peers.proofs.peer_scan.are_runs.Given as goal

abbrev pub invariant-loop-i : goal.invariant-loop-i
invariant-loop-i l = Scanned l.w l.least l.bound l.n l.p l.from l.i l.t l.peers × Starts l.w l.n l.i l.from l.t l.peers l.starts × (length l.starts ≡ 33)
