-- Of the first i records those that stay are kept.
use Rattle.std.proofs.Common.{map}
use Rattle.records.specs.Records.{records}
use Rattle.records.proofs.Changes.KeepLaws.{Kept}
use Rattle.peers.specs.Peers.Records.{peer_of, snapshot_key_of}
use Rattle.peers.specs.Peers.State.{has_snapshot}
use Rattle.peers.proofs.peer_steps.retain_snapshot_keys.Given as goal

abbrev pub invariant-loop-i : goal.invariant-loop-i
invariant-loop-i l = Kept (λ x. has_snapshot (map peer_of (records 12 l.fn.n l.fn.peers)) (snapshot_key_of x).peer) 4 l.k (records 4 l.k l.initial.snapshot_keys) l.initial.snapshot_keys l.snapshot_keys l.i l.kept
