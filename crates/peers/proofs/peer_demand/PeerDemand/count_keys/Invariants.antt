-- The keys so far, and those that are left to count, make up all.
use Rattle.std.proofs.Common.{◌≡◌, ◌+◌, ◌≤◌, length, drop}
use Rattle.records.specs.Records.{records}
use Rattle.questions.specs.Lists.{only}
use Rattle.peers.proofs.Peers.Readers.ReaderLaws.{alone}
use Rattle.peers.proofs.peer_demand.PeerDemand.count_keys.Given as goal

abbrev pub invariant-loop-i : goal.invariant-loop-i
invariant-loop-i l = (l.count ≤ l.n + l.i) × (l.count + length (only (alone l.n l.snapshot_keys) (drop l.i (records 6 l.m l.contested))) ≡ l.n + length (only (alone l.n l.snapshot_keys) (drop 0 (records 6 l.m l.contested))))
