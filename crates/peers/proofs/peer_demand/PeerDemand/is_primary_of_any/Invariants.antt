-- Whether one of the peers from i on has the key as primary decides.
use Rattle.std.proofs.Common.{◌≡◌, drop}
use Rattle.records.specs.Records.{records}
use Rattle.questions.specs.Lists.{any}
use Rattle.peers.specs.Peers.State.{tables, state_of}
use Rattle.peers.specs.Peers.Readers.{hot_elsewhere}
use Rattle.peers.proofs.Peers.Readers.ReaderLaws.{holds}
use Rattle.peers.proofs.peer_demand.PeerDemand.is_primary_of_any.Given as goal

abbrev pub invariant-loop-i : goal.invariant-loop-i
invariant-loop-i l = hot_elsewhere l.key (state_of l.self (tables l.peers l.snapshot_keys l.contested)) ≡ any (holds l.self (tables l.peers l.snapshot_keys l.contested) l.key) (drop l.i (records 12 l.self.peers l.peers))
