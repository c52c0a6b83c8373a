-- The sum so far, and what is left to add, make up the total.
use Rattle.std.proofs.Common.{◌≡◌, map, drop}
use Rattle.records.specs.Records.{records}
use Rattle.peers.specs.Peers.Records.{peer_of}
use Rattle.peers.specs.Peers.State.{tables, state_of}
use Rattle.peers.specs.Peers.Readers.{total_from, total}
use Rattle.peers.proofs.peer_demand.PeerDemand.sum_heard.Given as goal

abbrev pub invariant-loop-i : goal.invariant-loop-i
invariant-loop-i l = total_from l.sum l.key (state_of l.self (tables l.peers l.snapshot_keys l.contested)) (map peer_of (drop l.i (records 12 l.self.peers l.peers))) ≡ total l.key (state_of l.self (tables l.peers l.snapshot_keys l.contested))
