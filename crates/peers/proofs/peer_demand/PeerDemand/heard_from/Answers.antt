-- `heard_from` meets its contract.
use Rattle.std.proofs.Common.{◌∙◌}
use Rattle.peers.specs.Peers.State.{tables}
use Rattle.peers.specs.Peers.Readers.{join}
use Rattle.peers.proofs.Peers.Readers.ReaderLaws.{peer-round, heard-at}
use Rattle.peers.proofs.peer_demand.PeerDemand.heard_from.Goals as goal

pub heard_taken-taken-requires-clause-round_bound : goal.heard_taken-taken-requires-clause-round_bound
heard_taken-taken-requires-clause-round_bound c = peer-round c.args.self.peers c.args.peers.now c.requires.state_ready.peers c.requires.state_ready.pass c.args.i c.requires.i_lt_peers

pub returns : goal.returns
returns c =
    let s = c.args in
    c.join.ensures ∙ (λ k. join (c.heard_taken-taken.ensures k) (c.heard_contested-other.ensures k)) ∙ heard-at s.self (tables s.peers.now s.snapshot_keys.now s.contested.now) c.requires.state_ready s.key s.i c.requires.i_lt_peers
