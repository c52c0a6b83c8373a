-- `heard_among_own` meets its contract.
use Rattle.std.proofs.Common.{◌∙◌}
use Rattle.peers.specs.Peers.State.{tables}
use Rattle.peers.proofs.Peers.Validity.StartLaws.{own-ready, own-heard}
use Rattle.peers.proofs.peer_demand.PeerDemand.heard_among_own.Goals as goal

pub heard_from-requires-clause-state_ready : goal.heard_from-requires-clause-state_ready
heard_from-requires-clause-state_ready c =
    let s = c.args in
    own-ready s.self (tables s.peers.now s.snapshot_keys.now s.contested.now) s.i s.own c.requires.own c.requires.state_ready

pub returns : goal.returns
returns c =
    let s = c.args in
    c.heard_from.ensures ∙ own-heard s.self (tables s.peers.now s.snapshot_keys.now s.contested.now) s.i s.own c.requires.own c.requires.state_ready c.requires.i_lt_peers s.key
