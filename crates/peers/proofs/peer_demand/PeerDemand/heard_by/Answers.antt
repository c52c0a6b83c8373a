-- `heard_by` meets its contract.
use Rattle.std.proofs.Common.{ℕ, ap, ◌∙◌, arith}
use Rattle.peers.specs.Peers.State.{tables, state_of}
use Rattle.peers.specs.Peers.Readers.{heard}
use Rattle.records.proofs.Words.RowLaws.{find-says}
use Rattle.peers.proofs.Peers.Readers.HeardLaws.{gap-of}
use Rattle.peers.proofs.Peers.Readers.ReaderLaws.{id-at, heard-missing}
use Rattle.peers.proofs.peer_demand.PeerDemand.heard_by.Goals as goal

pub heard_from-requires-clause-i_lt_peers : goal.heard_from-requires-clause-i_lt_peers
heard_from-requires-clause-i_lt_peers c =
    let s = c.args in
    (id-at s.self.peers s.peers.now c.requires.peers s.id c.in-At.i (find-says 12 1 s.self.peers s.id 0 s.peers.now (omega arith) (omega arith) (omega arith) c.requires.peers.fit c.find.result c.find.ensures ∙ c.in-At.is)).0

pub returns-in-At : goal.returns-in-At
returns-in-At c =
    let s = c.args in
    let place = id-at s.self.peers s.peers.now c.requires.peers s.id c.in-At.i (find-says 12 1 s.self.peers s.id 0 s.peers.now (omega arith) (omega arith) (omega arith) c.requires.peers.fit c.find.result c.find.ensures ∙ c.in-At.is) in
    c.heard_from.ensures ∙ ap (λ (id : ℕ). heard id s.key (state_of s.self (tables s.peers.now s.snapshot_keys.now s.contested.now))) place.1

pub returns-in_default : goal.returns-in_default
returns-in_default c =
    let s = c.args in
    let gap = gap-of 12 1 s.self.peers s.id 0 s.peers.now (omega arith) (omega arith) (omega arith) c.requires.peers.fit c.find.result c.find.ensures c.in_default.not-At in
    heard-missing s.self (tables s.peers.now s.snapshot_keys.now s.contested.now) c.requires s.key s.id gap.0 (find-says 12 1 s.self.peers s.id 0 s.peers.now (omega arith) (omega arith) (omega arith) c.requires.peers.fit c.find.result c.find.ensures ∙ gap.1)
