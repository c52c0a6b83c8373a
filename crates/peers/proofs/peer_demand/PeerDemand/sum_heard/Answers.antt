-- `sum_heard` meets its contract.
use Rattle.std.proofs.Common.{◌+◌, map, drop, sym, ap, ◌∙◌}
use lib.Ieee.{Float}
use Rattle.records.specs.Records.{records}
use Rattle.peers.specs.Peers.Records.{peer_of}
use Rattle.peers.specs.Peers.State.{PeerTables, tables, state_of}
use Rattle.peers.specs.Peers.Readers.{add_heard, total_from}
use Rattle.peers.proofs.Peers.Readers.ReaderLaws.{total-starts, total-goes, total-ends}
use Rattle.peers.proofs.Peers.Validity.StartLaws.{own-told}
use Rattle.peers.proofs.peer_demand.PeerDemand.sum_heard.Goals as goal

pub loop-i-init : goal.loop-i-init
loop-i-init c = total-starts c.args.self (tables c.args.peers.now c.args.snapshot_keys.now c.args.contested.now) c.args.key

pub heard_among_own-said-requires-clause-own : goal.heard_among_own-said-requires-clause-own
heard_among_own-said-requires-clause-own c =
    let s = c.args in
    own-told s.self (tables s.peers.now s.snapshot_keys.now s.contested.now) s.starts.now c.requires c.loop-i.i c.loop-i-test.true c.own_keys-own.result c.own_keys-own.ensures

pub loop-i-preserved : goal.loop-i-preserved
loop-i-preserved c =
    let s = c.args in
    let l = c.loop-i in
    let t : PeerTables = tables s.peers.now s.snapshot_keys.now s.contested.now in
    ap (λ (x : Float). total_from x s.key (state_of s.self t) (map peer_of (drop (l.i + 1) (records 12 s.self.peers s.peers.now)))) (c.add_heard-sum.ensures ∙ ap (add_heard l.sum) c.heard_among_own-said.ensures)
    ∙ sym (total-goes s.self t s.key c.requires.ready l.sum l.i c.loop-i-test.true) ∙ l.invariant

pub returns : goal.returns
returns c =
    let s = c.args in
    let l = c.loop-i in
    sym (total-ends s.self (tables s.peers.now s.snapshot_keys.now s.contested.now) s.key l.sum l.i c.loop-i-test.false) ∙ l.invariant
