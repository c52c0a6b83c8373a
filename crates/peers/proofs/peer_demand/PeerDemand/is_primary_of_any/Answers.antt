-- `is_primary_of_any` meets its contract.
use Rattle.std.proofs.Common.{sym, ap, ◌∙◌}
use Rattle.peers.specs.Peers.State.{tables}
use Rattle.peers.specs.Peers.Readers.{is_primary}
use Rattle.peers.proofs.Peers.Readers.ReaderLaws.{hot-starts, hot-here, hot-goes, hot-ends}
use Rattle.peers.proofs.Peers.Validity.StartLaws.{own-told}
use Rattle.peers.proofs.peer_demand.PeerDemand.is_primary_of_any.Goals as goal

pub loop-i-init : goal.loop-i-init
loop-i-init c = hot-starts c.args.self (tables c.args.peers.now c.args.snapshot_keys.now c.args.contested.now) c.args.key

pub heard_among_own-said-requires-clause-own : goal.heard_among_own-said-requires-clause-own
heard_among_own-said-requires-clause-own c =
    let s = c.args in
    own-told s.self (tables s.peers.now s.snapshot_keys.now s.contested.now) s.starts.now c.requires c.loop-i.i c.loop-i-test.true c.own_keys-own.result c.own_keys-own.ensures

pub returns-then-is_primary : goal.returns-then-is_primary
returns-then-is_primary c =
    let s = c.args in
    let l = c.loop-i in
    hot-here s.self (tables s.peers.now s.snapshot_keys.now s.contested.now) s.key c.requires.ready l.i c.loop-i-test.true (ap is_primary (sym c.heard_among_own-said.ensures) ∙ sym c.is_primary.ensures ∙ c.if-is_primary.true) l.invariant

pub loop-i-preserved : goal.loop-i-preserved
loop-i-preserved c =
    let s = c.args in
    let l = c.loop-i in
    hot-goes s.self (tables s.peers.now s.snapshot_keys.now s.contested.now) s.key c.requires.ready l.i c.loop-i-test.true (ap is_primary (sym c.heard_among_own-said.ensures) ∙ sym c.is_primary.ensures ∙ c.if-is_primary.false) l.invariant

pub returns : goal.returns
returns c =
    let s = c.args in
    let l = c.loop-i in
    hot-ends s.self (tables s.peers.now s.snapshot_keys.now s.contested.now) s.key l.i c.loop-i-test.false l.invariant
