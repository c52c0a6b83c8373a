-- `leave` meets its contract: with no time to hold a peer it is `forget`.
use Rattle.std.proofs.Common.{refl, sym}
use Rattle.peers.proofs.Peers.CallLaws.{changes-not, changes-as, asked-all, peers-changed}
use Rattle.peers.proofs.Peers.Tables.StoreLaws.{tables-of, leaves-now, leave-stores}
use Rattle.peers.proofs.peer_demand.PeerDemand.leave.Goals as goal

pub returns-then-hold-eq0 : goal.returns-then-hold-eq0
returns-then-hold-eq0 c = changes-as _ _ _ _ _ _ _ (sym (leaves-now _ _ _ _ c.if-hold-eq0.true)) c.forget.ensures

pub returns-in-Err : goal.returns-in-Err
returns-in-Err c = changes-not _ _ _ _ _ _ c.in-Err.ensures c.refused.ensures

pub hold_peer-requires : goal.hold_peer-requires
hold_peer-requires c =
    let o = tables-of _ _ (asked-all _ _ _ c.in_default.ensures refl) in
    (o.peers.order, o.peers.exactly)

pub returns : goal.returns
returns c =
    let o = tables-of _ _ (asked-all _ _ _ c.in_default.ensures refl) in
    peers-changed _ _ _ _ _ _ _ c.in_default.ensures refl c.done.ensures
    (leave-stores _ _ _ _ _ _ _ o c.if-hold-eq0.false c.saturating_add.ensures c.hold_peer.ensures)
