-- `forget` meets its contract.
use Rattle.std.proofs.Common.{refl}
use Rattle.peers.proofs.Peers.CallLaws.{changes-not, asked-all, peers-changed}
use Rattle.peers.proofs.peer_demand.PeerDemand.forget.Goals as goal

pub returns-in-Err : goal.returns-in-Err
returns-in-Err c = changes-not _ _ _ _ _ _ c.in-Err.ensures c.refused.ensures

pub forget_peer-requires : goal.forget_peer-requires
forget_peer-requires c = asked-all _ _ _ c.in_default.ensures refl

pub returns : goal.returns
returns c = peers-changed _ _ _ _ _ _ _ c.in_default.ensures refl c.done.ensures c.forget_peer.ensures
