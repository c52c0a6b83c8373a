-- `expire` meets its contract.
use Rattle.std.proofs.Common.{refl}
use Rattle.peers.proofs.Peers.CallLaws.{changes-not, asked-all, peers-changed}
use Rattle.peers.proofs.peer_demand.PeerDemand.expire.Goals as goal

pub returns-in-Err : goal.returns-in-Err
returns-in-Err c = changes-not _ _ _ _ _ _ c.in-Err.ensures c.refused.ensures

pub expire_all-requires : goal.expire_all-requires
expire_all-requires c = asked-all _ _ _ c.in_default.ensures refl

pub returns : goal.returns
returns c = peers-changed _ _ _ _ _ _ _ c.in_default.ensures refl c.done.ensures c.expire_all.ensures
