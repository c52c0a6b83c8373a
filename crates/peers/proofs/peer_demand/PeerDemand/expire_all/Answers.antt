-- `expire_all` meets its contract: contested keys, then peers, then snapshot keys.
use Rattle.std.proofs.Common.{arith}
use Rattle.peers.specs.Peers.State.{PeerTables, tables}
use Rattle.peers.proofs.Peers.Tables.StoreLaws.{tables-of}
use Rattle.peers.proofs.Peers.Departures.ExpireLaws.{contested-order, peers-order, expired}
use Rattle.peers.proofs.peer_demand.PeerDemand.expire_all.Goals as goal

pub retain_contested-c-requires : goal.retain_contested-c-requires
retain_contested-c-requires c =
    let o = tables-of _ _ c.requires in
    (o.peers.order, omega (arith, o.contested.within, o.contested.room))

pub retain_peers-n-requires : goal.retain_peers-n-requires
retain_peers-n-requires c =
    let s = c.args in
    let t : PeerTables = tables s.peers.now s.snapshot_keys.now s.contested.now in
    let o = tables-of s.self t c.requires in (
      contested-order s.self t o s.reading s.max_age c.retain_contested-c.result c.retain_contested-c.new.contested c.retain_contested-c.ensures,
      omega (arith, o.peers.within, o.peers.room),
      o.peers.exactly,
    )

pub retain_snapshot_keys-k-requires : goal.retain_snapshot_keys-k-requires
retain_snapshot_keys-k-requires c =
    let s = c.args in
    let t : PeerTables = tables s.peers.now s.snapshot_keys.now s.contested.now in
    let o = tables-of s.self t c.requires in (
      peers-order s.self t o s.reading s.max_age c.retain_contested-c.result c.retain_contested-c.new.contested c.retain_contested-c.ensures
          c.retain_peers-n.result c.retain_peers-n.new.peers c.retain_peers-n.ensures,
      omega (arith, o.snapshot_keys.within, o.snapshot_keys.room),
    )

pub returns : goal.returns
returns c =
    let s = c.args in
    let t : PeerTables = tables s.peers.now s.snapshot_keys.now s.contested.now in
    expired s.self t (tables-of s.self t c.requires) s.reading s.max_age c.retain_contested-c.result c.retain_contested-c.new.contested c.retain_contested-c.ensures
    c.retain_peers-n.result c.retain_peers-n.new.peers c.retain_peers-n.ensures
    c.retain_snapshot_keys-k.result c.retain_snapshot_keys-k.new.snapshot_keys c.retain_snapshot_keys-k.ensures
