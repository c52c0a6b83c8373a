-- `forget_peer` meets its contract: its records are taken out of each table.
use Rattle.std.proofs.Common.{arith}
use Rattle.peers.specs.Peers.State.{PeerTables, tables}
use Rattle.records.proofs.Tables.TabledLaws.{in-order-says, in-order-run, run_out}
use Rattle.peers.proofs.Peers.Tables.StoreLaws.{tables-of, forgotten}
use Rattle.peers.proofs.peer_demand.PeerDemand.forget_peer.Goals as goal

pub replace_run-n-requires : goal.replace_run-n-requires
replace_run-n-requires c = in-order-run 12 1 _ c.args.id _ (omega arith) (in-order-says 12 1 _ _ (tables-of _ _ c.requires).peers.order)

pub replace_run-k-requires : goal.replace_run-k-requires
replace_run-k-requires c = in-order-run 4 2 _ c.args.id _ (omega arith) (in-order-says 4 2 _ _ (tables-of _ _ c.requires).snapshot_keys.order)

pub replace_run-c-requires : goal.replace_run-c-requires
replace_run-c-requires c = in-order-run 6 2 _ c.args.id _ (omega arith) (in-order-says 6 2 _ _ (tables-of _ _ c.requires).contested.order)

pub returns : goal.returns
returns c =
    let s = c.args in
    let t : PeerTables = tables s.peers.now s.snapshot_keys.now s.contested.now in
    let o = tables-of s.self t c.requires in
    forgotten s.self t s.id
    c.replace_run-n.result c.replace_run-k.result c.replace_run-c.result c.replace_run-n.new.t c.replace_run-k.new.t c.replace_run-c.new.t
    o
    (run_out 12 1 _ s.id _ (omega arith) (in-order-says 12 1 _ _ o.peers.order) _ _ c.replace_run-n.ensures)
    (run_out 4 2 _ s.id _ (omega arith) (in-order-says 4 2 _ _ o.snapshot_keys.order) _ _ c.replace_run-k.ensures)
    (run_out 6 2 _ s.id _ (omega arith) (in-order-says 6 2 _ _ o.contested.order) _ _ c.replace_run-c.ensures)
