-- `hold_peer` meets its contract: two words of the record that is found.
use Rattle.std.proofs.Common.{sym, ◌∙◌, length-set, arith}
use Rattle.records.proofs.Tables.TabledLaws.{in-order-says, found_inside}
use Rattle.peers.proofs.Peers.Readers.HeardLaws.{gap-of}
use Rattle.peers.proofs.Peers.Tables.HoldLaws.{held_at, held-gap}
use Rattle.peers.proofs.peer_steps.hold_peer.Goals as goal

pub overflow_mul-at : goal.overflow_mul-at
overflow_mul-at c = omega (arith, found_inside 12 c.args.n c.args.id c.args.peers.now (in-order-says 12 1 c.args.n c.args.peers.now c.requires.0) c.in-At.i (sym c.in-At.is ∙ c.find.ensures))

pub overflow_add-peers : goal.overflow_add-peers
overflow_add-peers c = omega (arith, found_inside 12 c.args.n c.args.id c.args.peers.now (in-order-says 12 1 c.args.n c.args.peers.now c.requires.0) c.in-At.i (sym c.in-At.is ∙ c.find.ensures))

pub offset_bounds-peers-at : goal.offset_bounds-peers-at
offset_bounds-peers-at c = omega (arith, found_inside 12 c.args.n c.args.id c.args.peers.now (in-order-says 12 1 c.args.n c.args.peers.now c.requires.0) c.in-At.i (sym c.in-At.is ∙ c.find.ensures))

pub bounds-peers-at : goal.bounds-peers-at
bounds-peers-at c = omega (arith, found_inside 12 c.args.n c.args.id c.args.peers.now (in-order-says 12 1 c.args.n c.args.peers.now c.requires.0) c.in-At.i (sym c.in-At.is ∙ c.find.ensures))

pub overflow_add-peers-in-At : goal.overflow_add-peers-in-At
overflow_add-peers-in-At c = omega (arith, found_inside 12 c.args.n c.args.id c.args.peers.now (in-order-says 12 1 c.args.n c.args.peers.now c.requires.0) c.in-At.i (sym c.in-At.is ∙ c.find.ensures))

pub offset_bounds-peers-at-in-At : goal.offset_bounds-peers-at-in-At
offset_bounds-peers-at-in-At c = omega (arith, found_inside 12 c.args.n c.args.id c.args.peers.now (in-order-says 12 1 c.args.n c.args.peers.now c.requires.0) c.in-At.i (sym c.in-At.is ∙ c.find.ensures))

pub bounds-peers-at-in-At : goal.bounds-peers-at-in-At
bounds-peers-at-in-At c = simp length-set (omega (arith, found_inside 12 c.args.n c.args.id c.args.peers.now (in-order-says 12 1 c.args.n c.args.peers.now c.requires.0) c.in-At.i (sym c.in-At.is ∙ c.find.ensures)))

pub returns-in-At : goal.returns-in-At
returns-in-At c = held_at c.args.n c.args.id c.args.until c.args.peers.now (in-order-says 12 1 c.args.n c.args.peers.now c.requires.0) c.requires.1 c.in-At.i (sym c.in-At.is ∙ c.find.ensures)

pub returns-in_default : goal.returns-in_default
returns-in_default c =
    let s = c.args in
    let o = in-order-says 12 1 s.n s.peers.now c.requires.0 in
    let gap = gap-of 12 1 s.n s.id 0 s.peers.now (omega arith) (omega arith) (omega arith) o.words c.find.result c.find.ensures c.in_default.not-At in
    held-gap s.n s.id s.until s.peers.now o c.requires.1 gap.0 (sym gap.1 ∙ c.find.ensures)
