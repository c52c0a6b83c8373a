-- `Peers::place` meets its contract: a peer with this number at `near` is the one that the search finds.
use Rattle.std.proofs.Common.{sym, ap, ◌∙◌, arith}
use Rattle.records.proofs.Tables.TabledLaws.{in-order-says, found_here, found_inside}
use Rattle.peers.specs.Peers.Steps.Stays.{place_in, place_of}
use Rattle.peers.proofs.Peers.Tables.TableLaws.{record_inside, place_missing}
use Rattle.peers.proofs.peer_steps.Peers.place.Goals as goal

pub overflow_mul-near : goal.overflow_mul-near
overflow_mul-near c = omega (arith, record_inside 12 1 c.args.self.count c.args.self.words.now c.args.self.order c.args.near c.if-near-self.true)

pub offset_bounds-self-near : goal.offset_bounds-self-near
offset_bounds-self-near c = omega (arith, record_inside 12 1 c.args.self.count c.args.self.words.now c.args.self.order c.args.near c.if-near-self.true)

pub bounds-self-near : goal.bounds-self-near
bounds-self-near c = omega (arith, record_inside 12 1 c.args.self.count c.args.self.words.now c.args.self.order c.args.near c.if-near-self.true)

pub returns-then-self-near-clause-place : goal.returns-then-self-near-clause-place
unfolding place_of
returns-then-self-near-clause-place c =
    let s = c.args in
    ap place_in (found_here 12 s.self.count s.id s.self.words.now (in-order-says 12 1 s.self.count s.self.words.now c.args.self.order) s.near c.if-near-self.true c.if-self-near.true)

pub returns-in-At-clause-place : goal.returns-in-At-clause-place
unfolding place_of
returns-in-At-clause-place c = ap place_in (sym c.in-At.is ∙ c.find.ensures)

pub returns-in-At-clause-within : goal.returns-in-At-clause-within
returns-in-At-clause-within c =
    let s = c.args in
    (found_inside 12 s.self.count s.id s.self.words.now (in-order-says 12 1 s.self.count s.self.words.now c.args.self.order) c.in-At.i (sym c.in-At.is ∙ c.find.ensures)).0

pub returns-in_default-clause-place : goal.returns-in_default-clause-place
unfolding place_of
returns-in_default-clause-place c = place_missing c.find.result c.in_default.not-At ∙ ap place_in c.find.ensures
