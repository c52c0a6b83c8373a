-- `has_snapshot` meets its contract: the flag of the record at the place.
use Rattle.std.proofs.Common.{sym, ◌∙◌, arith}
use Rattle.records.proofs.Tables.TabledLaws.{in-order-says}
use Rattle.peers.proofs.Peers.Tables.TableLaws.{record_inside}
use Rattle.peers.proofs.Peers.Departures.StayLaws.{taken_here, taken-not}
use Rattle.peers.proofs.peer_steps.Peers.has_snapshot.Goals as goal

pub returns-in_default : goal.returns-in_default
returns-in_default c = λ id e. taken-not c.args.self.count c.args.self.words.now (in-order-says 12 1 c.args.self.count c.args.self.words.now c.args.self.order) id (sym c.in_default.is ∙ e)

pub overflow_mul-result : goal.overflow_mul-result
overflow_mul-result c = omega (arith, record_inside 12 1 c.args.self.count c.args.self.words.now c.args.self.order c.in-Some.i (rw c.in-Some.is at c.requires))

pub overflow_add-result : goal.overflow_add-result
overflow_add-result c = omega (arith, record_inside 12 1 c.args.self.count c.args.self.words.now c.args.self.order c.in-Some.i (rw c.in-Some.is at c.requires))

pub offset_bounds-self-i : goal.offset_bounds-self-i
offset_bounds-self-i c = omega (arith, record_inside 12 1 c.args.self.count c.args.self.words.now c.args.self.order c.in-Some.i (rw c.in-Some.is at c.requires))

pub bounds-self-i : goal.bounds-self-i
bounds-self-i c = omega (arith, record_inside 12 1 c.args.self.count c.args.self.words.now c.args.self.order c.in-Some.i (rw c.in-Some.is at c.requires))

pub returns : goal.returns
returns c = λ id e.
    sym (taken_here c.args.self.count c.args.self.words.now (in-order-says 12 1 c.args.self.count c.args.self.words.now c.args.self.order) id c.in-Some.i (rw c.in-Some.is at c.requires) (sym c.in-Some.is ∙ e))
