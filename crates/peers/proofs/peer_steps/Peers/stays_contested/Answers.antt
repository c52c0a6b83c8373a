-- `stays_contested` meets its contract: by the hold of the record at the place.
use Rattle.std.proofs.Common.{sym, ◌∙◌, arith}
use Rattle.records.proofs.Tables.TabledLaws.{in-order-says}
use Rattle.peers.proofs.Peers.Tables.TableLaws.{record_inside}
use Rattle.peers.proofs.Peers.Departures.StayLaws.{stays_here, stays-not, held_stays, free_stays}
use Rattle.peers.proofs.peer_steps.Peers.stays_contested.Goals as goal

pub returns-in_default : goal.returns-in_default
returns-in_default c = λ id e.
    let s = c.args in
    stays-not s.self.count s.self.words.now (in-order-says 12 1 s.self.count s.self.words.now c.args.self.order) s.reading s.max_age s.heard_at id (sym c.in_default.is ∙ e)

pub overflow_mul-at : goal.overflow_mul-at
overflow_mul-at c = omega (arith, record_inside 12 1 c.args.self.count c.args.self.words.now c.args.self.order c.in-Some.i (rw c.in-Some.is at c.requires))

pub overflow_add-at : goal.overflow_add-at
overflow_add-at c = omega (arith, record_inside 12 1 c.args.self.count c.args.self.words.now c.args.self.order c.in-Some.i (rw c.in-Some.is at c.requires))

pub offset_bounds-self-at : goal.offset_bounds-self-at
offset_bounds-self-at c = omega (arith, record_inside 12 1 c.args.self.count c.args.self.words.now c.args.self.order c.in-Some.i (rw c.in-Some.is at c.requires))

pub bounds-self-at : goal.bounds-self-at
bounds-self-at c = omega (arith, record_inside 12 1 c.args.self.count c.args.self.words.now c.args.self.order c.in-Some.i (rw c.in-Some.is at c.requires))

pub bounds-self-at-then-self-at-ne0 : goal.bounds-self-at-then-self-at-ne0
bounds-self-at-then-self-at-ne0 c = omega (arith, record_inside 12 1 c.args.self.count c.args.self.words.now c.args.self.order c.in-Some.i (rw c.in-Some.is at c.requires))

pub returns-then-self-at-ne0 : goal.returns-then-self-at-ne0
returns-then-self-at-ne0 c = λ id e.
    let s = c.args in
    held_stays s.reading _ _ _ c.if-self-at-ne0.true
    ∙ sym (stays_here s.self.count s.self.words.now (in-order-says 12 1 s.self.count s.self.words.now c.args.self.order) s.reading s.max_age s.heard_at id c.in-Some.i (rw c.in-Some.is at c.requires) (sym c.in-Some.is ∙ e))

pub returns-else-self-at-ne0 : goal.returns-else-self-at-ne0
returns-else-self-at-ne0 c = λ id e.
    let s = c.args in
    c.is_fresh.ensures
    ∙ free_stays s.reading _ _ _ c.if-self-at-ne0.false
    ∙ sym (stays_here s.self.count s.self.words.now (in-order-says 12 1 s.self.count s.self.words.now c.args.self.order) s.reading s.max_age s.heard_at id c.in-Some.i (rw c.in-Some.is at c.requires) (sym c.in-Some.is ∙ e))
