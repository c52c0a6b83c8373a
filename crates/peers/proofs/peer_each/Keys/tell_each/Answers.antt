-- `tell_each` meets its contract.
use Rattle.std.proofs.Common.{arith}
use Rattle.peers.proofs.Peers.Readers.EachLaws.{key_inside, telling-goes, telling-ends}
use Rattle.peers.proofs.peer_each.Keys.tell_each.Goals as goal

pub overflow_mul-i : goal.overflow_mul-i
overflow_mul-i g c = omega (arith, key_inside c.args.self.width c.args.self.count c.args.self.words.now c.requires.fit c.loop-i.i c.loop-i-test.true)

pub offset_bounds-self-i : goal.offset_bounds-self-i
offset_bounds-self-i g c = omega (arith, key_inside c.args.self.width c.args.self.count c.args.self.words.now c.requires.fit c.loop-i.i c.loop-i-test.true)

pub bounds-self-i : goal.bounds-self-i
bounds-self-i g c = key_inside c.args.self.width c.args.self.count c.args.self.words.now c.requires.fit c.loop-i.i c.loop-i-test.true

pub loop-i-preserved : goal.loop-i-preserved
loop-i-preserved g c = λ f s h.
    telling-goes f s c.args.self.width c.args.self.count c.args.self.words.now c.args.out.now c.requires.fit c.requires.room c.loop-i.i c.loop-i-test.true c.loop-i.out (c.loop-i.invariant f s h) c.tell.result (h _ _ c.tell.ensures)

pub returns : goal.returns
returns g c = λ f s h.
    telling-ends f s c.args.self.width c.args.self.count c.args.self.words.now c.args.out.now c.loop-i.out c.loop-i.i (c.loop-i.invariant f s h) c.loop-i-test.false
