use Rattle.limiter.proofs.Validity.MergeLaws.{merge-ends, merge-out, merge-other, merge-next}
use Rattle.limiter.proofs.scan.are_among.Goals as goal
use Rattle.limiter.proofs.scan.are_among.Goals.{then-m-j-via-then-m-j, then-m-j-via-else-m-j+then-keys-j}

pub returns-then-m-j : goal.returns-then-m-j
returns-then-m-j c =
    let a = c.args in
    elim c.then-m-j.branch [
      | then-m-j-via-then-m-j w ↦
          merge-out a.w a.n a.m a.t.now a.keys.now c.loop-i.i c.loop-i.next c.requires.0 c.loop-i.invariant c.loop-i-test.true c.seek-j.result c.seek-j.ensures w.if-m-j.true
      | then-m-j-via-else-m-j+then-keys-j w ↦
          merge-other a.w a.n a.m a.t.now a.keys.now c.loop-i.i c.loop-i.next c.requires.0 c.loop-i.invariant c.loop-i-test.true c.seek-j.result c.seek-j.ensures w.if-m-j.false w.if-keys-j.true
    ]

pub loop-i-preserved : goal.loop-i-preserved
loop-i-preserved c =
    let a = c.args in
    merge-next a.w a.n a.m a.t.now a.keys.now c.loop-i.i c.loop-i.next c.requires.0 c.loop-i.invariant c.loop-i-test.true c.seek-j.result c.seek-j.ensures c.if-m-j.false c.if-keys-j.false

pub returns : goal.returns
returns c =
    let a = c.args in
    merge-ends a.w a.n a.m a.t.now a.keys.now c.loop-i.i c.loop-i.next c.requires.0 c.loop-i.invariant c.loop-i-test.false
