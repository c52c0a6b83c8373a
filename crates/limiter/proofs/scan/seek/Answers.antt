use Rattle.std.proofs.Common.{◌≡◌, ◌∙◌, arith}
use Rattle.limiter.proofs.Validity.MergeLaws.{seek-stops, seek-next, seek-ends}
use Rattle.limiter.proofs.scan.seek.Goals as goal

pub returns-then-id-keys : goal.returns-then-id-keys
returns-then-id-keys c =
    let a = c.args in
    seek-stops a.m a.id a.from a.keys.now c.loop-j.j c.loop-j.invariant.sought c.loop-j-test.true c.if-id-keys.true

pub loop-j-preserved : goal.loop-j-preserved
loop-j-preserved c =
    let a = c.args in
    record {
      sought = seek-next a.m a.id a.from a.keys.now c.loop-j.j c.loop-j.invariant.sought c.loop-j-test.true c.if-id-keys.false;
      within = omega arith;
    }

pub returns : goal.returns
returns c =
    let a = c.args in
    let at : c.max.result ≡ c.loop-j.j = omega arith in
    at ∙ seek-ends a.m a.id a.from a.keys.now c.loop-j.j c.loop-j.invariant.sought c.loop-j-test.false
