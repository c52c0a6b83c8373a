use Rattle.limiter.proofs.PassOne.MeasureLaws.{measure-more, measure-all}
use Rattle.limiter.proofs.pass_one.measure_keys.Goals as goal

pub loop-i-preserved : goal.loop-i-preserved
loop-i-preserved c =
    measure-more _ _ _ _ _ _ _ _ _ _ _ _ _ _ c.loop-i.invariant c.loop-i-test.true c.from_bits-rate.result c.from_bits.result
    c.from_bits-rate.ensures c.from_bits.ensures c.is_elsewhere.result c.is_elsewhere.ensures

pub returns : goal.returns
returns c = measure-all _ _ _ _ _ _ _ _ _ _ _ _ _ _ c.loop-i.invariant c.loop-i-test.false
