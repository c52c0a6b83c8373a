use Rattle.limiter.specs.Steps.KeySteps.{units}
use Rattle.limiter.proofs.PassOne.KeyWordLaws.{lent_is, lent_again}
use Rattle.limiter.proofs.PassOne.MeasureLaws.{busy-more, busy-all}
use Rattle.limiter.proofs.pass_one.mark_busy.Goals as goal

pub key_stays-requires : goal.key_stays-requires
key_stays-requires c = lent_again _ _ _ _ c.loop-i-test.true c.requires.0

pub loop-i-preserved : goal.loop-i-preserved
loop-i-preserved c =
    let h = c.loop-i-test.true in
    busy-more _ _ _ _ _ _ _ _ _ c.loop-i.invariant c.requires.1 h c.key_stays.result _
    (lent_is units c.args.n c.args.keys.now c.loop-i.i h) c.key_stays.ensures

pub returns : goal.returns
returns c = busy-all _ _ _ _ _ _ _ _ _ c.loop-i.invariant c.loop-i-test.false
