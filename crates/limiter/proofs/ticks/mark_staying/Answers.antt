use Rattle.limiter.proofs.Walking.CutLaws.{mark-more, mark-all}
use Rattle.limiter.proofs.ticks.mark_staying.Goals as goal

pub loop-i-preserved : goal.loop-i-preserved
loop-i-preserved c =
    let k = c.loop-i.invariant in
    (k.0, mark-more _ _ k.0 _ _ _ _ _ _ _ c.goes.result k.1 c.loop-i-test.true c.goes.ensures c.room_after-left.ensures)

pub returns : goal.returns
returns c = let k = c.loop-i.invariant in mark-all _ _ k.0 _ _ _ _ _ _ k.1 c.loop-i-test.false
