use Rattle.limiter.proofs.Walking.CutLaws.{cut-start}
use Rattle.limiter.proofs.ticks.cut.Goals as goal

pub loop-low-init : goal.loop-low-init
loop-low-init c = cut-start _ _
