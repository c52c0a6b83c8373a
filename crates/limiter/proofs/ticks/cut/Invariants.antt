-- The limit is from `low` on and below `high`.
use Rattle.std.proofs.Common.{◌-◌, take}
use Rattle.limiter.proofs.Walking.CutLaws.{Cutting}
use Rattle.limiter.proofs.ticks.cut.Given as goal

abbrev pub invariant-loop-low : goal.invariant-loop-low
invariant-loop-low l = Cutting l.most (take l.n l.ranks) l.low l.high

abbrev pub decreases-loop-low : goal.decreases-loop-low
decreases-loop-low l = l.high - l.low
