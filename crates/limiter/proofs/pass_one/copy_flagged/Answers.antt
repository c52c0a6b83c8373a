use Rattle.std.proofs.Common.{arith}
use Rattle.limiter.proofs.PassOne.CopyLaws.{copy-none, copy-behind, copy-skip, copy-next}
use Rattle.limiter.proofs.pass_one.copy_flagged.Goals as goal
use Rattle.limiter.proofs.pass_one.copy_flagged.Goals.{then-stays-i, else-stays-i}

pub loop-i-init : goal.loop-i-init
loop-i-init c = copy-none _ _ _ _ c.requires.0 c.requires.1 c.requires.2

pub bounds-to-kept : goal.bounds-to-kept
bounds-to-kept c = omega (arith, copy-behind _ _ _ _ _ _ _ c.loop-i.invariant)

pub loop-i-preserved : goal.loop-i-preserved
loop-i-preserved c =
    let k = c.loop-i.invariant in
    elim c.if-stays-i.branch [
      | then-stays-i w ↦ copy-next _ _ _ _ _ _ _ k c.loop-i-test.true w.if-stays-i.true w.to-is w.kept-is
      | else-stays-i w ↦ copy-skip _ _ _ _ _ _ _ k c.loop-i-test.true w.if-stays-i.false w.to-is w.kept-is
    ]
