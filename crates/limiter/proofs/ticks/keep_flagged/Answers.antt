use Rattle.std.proofs.Common.{◌∙◌, arith}
use Rattle.limiter.proofs.Walking.FlagLaws.{flag-none, flag-all, flag-inside, flag-skip, flag-copy}
use Rattle.limiter.proofs.ticks.keep_flagged.Goals as goal
use Rattle.limiter.proofs.ticks.keep_flagged.Goals.{then-stays-i, else-stays-i}

pub loop-i-init : goal.loop-i-init
loop-i-init c = flag-none _ _ _ _ (omega arith) c.requires.1 c.requires.2

pub overflow_mul-kept : goal.overflow_mul-kept
overflow_mul-kept c = omega (arith, flag-inside _ _ _ _ _ _ _ c.loop-i.invariant c.loop-i-test.true)

pub overflow_add-kept : goal.overflow_add-kept
overflow_add-kept c = omega (arith, flag-inside _ _ _ _ _ _ _ c.loop-i.invariant c.loop-i-test.true)

pub loop-i-preserved : goal.loop-i-preserved
loop-i-preserved c =
    elim c.if-stays-i.branch [
      | then-stays-i w ↦ flag-copy _ _ _ _ _ _ _ c.loop-i.invariant c.loop-i-test.true w.if-stays-i.true (w.t-is ∙ w.copy_words.ensures.t_after) w.kept-is
      | else-stays-i w ↦ flag-skip _ _ _ _ _ _ _ c.loop-i.invariant c.loop-i-test.true w.if-stays-i.false w.t-is w.kept-is
    ]

pub returns : goal.returns
returns c = flag-all _ _ _ _ _ _ _ c.loop-i.invariant c.loop-i-test.false
