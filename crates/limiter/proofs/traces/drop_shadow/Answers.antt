-- The shadow at its place goes; a table that passed question 2 is never unfit.
use Rattle.std.proofs.Common.{sym, ◌∙◌, arith}
use Rattle.limiter.proofs.Checking.ShadowTableLaws.{found-shadow, shadow-out, shadow-missed}
use Rattle.limiter.specs.Steps.KeySteps.{units}
use Rattle.gcra.proofs.Packed.Encoding.{units-accepted}
use Rattle.limiter.proofs.traces.drop_shadow.Goals as goal

pub overflow_sub-result : goal.overflow_sub-result
overflow_sub-result c =
    omega (arith, (found-shadow units units-accepted c.args.n c.args.shadows.now c.requires c.args.key c.in-At.place (sym c.in-At.is ∙ c.find.ensures)).0)

pub returns-in-At : goal.returns-in-At
returns-in-At c =
    shadow-out units units-accepted c.args.n c.args.shadows.now c.requires c.args.key c.in-At.place (sym c.in-At.is ∙ c.find.ensures) _
    c.remove.ensures.t_after

pub returns-in_default : goal.returns-in_default
returns-in_default c = shadow-missed units units-accepted c.args.n c.args.shadows.now c.requires c.args.key _ c.find.ensures c.in_default.not-At
