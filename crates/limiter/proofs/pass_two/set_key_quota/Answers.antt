-- `set_key_quota` meets its contract.
use mathlib.Core.Path.{ap, ◌∙◌}
use lib.Ieee.{Float}
use Rattle.limiter.specs.Steps.PassTwoSteps.{quota_row}
use Rattle.limiter.specs.Steps.KeySteps.{units}
use Rattle.limiter.proofs.pass_two.set_key_quota.Goals as goal

pub returns : goal.returns
returns c =
    c.set_quota.ensures ∙ ap (λ (x : Float). quota_row units c.args.reading x c.args.r.now) c.key_rate-rate.ensures
