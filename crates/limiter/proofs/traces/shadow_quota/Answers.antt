-- Question 2 of the quota passes, so its rate is told.
use Rattle.std.proofs.Common.{refl, ap, ◌∙◌, true}
use lib.Ieee.{Float, binary64, mul, div}
use Rattle.gcra.specs.Packed.{valid_quota}
use Rattle.questions.specs.Questions.{passes}
use Rattle.gcra.specs.Rate.{per_second, rate_per_sec}
use Rattle.gcra.specs.Calls.{ask_quota, quota_rate}
use Rattle.questions.proofs.Tests.{and_intro}
use Rattle.limiter.specs.Checks.{shadow_quota}
use Rattle.limiter.specs.Steps.KeySteps.{units}
use Rattle.limiter.proofs.Checking.KeyRecordLaws.{given-or}
use Rattle.limiter.proofs.traces.shadow_quota.Goals as goal

pub returns : goal.returns
unfolding shadow_quota quota_rate passes
returns c =
    let q = c.args.quota in
    c.quota_for.ensures
    ∙ ap (λ (x : Float). per_second units (div binary64 (mul binary64 x c.args.shadow.rate) c.args.limit.rate) c.args.shadow.burst)
    (c.unwrap_or-rate.ensures ∙ given-or (ask_quota q) (rate_per_sec q) _ c.rate_per_sec.result (and_intro (valid_quota units q) true c.requires refl) c.rate_per_sec.ensures)
