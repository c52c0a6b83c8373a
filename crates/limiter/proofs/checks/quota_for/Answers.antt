-- Question 4 of a burst of 1 passes.
use Rattle.std.proofs.Common.{refl, ◌∙◌, [], ◌∷◌}
use Rattle.gcra.specs.Packed.{valid_burst}
use Rattle.gcra.specs.Rate.{per_second}
use Rattle.questions.specs.Questions.{◌asks◌, passes}
use Rattle.gcra.specs.Calls.{quota_per_second}
use Rattle.limiter.proofs.Checking.KeyRecordLaws.{given-or}
use Rattle.limiter.proofs.Checking.CheckLaws.{any-burst}
use Rattle.limiter.specs.Steps.KeySteps.{units}
use Rattle.limiter.proofs.checks.quota_for.Goals as goal

pub returns : goal.returns
unfolding quota_per_second passes
returns c =
    let s = c.args in
    any-burst units s.rate s.burst _
    (c.unwrap_or-paced.ensures ∙ given-or ((4 asks valid_burst 1) ∷ []) (per_second units s.rate 1) _ c.per_second.result refl c.per_second.ensures)
