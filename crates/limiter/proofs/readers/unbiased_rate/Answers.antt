-- Question 2 of the estimator passes, so its rate is told.
use Rattle.std.proofs.Common.{◌∙◌, refl, true}
use Rattle.float.specs.Magnitude.{magnitude}
use Rattle.demand.specs.declared.demand.Demand.{Demand}
use Rattle.demand.specs.Estimators.Calls.{ask}
use Rattle.demand.specs.Estimators.Estimator.{unbiased}
use Rattle.questions.specs.Questions.{passes}
use Rattle.questions.proofs.Tests.{and_intro}
use Rattle.std.specs.declared.option.Option.TheVariants.{Some}
use Rattle.limiter.specs.Ticks.{unbiased_rate}
use Rattle.limiter.proofs.Checking.KeyRecordLaws.{given-or}
use Rattle.limiter.proofs.readers.unbiased_rate.Goals as goal

pub returns : goal.returns
unfolding unbiased_rate passes
returns c =
    let e = c.args.estimator in
    let d : Demand = record {
      current_rate = e.rate;
      attempts_since_tick = e.attempts;
      times = Some (record { last_tick = e.last; since = e.since });
      time_constant = c.args.time_constant;
    } in
    c.unwrap_or.ensures ∙ given-or (ask d) (unbiased d) _ c.unbiased_rate.result (and_intro (magnitude e.rate) true c.requires refl) c.unbiased_rate.ensures
