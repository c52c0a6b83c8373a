use Rattle.std.proofs.Common.{◌∙◌, ap}
use Rattle.std.specs.declared.option.Option.TheVariants.{Some}
use Rattle.float.specs.Magnitude.{magnitude}
use Rattle.float.specs.Order.{place}
use Rattle.limiter.specs.State.{float_word}
use Rattle.limiter.proofs.Walking.CapLaws.{rate-given, rate-never, rate-of}
use Rattle.limiter.proofs.ticks.rate_place.Goals as goal

pub returns-in-Ok : goal.returns-in-Ok
returns-in-Ok c =
    let a = c.args in
    c.total_place.ensures
    ∙ ap place (c.to_bits.ensures ∙ ap float_word (rate-given _ _ c.in-Ok.unbiased c.unbiased_rate.ensures c.in-Ok.is ∙ rate-of a.time_constant a.rate a.last_tick a.since _ c.from_bits.ensures))

pub returns-in-Err : goal.returns-in-Err
returns-in-Err c =
    let a = c.args in
    absurd (rate-never (record { current_rate = c.from_bits.result; attempts_since_tick = 0; times = Some (record { last_tick = a.last_tick; since = a.since }); time_constant = a.time_constant }) _ _ c.unbiased_rate.ensures c.in-Err.is (ap magnitude c.from_bits.ensures ∙ c.requires))
