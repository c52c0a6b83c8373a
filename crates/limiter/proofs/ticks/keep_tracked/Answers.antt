-- `keep_tracked` meets its contract.
use Rattle.limiter.specs.State.{is_tracked}
use Rattle.limiter.specs.Steps.TickSteps.{key_records, shadow_key}
use Rattle.limiter.specs.Steps.KeySteps.{units}
use Rattle.limiter.proofs.Walking.FlagLaws.{kept_by}
use Rattle.limiter.proofs.ticks.keep_tracked.Goals as goal

pub returns : goal.returns
returns c =
    let s = c.args in
    kept_by 4 s.m (λ x. is_tracked (key_records units s.n s.keys.now) (shadow_key units x)) _ _ _ _ c.mark_tracked.ensures c.keep_flagged.ensures
