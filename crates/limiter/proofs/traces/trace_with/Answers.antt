-- The key's meter and the shadow's, and then both records.
use mathlib.Core.Path.{refl, ap, ◌∙◌}
use lib.Ieee.{binary64, mul, div}
use Rattle.gcra.specs.declared.Gcra.{Gcra}
use Rattle.gcra.specs.Packed.{valid_quota}
use Rattle.gcra.specs.Rate.{rate_per_sec}
use Rattle.gcra.proofs.Rate.Rates.{per-second-valid}
use Rattle.limiter.specs.Checks.{shadow_quota}
use Rattle.limiter.specs.State.{units_in, settings_of, units_for}
use Rattle.limiter.proofs.Checking.CheckLaws.{entry-quota, entry-placed, check-quota}
use Rattle.limiter.proofs.Checking.TraceLaws.{with-no, with-room, with-yes}
use Rattle.limiter.proofs.States.StateValidLaws.{units-of-accepted}
use Rattle.limiter.proofs.traces.trace_with.Goals as goal

pub ask_meter-asked-requires : goal.ask_meter-asked-requires
unfolding units_for
ask_meter-asked-requires c = let s = c.args in entry-quota s.limiter s.keys.now c.requires.ready s.key s.limit s.reading s.cluster_size c.requires.burst_value.0 _ c.entry-found.ensures

pub shadow_quota-wanted-requires : goal.shadow_quota-wanted-requires
unfolding units_for
shadow_quota-wanted-requires c = let s = c.args in entry-quota s.limiter s.keys.now c.requires.ready s.key s.limit s.reading s.cluster_size c.requires.burst_value.0 _ c.entry-found.ensures

pub try_shadow-tried-requires-clause-shadows_ready : goal.try_shadow-tried-requires-clause-shadows_ready
unfolding units_for
try_shadow-tried-requires-clause-shadows_ready c = c.requires.shadows_ready

pub try_shadow-tried-requires-clause-wanted_value : goal.try_shadow-tried-requires-clause-wanted_value
unfolding shadow_quota units_for
try_shadow-tried-requires-clause-wanted_value c =
    let s = c.args in
    ap (valid_quota (units_in s.limiter)) c.shadow_quota-wanted.ensures
    ∙ per-second-valid (units_in s.limiter) (units-of-accepted (settings_of s.limiter))
    (div binary64 (mul binary64 (rate_per_sec c.entry-found.result.state.gcra.quota) s.shadow.rate) s.limit.rate)
    s.shadow.burst c.requires.burst_value.1

pub raise-raised-requires-clause-placed : goal.raise-raised-requires-clause-placed
raise-raised-requires-clause-placed c = let s = c.args in entry-placed s.limiter s.keys.now c.requires.ready s.key s.limit s.reading s.cluster_size c.requires.burst_value.0 _ c.entry-found.ensures

pub raise-raised-requires-clause-quota_value : goal.raise-raised-requires-clause-quota_value
raise-raised-requires-clause-quota_value c =
    let s = c.args in
    ap (λ (g : Gcra). valid_quota (units_in s.limiter) g.quota) c.ask_meter-asked.ensures.1
    ∙ ap (valid_quota (units_in s.limiter)) (check-quota c.entry-found.result.state.gcra s.reading)
    ∙ entry-quota s.limiter s.keys.now c.requires.ready s.key s.limit s.reading s.cluster_size c.requires.burst_value.0 _ c.entry-found.ensures

pub returns-in-Err : goal.returns-in-Err
unfolding units_for
returns-in-Err c =
    let s = c.args in
    rw c.refused.ensures
    (with-no s.limiter s.keys.now s.shadows.now s.key s.limit s.shadow s.reading s.cluster_size c.entry-found.result c.entry-found.ensures
    c.ask_meter-asked.result.decision c.ask_meter-asked.result.gcra c.shadow_quota-wanted.result c.try_shadow-tried.result c.denied-denials.result
    c.denied-tried_denials.result c.raise-raised.result c.raise-raised.new.keys
    c.ask_meter-asked.ensures.0 c.ask_meter-asked.ensures.1 c.shadow_quota-wanted.ensures c.try_shadow-tried.ensures c.denied-denials.ensures
    c.denied-tried_denials.ensures c.raise-raised.ensures _ c.in-Err.is)

pub put_shadow-count-requires-clause-shadows_ready : goal.put_shadow-count-requires-clause-shadows_ready
unfolding units_for
put_shadow-count-requires-clause-shadows_ready c = c.requires.shadows_ready

pub put_shadow-count-requires-clause-gcra_in_bounds : goal.put_shadow-count-requires-clause-gcra_in_bounds
unfolding units_for
put_shadow-count-requires-clause-gcra_in_bounds c =
    let s = c.args in
    with-room s.limiter s.keys.now s.shadows.now s.key s.limit s.shadow s.reading s.cluster_size c.entry-found.result c.entry-found.ensures
    c.ask_meter-asked.result.decision c.ask_meter-asked.result.gcra c.shadow_quota-wanted.result c.try_shadow-tried.result c.denied-denials.result
    c.denied-tried_denials.result c.raise-raised.result c.raise-raised.new.keys
    c.ask_meter-asked.ensures.0 c.ask_meter-asked.ensures.1 c.shadow_quota-wanted.ensures c.try_shadow-tried.ensures c.denied-denials.ensures
    c.denied-tried_denials.ensures c.raise-raised.ensures c.requires.roomy c.in_default.is

pub returns : goal.returns
unfolding units_for
returns c =
    let s = c.args in
    with-yes s.limiter s.keys.now s.shadows.now s.key s.limit s.shadow s.reading s.cluster_size c.entry-found.result c.entry-found.ensures
    c.ask_meter-asked.result.decision c.ask_meter-asked.result.gcra c.shadow_quota-wanted.result c.try_shadow-tried.result c.denied-denials.result
    c.denied-tried_denials.result c.raise-raised.result c.raise-raised.new.keys
    c.ask_meter-asked.ensures.0 c.ask_meter-asked.ensures.1 c.shadow_quota-wanted.ensures c.try_shadow-tried.ensures c.denied-denials.ensures
    c.denied-tried_denials.ensures c.raise-raised.ensures c.in_default.is _ _ _ c.put_shadow-count.ensures refl
