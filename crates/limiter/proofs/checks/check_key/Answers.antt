-- The key's entry, its meter, and its record after the call.
use mathlib.Core.Path.{refl, ap, ◌∙◌}
use Rattle.gcra.specs.declared.Gcra.{Gcra}
use Rattle.gcra.specs.Packed.{valid_quota}
use Rattle.limiter.specs.State.{units_in, units_for}
use Rattle.limiter.proofs.Checking.CheckLaws.{entry-quota, entry-placed, check-quota, check-acts, mapped-answered}
use Rattle.limiter.proofs.checks.check_key.Goals as goal

pub ask_meter-asked-requires : goal.ask_meter-asked-requires
unfolding units_for
ask_meter-asked-requires c = let s = c.args in entry-quota s.limiter s.keys.now c.requires.ready s.key s.limit s.reading s.cluster_size c.requires.burst_value _ c.entry-found.ensures

pub raise-raised-requires-clause-placed : goal.raise-raised-requires-clause-placed
raise-raised-requires-clause-placed c = let s = c.args in entry-placed s.limiter s.keys.now c.requires.ready s.key s.limit s.reading s.cluster_size c.requires.burst_value _ c.entry-found.ensures

pub raise-raised-requires-clause-quota_value : goal.raise-raised-requires-clause-quota_value
raise-raised-requires-clause-quota_value c =
    let s = c.args in
    ap (λ (g : Gcra). valid_quota (units_in s.limiter) g.quota) c.ask_meter-asked.ensures.1
    ∙ ap (valid_quota (units_in s.limiter)) (check-quota c.entry-found.result.state.gcra s.reading)
    ∙ entry-quota s.limiter s.keys.now c.requires.ready s.key s.limit s.reading s.cluster_size c.requires.burst_value _ c.entry-found.ensures

pub returns : goal.returns
returns c =
    let s = c.args in
    check-acts s.limiter s.keys.now c.requires.ready s.key s.limit s.reading s.cluster_size c.requires.burst_value _ c.entry-found.ensures
    _ _ _ _ _ _ _ c.ask_meter-asked.ensures.0 c.ask_meter-asked.ensures.1 c.denied-denials.ensures
    (mapped-answered c.raise-raised.result.answer _ _ c.and.ensures) refl c.raise-raised.ensures
