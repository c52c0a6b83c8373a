-- The shadow's meter is asked under its own quota.
use Rattle.std.proofs.Common.{ap, ◌∙◌}
use Rattle.gcra.specs.declared.Gcra.{Gcra}
use Rattle.gcra.specs.Packed.{valid_quota}
use Rattle.gcra.specs.Meter.{decision, check}
use Rattle.gcra.proofs.Packed.Encoding.{units-accepted}
use Rattle.limiter.specs.Steps.KeySteps.{units}
use Rattle.limiter.proofs.Checking.CheckLaws.{check-quota}
use Rattle.limiter.proofs.Checking.ShadowTableLaws.{meter-valid}
use Rattle.limiter.proofs.traces.try_shadow.Goals as goal

pub ask_meter-asked-requires : goal.ask_meter-asked-requires
ask_meter-asked-requires c =
    let s = c.args in
    ap (λ (g : Gcra). valid_quota units g.quota) c.shadow_entry-found.ensures.meter
    ∙ meter-valid units units-accepted s.n s.shadows.now c.requires.shadows_ready s.key s.wanted s.reading c.requires.wanted_value

pub returns : goal.returns
returns c =
    let s = c.args in
    let found = c.shadow_entry-found.ensures in
    let asked = c.ask_meter-asked.ensures in
    record {
      would = asked.0 ∙ ap (λ (g : Gcra). decision g s.reading) found.meter;
      left = asked.1 ∙ ap (λ (g : Gcra). check g s.reading) found.meter;
      place = found.place;
      quota = ap (λ (g : Gcra). valid_quota units g.quota) asked.1
          ∙ ap (valid_quota units) (check-quota c.shadow_entry-found.result.gcra s.reading)
          ∙ ap (λ (g : Gcra). valid_quota units g.quota) found.meter
          ∙ meter-valid units units-accepted s.n s.shadows.now c.requires.shadows_ready s.key s.wanted s.reading c.requires.wanted_value;
    }
