-- The record goes over the old one, or in at its gap.
use Rattle.std.proofs.Common.{sym, ap, ◌∙◌}
use Rattle.limiter.specs.Steps.CheckSteps.{found_as}
use Rattle.limiter.specs.Steps.KeySteps.{units}
use Rattle.limiter.proofs.Checking.ShadowTableLaws.{shadow-words, shadow-over, shadow-in}
use Rattle.gcra.proofs.Packed.Encoding.{units-accepted}
use Rattle.limiter.proofs.traces.put_shadow.Goals as goal

pub returns-in-Ok : goal.returns-in-Ok
returns-in-Ok c =
    shadow-over units units-accepted c.args.n c.args.shadows.now c.requires.shadows_ready c.args.key c.in-Ok.place
    (sym (ap found_as c.in-Ok.is) ∙ c.requires.shadow_placed)
    c.args.entry.gcra _ _ (shadow-words units c.args.key c.args.entry.gcra _ c.meter_words-meter.ensures) c.overwrite.ensures.t_after

pub returns-in-Err : goal.returns-in-Err
returns-in-Err c =
    shadow-in units units-accepted c.args.n c.args.shadows.now c.requires.shadows_ready c.args.key c.in-Err.place
    (sym (ap found_as c.in-Err.is) ∙ c.requires.shadow_placed)
    c.args.entry.gcra _ _ c.requires.gcra_in_bounds (shadow-words units c.args.key c.args.entry.gcra _ c.meter_words-meter.ensures)
    c.insert.ensures.t_after
