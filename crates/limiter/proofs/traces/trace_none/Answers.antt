-- The check, and the shadow that goes.
use mathlib.Core.Path.{refl, sym, ap, ◌∙◌}
use Rattle.gcra.specs.Meter.{decision}
use Rattle.questions.specs.Refusals.{answer_of}
use Rattle.questions.proofs.Answers.{given-passed}
use Rattle.std.specs.declared.option.Option.TheVariants.{None}
use Rattle.limiter.specs.State.{units_in, units_for}
use Rattle.limiter.specs.Checks.{entry}
use Rattle.limiter.specs.Steps.CheckSteps.{keys_only}
use Rattle.limiter.specs.Steps.TraceSteps.{traced_asks}
use Rattle.limiter.proofs.Checking.TraceLaws.{traces-no, traces-yes}
use Rattle.limiter.proofs.traces.trace_none.Goals as goal

pub drop_shadow-count-requires : goal.drop_shadow-count-requires
unfolding units_for
drop_shadow-count-requires c = c.requires.shadows_ready

pub returns-in-Err : goal.returns-in-Err
returns-in-Err c =
    let s = c.args in
    let h = c.check_key-checked.ensures in
    rw c.refused.ensures
    (traces-no s.limiter s.keys.now s.shadows.now s.key s.reading (entry (units_in s.limiter) (keys_only s.limiter s.keys.now) s.key s.limit s.reading s.cluster_size) None (decision (entry (units_in s.limiter) (keys_only s.limiter s.keys.now) s.key s.limit s.reading s.cluster_size).gcra s.reading)
    c.in-Err.no _ _ (sym (ap answer_of c.in-Err.is) ∙ h.says) h.limiter h.words)

pub returns-in-Ok : goal.returns-in-Ok
unfolding units_for
returns-in-Ok c =
    let s = c.args in
    let h = c.check_key-checked.ensures in
    let p = given-passed (traced_asks s.limiter s.keys.now s.shadows.now s.key s.reading (entry (units_in s.limiter) (keys_only s.limiter s.keys.now) s.key s.limit s.reading s.cluster_size) None) _ _ (sym (ap answer_of c.in-Ok.is) ∙ h.says) in
    traces-yes s.limiter s.keys.now s.shadows.now s.key s.reading (entry (units_in s.limiter) (keys_only s.limiter s.keys.now) s.key s.limit s.reading s.cluster_size) None p.0
    _ _ _ _ _ _ _ p.1 refl h.limiter h.words c.drop_shadow-count.ensures refl
