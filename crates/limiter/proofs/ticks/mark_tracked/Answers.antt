use Rattle.std.proofs.Common.{◌∙◌, ℕ, Bool, List, ap}
use Rattle.limiter.specs.State.{is_tracked}
use Rattle.limiter.specs.Steps.KeySteps.{units}
use Rattle.limiter.specs.Steps.TickSteps.{key_records, shadow_key}
use Rattle.limiter.proofs.Walking.CutLaws.{fill_more, fill-all}
use Rattle.limiter.proofs.Walking.RowLaws.{rows-from, rows-done}
use Rattle.limiter.proofs.Walking.ShadowLaws.{shadow-key-at}
use Rattle.limiter.proofs.ticks.mark_tracked.Goals as goal

-- whether the key of a shadow's record has state
abbrev test : ℕ → List ℕ → List ℕ → Bool
test n keys x = is_tracked (key_records units n keys) (shadow_key units x)

pub loop-i-preserved : goal.loop-i-preserved
loop-i-preserved c =
    let l = c.loop-i in
    let a = c.args in
    let h = c.loop-i-test.true in
    fill_more c.is_tracked.result _ l.invariant h
    (rows-from 4 (test a.n a.keys.now) a.m a.shadows.now l.i h c.is_tracked.result
    (c.is_tracked.ensures ∙ ap (is_tracked (key_records units a.n a.keys.now)) (shadow-key-at units a.m a.shadows.now l.i h)))

pub returns : goal.returns
returns c =
    let l = c.loop-i in
    let a = c.args in
    fill-all l.invariant c.loop-i-test.false (rows-done 4 (test a.n a.keys.now) a.m a.shadows.now l.i l.invariant.within c.loop-i-test.false)
