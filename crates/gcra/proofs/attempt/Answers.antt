-- `gcra::attempt` meets its contract: a reading below the retry time is denied, any other allowed.
use mathlib.Core.Path.{sym}
use Rattle.gcra.proofs.Meter.Checks.{attempt-deny, attempt-allow}
use Rattle.gcra.proofs.attempt.Goals as goal

pub returns-then-now-earliest : goal.returns-then-now-earliest
returns-then-now-earliest c = let h = c.saturating_sub-earliest.ensures in rw h (sym (attempt-deny _ _ _ (rw h at c.if-now-earliest.true)))

pub returns : goal.returns
returns c =
    let h = c.saturating_sub-earliest.ensures in
    rw (c.saturating_add.ensures, c.max.ensures) (sym (attempt-allow _ _ _ (rw h at c.if-now-earliest.false)))
