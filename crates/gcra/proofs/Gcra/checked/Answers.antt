-- An allowed check moves the TAT.
use mathlib.Core.Path.{◌≡◌, sym, ◌∙◌}
use Rattle.gcra.specs.Meter.{attempt, pace_of, tat_at}
use Rattle.gcra.proofs.Meter.Checks.{checked-allow, checked-deny}
use Rattle.gcra.proofs.Gcra.checked.Goals as goal
use Rattle.gcra.proofs.Gcra.checked.Goals.{then-is_allow, else-is_allow}

pub returns : goal.returns
returns c =
    let g = c.args.self in
    let e : c.attempt-s.result ≡ attempt (pace_of g.quota) (tat_at g.tat c.args.now) c.args.now = cc in
    elim c.if-is_allow.branch [
      | then-is_allow w ↦ rw w.tat-is (checked-allow _ _ _ e (sym c.is_allow.ensures ∙ w.if-is_allow.true))
      | else-is_allow w ↦ rw w.tat-is (checked-deny _ _ _ e (sym c.is_allow.ensures ∙ w.if-is_allow.false))
    ]
