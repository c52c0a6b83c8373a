-- A denied reading is below its retry time.
use mathlib.Core.Path.{sym, ◌∙◌}
use native.Mathlib.Omega.{arith}
use Rattle.gcra.specs.Calls.{gcra_retry_after}
use Rattle.questions.specs.Questions.{answer}
use Rattle.gcra.specs.Meter.{pace_of, tat_at, retry_after, decision}
use Rattle.questions.proofs.Tests.{told-no, told-yes}
use Rattle.questions.proofs.Answers.{alone-no}
use Rattle.gcra.proofs.Meter.Checks.{stepped-decision, deny-is}
use Rattle.gcra.proofs.Gcra.retry_after.Goals as goal

pub returns-then-not-is_valid : goal.returns-then-not-is_valid
unfolding gcra_retry_after
returns-then-not-is_valid c = alone-no 2 _ (told-no c.is_valid.ensures c.if-not-is_valid.true)

pub overflow_sub-result : goal.overflow_sub-result
unfolding decision
overflow_sub-result c =
    let a = c.args in
    let d = stepped-decision a.self a.now c.attempt-s.result cc in
    omega (arith, (deny-is (pace_of a.self.quota) (tat_at a.self.tat a.now) a.now (sym d ∙ c.in-Deny.is)).0)

pub returns-in-Allow : goal.returns-in-Allow
unfolding gcra_retry_after retry_after answer
returns-in-Allow c =
    let e = sym (stepped-decision c.args.self c.args.now c.attempt-s.result cc) ∙ c.in-Allow.is in
    let v = told-yes c.is_valid.ensures c.if-not-is_valid.false in
    rw (v, e)

pub returns-in-Deny : goal.returns-in-Deny
unfolding gcra_retry_after retry_after answer
returns-in-Deny c =
    let e = sym (stepped-decision c.args.self c.args.now c.attempt-s.result cc) ∙ c.in-Deny.is in
    let v = told-yes c.is_valid.ensures c.if-not-is_valid.false in
    rw (v, e)
