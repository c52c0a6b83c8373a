-- A 'no' of the questions, or the key's check.
use mathlib.Core.List.{◌++◌}
use Rattle.limiter.proofs.Checking.LiftLaws.{checks-lifted, own-burst, passed, ready, refused-before}
use Rattle.limiter.specs.Calls.{here, state_questions}
use Rattle.limiter.specs.Checks.{check_in, check_key_questions, cluster_questions, key_decision, own_limit}
use Rattle.limiter.specs.State.{state_of, tables, units_in}
use Rattle.questions.proofs.RefusalLaws.{number-nonzero}
use lib.Dec.{lit<}
use mathlib.Core.Path.{refl}
use Rattle.limiter.proofs.Limiter.check.Goals as goal

pub returns-in-Err : goal.returns-in-Err
returns-in-Err c =
    let s = c.args in
    let x = here s.self (tables s.keys.now s.hot.now s.shadows.now) in
    rw c.refused.ensures
    (refused-before (key_decision (units_in s.self) x s.key (own_limit x) s.reading s.cluster_size) s.self (tables s.keys.now s.hot.now s.shadows.now)
    (state_questions s.self (tables s.keys.now s.hot.now s.shadows.now) ++ cluster_questions s.cluster_size)
    (check_key_questions (units_in s.self) x s.key s.reading s.cluster_size)
    (check_in (units_in s.self) x s.key (own_limit x) s.reading s.cluster_size) _ c.in-Err.ensures (number-nonzero c.in-Err.no))

pub check_key-requires-clause-ready : goal.check_key-requires-clause-ready
check_key-requires-clause-ready c =
    let s = c.args in
    let p = passed s.self (tables s.keys.now s.hot.now s.shadows.now) (cluster_questions s.cluster_size) _ (lit< tt, tt) c.in_default.ensures refl in
    ready s.self (tables s.keys.now s.hot.now s.shadows.now) p.room p.ok

pub check_key-requires-clause-burst_value : goal.check_key-requires-clause-burst_value
unfolding state_of
check_key-requires-clause-burst_value c =
    let s = c.args in
    let p = passed s.self (tables s.keys.now s.hot.now s.shadows.now) (cluster_questions s.cluster_size) _ (lit< tt, tt) c.in_default.ensures refl in
    own-burst s.self (tables s.keys.now s.hot.now s.shadows.now) p.room p.ok

pub returns : goal.returns
unfolding state_of
returns c =
    let s = c.args in
    let qs = cluster_questions s.cluster_size in
    checks-lifted s.self (tables s.keys.now s.hot.now s.shadows.now) qs (passed s.self (tables s.keys.now s.hot.now s.shadows.now) qs _ (lit< tt, tt) c.in_default.ensures refl) s.key s.self.config.limit s.reading s.cluster_size _ c.check_key.result
    c.check_key.ensures
