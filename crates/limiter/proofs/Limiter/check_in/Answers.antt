-- A 'no' of the questions, or the key's call.
use mathlib.Core.List.{◌++◌}
use Rattle.limiter.proofs.Checking.LiftLaws.{checks-lifted, limit-passed, limit-ready, limit_asked, refused-before}
use Rattle.limiter.specs.Calls.{here, state_questions}
use Rattle.limiter.specs.Checks.{check_in, checked_key, entry, key_decision, key_questions}
use Rattle.limiter.specs.State.{state_of, tables, units_in}
use Rattle.questions.proofs.RefusalLaws.{number-nonzero}
use Rattle.std.specs.declared.option.Option.TheVariants.{None}
use mathlib.Core.Path.{refl}
use Rattle.limiter.proofs.Limiter.check_in.Goals as goal

pub returns-in-Err : goal.returns-in-Err
returns-in-Err c =
    let s = c.args in
    let x = here s.self (tables s.keys.now s.hot.now s.shadows.now) in
    rw c.refused.ensures
    (refused-before (key_decision (units_in s.self) x s.key s.limit s.reading s.cluster_size) s.self (tables s.keys.now s.hot.now s.shadows.now) (state_questions s.self (tables s.keys.now s.hot.now s.shadows.now) ++ limit_asked s.limit s.cluster_size)
    (key_questions x (checked_key s.reading None (entry (units_in s.self) x s.key s.limit s.reading s.cluster_size)))
    (check_in (units_in s.self) x s.key s.limit s.reading s.cluster_size) _ c.in-Err.ensures (number-nonzero c.in-Err.no))

pub check_key-requires-clause-ready : goal.check_key-requires-clause-ready
check_key-requires-clause-ready c =
    let s = c.args in
    let p = limit-passed s.self (tables s.keys.now s.hot.now s.shadows.now) s.limit s.cluster_size _ c.in_default.ensures refl in
    (limit-ready s.self (tables s.keys.now s.hot.now s.shadows.now) s.limit s.cluster_size p).0

pub check_key-requires-clause-burst_value : goal.check_key-requires-clause-burst_value
unfolding state_of
check_key-requires-clause-burst_value c =
    let s = c.args in
    let p = limit-passed s.self (tables s.keys.now s.hot.now s.shadows.now) s.limit s.cluster_size _ c.in_default.ensures refl in
    (limit-ready s.self (tables s.keys.now s.hot.now s.shadows.now) s.limit s.cluster_size p).1

pub returns : goal.returns
unfolding state_of
returns c =
    let s = c.args in
    let p = limit-passed s.self (tables s.keys.now s.hot.now s.shadows.now) s.limit s.cluster_size _ c.in_default.ensures refl in
    checks-lifted s.self (tables s.keys.now s.hot.now s.shadows.now) _ p s.key s.limit s.reading s.cluster_size _ c.check_key.result c.check_key.ensures
