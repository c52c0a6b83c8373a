-- A 'no' of the questions, or the key's call.
use mathlib.Core.List.{◌++◌}
use Rattle.limiter.proofs.Checking.LiftLaws.{limit-passed, limit-ready, limit_asked, records-lifted, refused-before}
use Rattle.limiter.specs.Calls.{here, state_questions}
use Rattle.limiter.specs.Checks.{entry, key_questions, record_tally, tallied_key}
use Rattle.limiter.specs.State.{state_of, tables, units_in}
use Rattle.questions.proofs.RefusalLaws.{number-nonzero}
use mathlib.Core.Path.{refl}
use Rattle.limiter.proofs.Limiter.record.Goals as goal

pub returns-in-Err : goal.returns-in-Err
returns-in-Err c =
    let s = c.args in
    let x = here s.self (tables s.keys.now s.hot.now s.shadows.now) in
    rw c.refused.ensures
    (refused-before tt s.self (tables s.keys.now s.hot.now s.shadows.now) (state_questions s.self (tables s.keys.now s.hot.now s.shadows.now) ++ limit_asked s.limit s.cluster_size)
    (key_questions x (tallied_key s.tally (entry (units_in s.self) x s.key s.limit s.reading s.cluster_size)))
    (record_tally (units_in s.self) x s.key s.tally s.limit s.reading s.cluster_size) _ c.in-Err.ensures (number-nonzero c.in-Err.no))

pub record_key-requires-clause-ready : goal.record_key-requires-clause-ready
record_key-requires-clause-ready c =
    let s = c.args in
    let p = limit-passed s.self (tables s.keys.now s.hot.now s.shadows.now) s.limit s.cluster_size _ c.in_default.ensures refl in
    (limit-ready s.self (tables s.keys.now s.hot.now s.shadows.now) s.limit s.cluster_size p).0

pub record_key-requires-clause-burst_value : goal.record_key-requires-clause-burst_value
unfolding state_of
record_key-requires-clause-burst_value c =
    let s = c.args in
    let p = limit-passed s.self (tables s.keys.now s.hot.now s.shadows.now) s.limit s.cluster_size _ c.in_default.ensures refl in
    (limit-ready s.self (tables s.keys.now s.hot.now s.shadows.now) s.limit s.cluster_size p).1

pub returns : goal.returns
unfolding state_of
returns c =
    let s = c.args in
    let p = limit-passed s.self (tables s.keys.now s.hot.now s.shadows.now) s.limit s.cluster_size _ c.in_default.ensures refl in
    records-lifted s.self (tables s.keys.now s.hot.now s.shadows.now) _ p s.key s.limit s.reading s.cluster_size _ s.tally c.record_key.result c.record_key.ensures
