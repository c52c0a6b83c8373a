-- A 'no' of the questions, or the cap.
use mathlib.Core.Path.{◌∙◌}
use Rattle.limiter.proofs.Reading.ReaderLaws.{cap-set, past}
use Rattle.limiter.specs.Calls.{state_questions}
use Rattle.limiter.specs.State.{tables}
use Rattle.questions.proofs.Answers.{answer-no, answer-passed, changed-passed, kept-no}
use Rattle.questions.proofs.RefusalLaws.{number-nonzero}
use mathlib.Core.Path.{refl}
use Rattle.limiter.proofs.Limiter.set_cap.Goals as goal

pub returns-in-Err : goal.returns-in-Err
returns-in-Err c =
    let s = c.args in
    let qs = state_questions s.self (tables s.keys.now s.hot.now s.shadows.now) in
    let z = number-nonzero c.in-Err.no in
    rw c.refused.ensures
    (record { answered = answer-no _ qs _ c.in-Err.ensures z; limiter = kept-no _ _ qs _ c.in-Err.ensures z })

pub returns : goal.returns
returns c =
    let s = c.args in
    let qs = state_questions s.self (tables s.keys.now s.hot.now s.shadows.now) in
    let p = past s.self (tables s.keys.now s.hot.now s.shadows.now) _ c.in_default.ensures refl in
    record {
      answered = answer-passed _ qs p.all;
      limiter = cap-set s.self (tables s.keys.now s.hot.now s.shadows.now) p s.cap _ c.stored_cap.ensures ∙ changed-passed _ _ qs p.all;
    }
