-- A 'no' of questions 8 and 9, or the key put in.
use mathlib.Core.Path.{refl, ap, ◌∙◌, subst}
use Rattle.questions.specs.Questions.{first_no}
use Rattle.limiter.specs.State.{KeyRecord}
use Rattle.limiter.specs.Checks.{raised}
use Rattle.limiter.specs.Steps.KeySteps.{key_record}
use Rattle.limiter.specs.Steps.CheckSteps.{Puts}
use Rattle.limiter.proofs.Checking.CheckLaws.{questions-are, place-passed, raises-no, raises-done}
use Rattle.limiter.proofs.checks.raise.Goals as goal

pub returns-in-Err : goal.returns-in-Err
returns-in-Err c =
    let s = c.args in
    rw c.refused.ensures
    (raises-no s.limiter s.keys.now (raised s.attempts s.denials s.shadow_denials s.gcra (key_record s.entry.state)) _
    (c.in-Err.ensures
    ∙ ap first_no (questions-are s.limiter s.keys.now c.requires.ready s.entry c.requires.placed s.attempts s.denials s.shadow_denials s.gcra)))

pub raised-requires : goal.raised-requires
raised-requires c =
    let s = c.args in
    (place-passed s.limiter s.entry s.attempts s.denials s.shadow_denials _ c.in_default.ensures refl).1

pub put-requires-clause-table_size_value : goal.put-requires-clause-table_size_value
put-requires-clause-table_size_value c =
    let s = c.args in
    (place-passed s.limiter s.entry s.attempts s.denials s.shadow_denials _ c.in_default.ensures refl).0

pub returns : goal.returns
returns c =
    let s = c.args in
    raises-done s.limiter s.keys.now (raised s.attempts s.denials s.shadow_denials s.gcra (key_record s.entry.state))
    (c.in_default.ensures
    ∙ ap first_no (questions-are s.limiter s.keys.now c.requires.ready s.entry c.requires.placed s.attempts s.denials s.shadow_denials s.gcra))
    _ _ (subst (λ (k : KeyRecord). Puts s.limiter s.keys.now k c.put.result c.put.new.keys) c.raised.ensures c.put.ensures)
