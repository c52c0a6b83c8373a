-- Question by question, and then the value.
use mathlib.Core.Path.{refl, sym}
use Rattle.limiter.proofs.Checking.LiftLaws.{keys-counted}
use Rattle.questions.proofs.RefusalLaws.{refusal-is}
use Rattle.limiter.proofs.Reading.ReaderLaws.{past, tells}
use Rattle.limiter.specs.State.{tables}
use Rattle.limiter.proofs.Limiter.tracked_keys.Goals as goal

pub returns-in_err-ask : goal.returns-in_err-ask
returns-in_err-ask c = refusal-is _ _ c.in_err-ask.ensures _ c.from_residual.ensures.1 _

pub returns : goal.returns
returns c =
    let s = c.args in
    let p = past s.self (tables s.keys.now s.hot.now s.shadows.now) _ c.in_ok-ask.ensures refl in
    tells s.self (tables s.keys.now s.hot.now s.shadows.now) p _ _ (sym (keys-counted s.self (tables s.keys.now s.hot.now s.shadows.now) p.room p.ok))
