-- Question by question, and then the value.
use mathlib.Core.Path.{refl, ◌∙◌}
use Rattle.questions.proofs.RefusalLaws.{refusal-is}
use Rattle.limiter.proofs.Reading.ReaderLaws.{past, tells_hot}
use Rattle.limiter.specs.State.{tables, state_of}
use Rattle.limiter.proofs.Limiter.hot_since.Goals as goal

pub returns-in_err-ask : goal.returns-in_err-ask
returns-in_err-ask c = refusal-is _ _ c.in_err-ask.ensures _ c.from_residual.ensures.1 _

pub returns : goal.returns
unfolding state_of
returns c = let s = c.args in c.hot_since.ensures ∙ tells_hot s.self (tables s.keys.now s.hot.now s.shadows.now) (past s.self (tables s.keys.now s.hot.now s.shadows.now) _ c.in_ok-ask.ensures refl) _
