-- Question by question, and then the value.
use mathlib.Core.Path.{refl}
use lib.Dec.{lit<}
use Rattle.questions.proofs.Answers.{answer-passed, passed_none}
use Rattle.questions.proofs.RefusalLaws.{refusal-is}
use Rattle.limiter.proofs.Limiter.new.Goals as goal

pub returns-in_err-ask : goal.returns-in_err-ask
returns-in_err-ask c = refusal-is _ _ c.in_err-ask.ensures _ c.from_residual.ensures.1 _

pub returns : goal.returns
returns c = answer-passed _ _ (passed_none _ _ (lit< tt, (lit< tt, (lit< tt, (lit< tt, (lit< tt, tt))))) c.in_ok-ask.ensures refl)
