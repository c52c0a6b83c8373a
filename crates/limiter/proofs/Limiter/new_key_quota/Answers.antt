-- Question by question, and then the value.
use mathlib.Core.Path.{refl, ap, ◌∙◌}
use lib.Dec.{lit<}
use Rattle.questions.specs.Questions.{given}
use Rattle.questions.proofs.Answers.{answer-passed, passed_none}
use Rattle.questions.proofs.RefusalLaws.{refusal-is}
use Rattle.limiter.specs.State.{state_of}
use Rattle.limiter.proofs.Limiter.new_key_quota.Goals as goal

pub returns-in_err-ask_limits : goal.returns-in_err-ask_limits
returns-in_err-ask_limits c = refusal-is _ _ c.in_err-ask_limits.ensures _ c.from_residual.ensures.1 _

pub returns : goal.returns
unfolding state_of
returns c = ap given c.cold_quota.ensures ∙ answer-passed _ _ (passed_none _ _ (lit< tt, (lit< tt, (lit< tt, (lit< tt, (lit< tt, tt))))) c.in_ok-ask_limits.ensures refl)
