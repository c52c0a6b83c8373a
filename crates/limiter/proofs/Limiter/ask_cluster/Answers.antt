-- The questions before the call, and then its own.
use mathlib.Core.Path.{refl, ◌∙◌}
use lib.Dec.{lit<}
use Rattle.questions.proofs.Answers.{first_rest, passed_none}
use Rattle.questions.proofs.RefusalLaws.{refusal-first}
use Rattle.limiter.proofs.Limiter.ask_cluster.Goals as goal

pub returns-in_err-ask : goal.returns-in_err-ask
returns-in_err-ask c = refusal-first _ _ c.in_err-ask.ensures _ c.from_residual.ensures.1 _

pub returns : goal.returns
returns c = c.ask_cluster.ensures ∙ first_rest _ _ (passed_none _ _ (lit< tt, (lit< tt, tt)) c.in_ok-ask.ensures refl)
