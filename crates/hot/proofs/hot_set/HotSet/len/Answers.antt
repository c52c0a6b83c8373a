use Rattle.std.proofs.Common.{refl}
use Rattle.questions.proofs.RefusalLaws.{refusal-is, value-is}
use Rattle.hot.proofs.HotSet.Answers.{set-passed}
use Rattle.hot.proofs.hot_set.HotSet.len.Goals as goal

pub returns-in_err-ask : goal.returns-in_err-ask
returns-in_err-ask c = refusal-is _ _ c.in_err-ask.ensures _ c.from_residual.ensures.1 _

pub returns : goal.returns
returns c = value-is _ _ _ (set-passed c.args.self c.args.hot.now c.in_ok-ask.ensures) refl
