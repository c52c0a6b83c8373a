use Rattle.questions.proofs.RefusalLaws.{refusal-is, value-is}
use Rattle.hot.proofs.HotSet.Answers.{set-passed, passed-set}
use Rattle.hot.proofs.hot_set.HotSet.entry_of.Goals as goal

pub returns-in_err-ask : goal.returns-in_err-ask
returns-in_err-ask c = refusal-is _ _ c.in_err-ask.ensures _ c.from_residual.ensures.1 _

pub get-requires : goal.get-requires
get-requires c = (passed-set _ _ (set-passed c.args.self c.args.hot.now c.in_ok-ask.ensures)).ready

pub returns : goal.returns
returns c = value-is _ _ _ (set-passed c.args.self c.args.hot.now c.in_ok-ask.ensures) c.get.ensures
