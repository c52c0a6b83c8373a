use Rattle.std.proofs.Common.{◌∙◌}
use Rattle.questions.proofs.Answers.{changed-passed}
use Rattle.questions.proofs.RefusalLaws.{refusal-is, refusal-kept, value-is}
use Rattle.hot.proofs.HotSet.Answers.{update-passed, update-passed-set}
use Rattle.hot.proofs.hot_set.HotSet.update_with.Goals as goal

pub returns-in_err-ask_update : goal.returns-in_err-ask_update
returns-in_err-ask_update c = record {
  answered = refusal-is _ _ c.in_err-ask_update.ensures _ c.from_residual.ensures.1 _;
  left = refusal-kept _ _ c.in_err-ask_update.ensures _ c.from_residual.ensures.1 _ _;
}

pub take_in-requires : goal.take_in-requires
take_in-requires c = update-passed-set _ _ _ (update-passed c.args.self c.args.hot.now c.args.demand_rate c.in_ok-ask_update.ensures)

pub returns : goal.returns
returns c =
    let p = update-passed c.args.self c.args.hot.now c.args.demand_rate c.in_ok-ask_update.ensures in
    record {
      answered = value-is _ _ _ p c.take_in.ensures.says;
      left = c.take_in.ensures.left ∙ changed-passed _ _ _ p;
    }
