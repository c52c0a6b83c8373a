use Rattle.std.proofs.Common.{◌∙◌}
use Rattle.questions.proofs.Tests.{told-no, told-yes}
use Rattle.questions.proofs.Answers.{first-no, first-yes, first-none, first_rest}
use Rattle.hot.specs.HotSet.Calls.{ask_set}
use Rattle.questions.proofs.RefusalLaws.{refusal-first}
use Rattle.hot.proofs.HotSet.Answers.{set-passed, asks-demand}
use Rattle.hot.proofs.hot_set.HotSet.ask_update.Goals as goal

pub returns-in_err-ask : goal.returns-in_err-ask
returns-in_err-ask c =
    refusal-first (ask_set c.args.self c.args.hot.now) _ c.in_err-ask.ensures _ c.from_residual.ensures.1 (asks-demand c.args.self c.args.hot.now c.args.demand_rate)

pub returns-then-not-is_magnitude : goal.returns-then-not-is_magnitude
returns-then-not-is_magnitude c =
    first-no 11 _ (told-no c.is_magnitude.ensures c.if-not-is_magnitude.true)
    ∙ first_rest (ask_set c.args.self c.args.hot.now) (asks-demand c.args.self c.args.hot.now c.args.demand_rate) (set-passed _ _ c.in_ok-ask.ensures)

pub returns : goal.returns
returns c =
    first-yes 11 _ (told-yes c.is_magnitude.ensures c.if-not-is_magnitude.false) first-none
    ∙ first_rest (ask_set c.args.self c.args.hot.now) (asks-demand c.args.self c.args.hot.now c.args.demand_rate) (set-passed _ _ c.in_ok-ask.ensures)
