-- Question 2 of the meter's quota passes, so it is asked.
use Rattle.std.proofs.Common.{◌∙◌, sym, refl, true}
use Rattle.gcra.specs.Packed.{valid_quota}
use Rattle.questions.specs.Questions.{passes}
use Rattle.gcra.specs.Meter.{decision, check}
use Rattle.gcra.specs.Calls.{ask_quota}
use Rattle.questions.proofs.Answers.{changed-passed}
use Rattle.questions.proofs.Tests.{and_intro}
use Rattle.limiter.proofs.Checking.KeyRecordLaws.{given-or}
use Rattle.limiter.specs.Steps.KeySteps.{units}
use Rattle.limiter.proofs.checks.ask_meter.Goals as goal

pub returns : goal.returns
unfolding passes
returns c =
    let g = c.args.gcra in
    let now = c.args.reading in
    let p = and_intro (valid_quota units g.quota) true c.requires refl in
    let h = c.check-asked.ensures in (
      c.unwrap_or.ensures ∙ given-or (ask_quota g.quota) (decision g now) _ c.check-asked.result.answer p h.decided,
      h.left ∙ sym (changed-passed (check g now) g (ask_quota g.quota) p),
    )
