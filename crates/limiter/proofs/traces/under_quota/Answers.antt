-- `under_quota` meets its contract.
use mathlib.Core.Path.{◌≡◌, refl, sym, ◌∙◌}
use mathlib.Core.Bool.{true, ◌&&◌}
use Rattle.gcra.specs.declared.Gcra.{Gcra}
use Rattle.gcra.specs.declared.Quota.{Quota}
use Rattle.gcra.specs.Packed.{valid_quota}
use Rattle.questions.specs.Questions.{passes}
use Rattle.gcra.specs.Rate.{set_quota}
use Rattle.gcra.specs.Calls.{ask_quotas}
use Rattle.questions.proofs.Answers.{changed-passed}
use Rattle.questions.proofs.Tests.{and_intro}
use Rattle.limiter.proofs.traces.under_quota.Goals as goal
use Rattle.limiter.specs.Steps.KeySteps.{units}

-- question 2 of both passes
asked : (g : Gcra) (q : Quota) → valid_quota units g.quota ≡ true → valid_quota units q ≡ true → passes (ask_quotas g q) ≡ true
unfolding passes
asked g q v w =
    and_intro (valid_quota units g.quota && valid_quota units q) true
    (and_intro (valid_quota units g.quota) (valid_quota units q) v w) refl

pub returns : goal.returns
returns c =
    c.set_quota.ensures.left
    ∙ sym (changed-passed (set_quota c.args.gcra c.args.wanted c.args.reading) c.args.gcra
    (ask_quotas c.args.gcra c.args.wanted) (asked c.args.gcra c.args.wanted c.requires.0 c.requires.1))
