-- The questions of both limits, and then that of the cluster.
use Rattle.std.proofs.Common.{ap, ◌∙◌, ◌++◌, List}
use Rattle.questions.specs.Questions.{Question, first_no}
use Rattle.questions.proofs.Tests.{told-no, told-yes}
use Rattle.questions.proofs.Answers.{first-no, first-yes}
use Rattle.limiter.specs.Checks.{cluster_questions}
use Rattle.limiter.proofs.Checking.CheckLaws.{limits-are}
use Rattle.limiter.proofs.checks.ask_limits.Goals as goal

pub returns-then-not-are_rates : goal.returns-then-not-are_rates
returns-then-not-are_rates c =
    let s = c.args in
    first-no 3 _ (told-no c.are_rates.ensures c.if-not-are_rates.true)
    ∙ ap (λ (qs : List Question). first_no (qs ++ cluster_questions s.cluster_size)) (limits-are s.limit s.shadow _ c.unwrap_or-tried.ensures)

pub returns-then-not-are_bursts : goal.returns-then-not-are_bursts
returns-then-not-are_bursts c =
    let s = c.args in
    first-yes 3 _ (told-yes c.are_rates.ensures c.if-not-are_rates.false) (first-no 4 _ (told-no c.are_bursts.ensures c.if-not-are_bursts.true))
    ∙ ap (λ (qs : List Question). first_no (qs ++ cluster_questions s.cluster_size)) (limits-are s.limit s.shadow _ c.unwrap_or-tried.ensures)

pub returns : goal.returns
returns c =
    let s = c.args in
    first-yes 3 _ (told-yes c.are_rates.ensures c.if-not-are_rates.false)
    (first-yes 4 _ (told-yes c.are_bursts.ensures c.if-not-are_bursts.false) c.ask_cluster.ensures)
    ∙ ap (λ (qs : List Question). first_no (qs ++ cluster_questions s.cluster_size)) (limits-are s.limit s.shadow _ c.unwrap_or-tried.ensures)
