-- The questions of the lent words, and then those of the limiter.
use mathlib.Core.Path.{ap, ◌∙◌}
use mathlib.Core.Bool.{true}
use Rattle.questions.specs.Questions.{first_no}
use Rattle.questions.proofs.Answers.{first_more, first_rest}
use Rattle.limiter.specs.declared.Limiter.{Limiter}
use Rattle.limiter.specs.State.{tables, lengths}
use Rattle.limiter.specs.Calls.{state_questions}
use Rattle.nultiway.specs.Values.{limiter_asked}
use Rattle.nultiway.proofs.Calls.CallLaws.{opened}
use Rattle.nultiway.proofs.Calls.CallLaws.{number-asked}
use Rattle.nultiway.proofs.limiter_changes.nultiway_limiter_ask.Goals as goal

pub returns-then-no-ne0 : goal.returns-then-no-ne0
returns-then-no-ne0 c =
    let s = c.args in
    first_more (limiter_asked s.limiter.now (lengths (tables s.keys.now s.hot.now s.shadows.now)) true) _ _ c.ask_limiter-no.ensures c.if-no-ne0.true

pub limiter_of-requires : goal.limiter_of-requires
limiter_of-requires c = (opened _ _ _ _ c.ask_limiter-no.ensures c.if-no-ne0.false).long

pub returns : goal.returns
returns c =
    let s = c.args in
    c.change_number.ensures ∙ number-asked c.ask.result ∙ c.ask.ensures
    ∙ ap (λ (x : Limiter). first_no (state_questions x (tables s.keys.now s.hot.now s.shadows.now))) c.limiter_of.ensures
    ∙ first_rest (limiter_asked s.limiter.now (lengths (tables s.keys.now s.hot.now s.shadows.now)) true) _ (opened _ _ _ _ c.ask_limiter-no.ensures c.if-no-ne0.false).passed
