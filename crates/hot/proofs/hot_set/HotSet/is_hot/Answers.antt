use Rattle.std.proofs.Common.{◌∙◌, ap}
use Rattle.questions.specs.Lists.{present}
use Rattle.hot.proofs.HotSet.Answers.{read-refused, read-given, some-present}
use Rattle.hot.proofs.hot_set.HotSet.is_hot.Goals as goal

pub returns-in_err-entry_of : goal.returns-in_err-entry_of
returns-in_err-entry_of c = read-refused _ _ _ _ c.in_err-entry_of.ensures _ c.from_residual.ensures.1

pub returns : goal.returns
returns c =
    read-given _ _ _ c.in_ok-entry_of.field-0 _ c.in_ok-entry_of.ensures (λ e. c.is_some.ensures ∙ some-present _ ∙ ap present e)
