use Rattle.std.proofs.Common.{◌≡◌, ◌∙◌, ap, rules, false}
use Rattle.std.specs.Option.{MatchOption}
use Rattle.hot.specs.HotSet.Set.{primary_of}
use Rattle.hot.proofs.HotSet.Answers.{read-refused, read-given, primary-read}
use Rattle.hot.proofs.hot_set.HotSet.is_primary.Goals as goal

pub returns-in_err-entry_of : goal.returns-in_err-entry_of
returns-in_err-entry_of c = read-refused _ _ _ _ c.in_err-entry_of.ensures _ c.from_residual.ensures.1

pub returns : goal.returns
returns c =
    let read : MatchOption c.in_ok-entry_of.field-0 (c.is_some_and.result ≡ false) (λ e. c.is_some_and.result ≡ e.primary) = search (rules, c.is_some_and.ensures) in
    read-given _ _ _ c.in_ok-entry_of.field-0 _ c.in_ok-entry_of.ensures (λ e. primary-read _ c.is_some_and.result read ∙ ap primary_of e)
