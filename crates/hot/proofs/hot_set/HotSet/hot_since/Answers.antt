use Rattle.std.proofs.Common.{◌≡◌, ◌∙◌, ap, rules, None}
use Rattle.std.specs.Option.{MatchOption, IsSomeAnd}
use Rattle.hot.specs.HotSet.Set.{since_of}
use Rattle.hot.proofs.HotSet.Answers.{read-refused, read-given, since-read}
use Rattle.hot.proofs.hot_set.HotSet.hot_since.Goals as goal

pub returns-in_err-entry_of : goal.returns-in_err-entry_of
returns-in_err-entry_of c = read-refused _ _ _ _ c.in_err-entry_of.ensures _ c.from_residual.ensures.1

pub returns : goal.returns
returns c =
    let read : MatchOption c.in_ok-entry_of.field-0 (c.map.result ≡ None) (λ e. IsSomeAnd c.map.result (λ t. t ≡ e.since)) = search (rules, c.map.ensures.cases) in
    read-given _ _ _ c.in_ok-entry_of.field-0 _ c.in_ok-entry_of.ensures (λ e. since-read _ c.map.result read ∙ ap since_of e)
