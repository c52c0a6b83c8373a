-- `shadow_words` meets its contract.
use mathlib.Core.List.{[], ◌∷◌}
use mathlib.Core.Path.{sym, ap, ◌∙◌}
use lib.ListN.{get_or}
use Rattle.nultiway.specs.LimiterCalls.{shadow_words}
use Rattle.nultiway.proofs.Calls.CallLaws.{decision-apart}
use Rattle.nultiway.proofs.answers.shadow_words.Goals as goal
use Rattle.std.specs.declared.option.Option.{Option}
use Rattle.gcra.specs.declared.Decision.{Decision}

pub returns-in-Some : goal.returns-in-Some
returns-in-Some c =
    let e = c.decision_words-w.ensures in
    (λ i. 1 ∷ get_or (e i) 0 0 ∷ get_or (e i) 1 0 ∷ [])
    ∙ decision-apart c.in-Some.decision
    ∙ sym (ap (λ (x : Option Decision). shadow_words x) c.in-Some.is)
