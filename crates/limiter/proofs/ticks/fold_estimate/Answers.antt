use Rattle.std.proofs.Common.{◌∙◌, sym}
use Rattle.demand.specs.Estimators.Estimator.{alpha}
use Rattle.limiter.proofs.Walking.FoldLaws.{fold_same, fold-stored}
use Rattle.limiter.proofs.ticks.fold_estimate.Goals as goal

pub returns-then-elapsed-eq0-clause-t_after : goal.returns-then-elapsed-eq0-clause-t_after
returns-then-elapsed-eq0-clause-t_after c =
    let a = c.args in
    fold_same a.at a.t.now c.requires.0 a.known.time_constant a.reading c.requires.1 (sym c.saturating_sub-elapsed.ensures ∙ c.if-elapsed-eq0.true)

pub returns-clause-t_after : goal.returns-clause-t_after
returns-clause-t_after c =
    let a = c.args in
    let next = c.after-next in
    fold-stored a.at a.t.now c.requires.0 a.known.time_constant a.reading c.folded_by.result c.saturating_sub-elapsed.result next.result.value
    c.saturating_sub-elapsed.ensures c.if-elapsed-eq0.false (next.result.worked_out ∙ (λ m. alpha (next.ensures.0 m) (next.ensures.1 m))) c.folded_by.ensures
