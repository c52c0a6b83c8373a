use Rattle.std.proofs.Common.{sym, subst}
use Rattle.limiter.specs.declared.pass_two.RateTerms.{RateTerms}
use Rattle.limiter.specs.Steps.PassTwoSteps.{GoodTerms}
use Rattle.limiter.specs.State.{units_for}
use Rattle.limiter.proofs.Ticking.FinishLaws.{set-as, quotas-lent, cap-lent, finished}
use Rattle.limiter.proofs.ticks.finish_tick.Goals as goal

pub set_quotas-requires : goal.set_quotas-requires
unfolding units_for
set_quotas-requires c =
    let p = c.requires in
    (p.keys_lent, p.hot_lent, p.flags_fit, p.totals_fit, subst (λ (x : RateTerms). GoodTerms x) (sym c.of-terms.ensures) (record { floor = p.floor; size = p.nodes }))

pub enforce_cap-left-requires : goal.enforce_cap-left-requires
unfolding units_for
enforce_cap-left-requires c =
    let a = c.args in (
      quotas-lent a.limiter a.keys.now a.n a.hot.now a.h a.shadows.now a.elsewhere.now a.totals.now a.cluster_size
          a.even a.reading c.requires _
          (set-as a.limiter a.keys.now a.n a.hot.now a.h a.shadows.now a.elsewhere.now a.totals.now a.cluster_size
          a.even a.reading c.requires _ c.of-terms.result c.of-terms.ensures c.set_quotas.ensures),
      c.requires.hot_lent,
      c.requires.keys_few,
    )

pub keep_tracked-tracked-requires : goal.keep_tracked-tracked-requires
unfolding units_for
keep_tracked-tracked-requires c =
    let a = c.args in (
      c.requires.shadows_fit,
      cap-lent a.limiter a.keys.now a.n a.hot.now a.h a.shadows.now a.elsewhere.now a.totals.now a.cluster_size
          a.even a.reading c.requires _
          (set-as a.limiter a.keys.now a.n a.hot.now a.h a.shadows.now a.elsewhere.now a.totals.now a.cluster_size
          a.even a.reading c.requires _ c.of-terms.result c.of-terms.ensures c.set_quotas.ensures)
          c.enforce_cap-left.result _ c.enforce_cap-left.ensures,
      c.requires.shadows_few,
    )

pub returns : goal.returns
unfolding units_for
returns c =
    let a = c.args in
    finished a.limiter a.keys.now a.n a.hot.now a.h a.shadows.now a.elsewhere.now a.totals.now a.cluster_size
    a.even a.reading c.requires _
    (set-as a.limiter a.keys.now a.n a.hot.now a.h a.shadows.now a.elsewhere.now a.totals.now a.cluster_size
    a.even a.reading c.requires _ c.of-terms.result c.of-terms.ensures c.set_quotas.ensures)
    c.enforce_cap-left.result _ c.enforce_cap-left.ensures c.keep_tracked-tracked.result _ c.keep_tracked-tracked.ensures
