use Rattle.std.proofs.Common.{◌∙◌, ap, ltb, ℕ, Bool, length, take, rules, tests}
use Rattle.std.proofs.lemmas.Iterator.{YieldsList-from_slice}
use Rattle.std.proofs.lemmas.Iterator.Consumers.{YieldsList-at, YieldsList-from_filter, count_from_yields_List}
use Rattle.limiter.proofs.Walking.CutLaws.{filter-only}
use Rattle.limiter.proofs.ticks.count_below.Goals as goal

pub returns : goal.returns
returns c =
    let less : ℕ → Bool = λ w. ltb w c.args.limit in
    count_from_yields_List c.filter.result _ c.count.ensures.ran (YieldsList-from_filter _ less (YieldsList-at c.filter.ensures.source (YieldsList-from_slice _ c.iter.ensures.rest)) c.filter.ensures.closure (λ x b q k. search (rules, tests)))
    ∙ ap length (filter-only less (take c.args.n c.args.ranks.now))
