use Rattle.hot.proofs.HotSet.Acts.{promoted-of, above-acted, below-acted}
use Rattle.hot.proofs.hot_set.HotSet.take_in.Goals as goal

pub returns-then-demand_rate-threshold : goal.returns-then-demand_rate-threshold
returns-then-demand_rate-threshold c =
    above-acted c.args.self c.args.hot.now c.requires _ c.args.key c.args.demand_rate c.args.now c.args.hot_elsewhere _ _ c.args.threshold c.if-demand_rate-threshold.true
    (promoted-of c.args.self c.args.hot.now c.requires _ c.args.key c.args.demand_rate _ c.args.now _ _ c.new.result c.new.ensures c.promote.ensures)

pub returns : goal.returns
returns c =
    below-acted c.args.self c.args.hot.now c.requires _ c.args.key c.args.demand_rate c.args.now c.args.hot_elsewhere _ _ c.args.threshold c.if-demand_rate-threshold.false c.below_threshold.ensures
