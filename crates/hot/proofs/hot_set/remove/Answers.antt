use Rattle.std.proofs.Common.{◌∙◌}
use Rattle.hot.proofs.HotSet.Table.{removed-at, removed-not}
use Rattle.hot.proofs.hot_set.remove.Goals as goal

pub returns-in-At : goal.returns-in-At
returns-in-At c =
    c.remove.ensures.t_after ∙ removed-at c.args.n c.args.hot.now c.requires c.args.key _ c.in-At.ensures

pub returns-in_default : goal.returns-in_default
returns-in_default c = removed-not c.args.n c.args.hot.now c.requires c.args.key c.find.result c.find.ensures c.in_default.not-At
