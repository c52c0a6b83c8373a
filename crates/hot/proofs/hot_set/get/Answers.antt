use Rattle.std.proofs.Common.{ap, ◌∙◌, arith}
use Rattle.hot.proofs.HotSet.Table.{at-within, got-at, got-none}
use Rattle.hot.proofs.hot_set.get.Goals as goal
use Rattle.std.specs.declared.option.Option.TheVariants.{Some}

pub overflow_mul-i : goal.overflow_mul-i
overflow_mul-i c = omega (arith, (at-within c.args.n c.args.hot.now c.requires c.args.key _ c.in-At.ensures).1)

pub of_words-requires : goal.of_words-requires
of_words-requires c = (at-within c.args.n c.args.hot.now c.requires c.args.key _ c.in-At.ensures).1

pub returns-in-At : goal.returns-in-At
returns-in-At c = ap Some c.of_words.ensures ∙ got-at c.args.n c.args.hot.now c.requires c.args.key _ c.in-At.ensures

pub returns-in_default : goal.returns-in_default
returns-in_default c = got-none c.args.n c.args.hot.now c.requires c.args.key c.find.result c.find.ensures c.in_default.not-At
