-- The key at its place, or none; a table that passed question 2 is never unfit.
use Rattle.std.proofs.Common.{sym, ap, ◌∙◌, arith}
use Rattle.questions.specs.Lists.{first}
use Rattle.limiter.specs.State.{units_for}
use Rattle.limiter.proofs.Checking.KeyTableLaws.{readable-found, those-key, key-missed}
use Rattle.std.specs.declared.option.Option.TheVariants.{Some}
use Rattle.limiter.proofs.readers.find_key.Goals as goal

pub overflow_mul-place : goal.overflow_mul-place
overflow_mul-place c =
    let s = c.args in
    omega (arith, (readable-found s.limiter s.keys.now c.requires s.key c.in-At.place (sym c.in-At.is ∙ c.find.ensures)).within)

pub of_words-requires : goal.of_words-requires
of_words-requires c =
    let s = c.args in
    readable-found s.limiter s.keys.now c.requires s.key c.in-At.place (sym c.in-At.is ∙ c.find.ensures)

pub returns-in-At : goal.returns-in-At
unfolding units_for
returns-in-At c =
    let s = c.args in
    ap Some c.of_words.ensures ∙ sym (ap first (those-key s.limiter s.keys.now c.requires s.key _ (sym c.in-At.is ∙ c.find.ensures)))

pub returns-in_default : goal.returns-in_default
returns-in_default c = sym (ap first (key-missed c.args.limiter c.args.keys.now c.requires c.args.key _ c.find.ensures c.in_default.not-At))
