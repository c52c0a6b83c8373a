-- The key found, or a new one; a table that passed question 2 is never unfit.
use Rattle.std.proofs.Common.{sym, ap, ◌∙◌, arith}
use Rattle.limiter.specs.Checks.{limited}
use Rattle.limiter.specs.State.{units_for}
use Rattle.limiter.proofs.Checking.KeyTableLaws.{readable-found, entered-found, entered-new, never-unfit-key}
use Rattle.limiter.proofs.checks.entry.Goals as goal

pub overflow_mul-place : goal.overflow_mul-place
overflow_mul-place c =
    let s = c.args in
    omega (arith, (readable-found s.limiter s.keys.now c.requires s.key c.in-At.place (sym c.in-At.is ∙ c.find.ensures)).within)

pub of_words-requires : goal.of_words-requires
of_words-requires c =
    let s = c.args in
    readable-found s.limiter s.keys.now c.requires s.key c.in-At.place (sym c.in-At.is ∙ c.find.ensures)

pub returns-in-At : goal.returns-in-At
unfolding units_for
returns-in-At c =
    let s = c.args in
    let found = sym c.in-At.is ∙ c.find.ensures in
    record {
      state = c.limited.ensures ∙ ap (limited s.limit) c.of_words.ensures
          ∙ entered-found s.limiter s.keys.now c.requires s.key _ found s.limit s.reading s.cluster_size;
      place = found;
    }

pub returns-in-Gap : goal.returns-in-Gap
returns-in-Gap c =
    let s = c.args in
    let gap = sym c.in-Gap.is ∙ c.find.ensures in
    record {
      state = c.new_key.ensures ∙ entered-new s.limiter s.keys.now c.requires s.key _ gap s.limit s.reading s.cluster_size;
      place = gap;
    }

pub returns-in-Unfit : goal.returns-in-Unfit
returns-in-Unfit c = never-unfit-key c.args.limiter c.args.keys.now c.requires c.args.key (sym c.in-Unfit.is ∙ c.find.ensures)
