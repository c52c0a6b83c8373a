-- `gcra::Quota::new` meets its contract.
use mathlib.Core.Path.{◌≡◌}
use native.Mathlib.Nat.{pos_of_ne-zero}
use borrow.Author.Rules.{rules}
use borrow.Author.Tests.{lt-ltb}
use Rattle.gcra.specs.Calls.{quota_new}
use Rattle.questions.specs.Questions.{answer}
use Rattle.questions.proofs.Tests.{told-no, told-yes}
use Rattle.gcra.proofs.Quota.new.Goals as goal

pub returns-then-rate_per_sec-eq0 : goal.returns-then-rate_per_sec-eq0
unfolding quota_new answer
returns-then-rate_per_sec-eq0 c = rw c.if-rate_per_sec-eq0.true

pub returns-then-not-burst_fits : goal.returns-then-not-burst_fits
unfolding quota_new answer
returns-then-not-burst_fits c =
    rw (lt-ltb 0 c.args.rate_per_sec (pos_of_ne-zero c.if-rate_per_sec-eq0.false), told-no c.burst_fits.ensures c.if-not-burst_fits.true)

pub returns : goal.returns
unfolding quota_new answer
returns c =
    rw (
      lt-ltb 0 c.args.rate_per_sec (pos_of_ne-zero c.if-rate_per_sec-eq0.false),
      told-yes c.burst_fits.ensures c.if-not-burst_fits.false,
      c.with_interval.ensures,
      c.div_ceil-interval.ensures,
    )
