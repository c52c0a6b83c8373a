-- `gcra::Quota::per_second` meets its contract.
use Rattle.gcra.specs.Calls.{quota_per_second}
use Rattle.gcra.specs.Rate.{per_second}
use Rattle.questions.proofs.Tests.{told-no, told-yes}
use Rattle.questions.proofs.Answers.{alone-no, alone-yes}
use Rattle.gcra.proofs.Rate.Rates.{second_is}
use Rattle.gcra.proofs.Quota.per_second.Goals as goal

pub returns-then-not-burst_fits : goal.returns-then-not-burst_fits
unfolding quota_per_second
returns-then-not-burst_fits c = alone-no 4 _ (told-no c.burst_fits.ensures c.if-not-burst_fits.true)

pub returns : goal.returns
unfolding quota_per_second per_second
returns c =
    rw (c.with_interval.ensures, c.quotient_nanos-interval.ensures, c.ceil.ensures, second_is)
    (alone-yes 4 _ (told-yes c.burst_fits.ensures c.if-not-burst_fits.false))
