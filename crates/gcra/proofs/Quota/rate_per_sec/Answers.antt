-- `gcra::Quota::rate_per_sec` meets its contract.
use Rattle.gcra.specs.Calls.{quota_rate}
use Rattle.gcra.specs.Rate.{rate_per_sec}
use Rattle.questions.proofs.Tests.{told-no, told-yes}
use Rattle.questions.proofs.Answers.{alone-no, alone-yes}
use Rattle.gcra.proofs.Rate.Rates.{second_is}
use Rattle.gcra.proofs.Quota.rate_per_sec.Goals as goal

pub returns-then-not-is_valid : goal.returns-then-not-is_valid
unfolding quota_rate
returns-then-not-is_valid c = alone-no 2 _ (told-no c.is_valid.ensures c.if-not-is_valid.true)

pub returns : goal.returns
unfolding quota_rate rate_per_sec
returns c = rw (second_is, c.u64_to_f64.ensures) (alone-yes 2 _ (told-yes c.is_valid.ensures c.if-not-is_valid.false))
