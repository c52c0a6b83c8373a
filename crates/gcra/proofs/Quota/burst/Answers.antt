-- `gcra::Quota::burst` meets its contract.
use Rattle.gcra.specs.Calls.{quota_burst}
use Rattle.questions.proofs.Answers.{alone-no, alone-yes}
use Rattle.questions.proofs.Tests.{told-no, told-yes}
use Rattle.gcra.proofs.Quota.burst.Goals as goal

pub returns-then-not-is_valid : goal.returns-then-not-is_valid
unfolding quota_burst
returns-then-not-is_valid c = alone-no 2 _ (told-no c.is_valid.ensures c.if-not-is_valid.true)

pub returns : goal.returns
unfolding quota_burst
returns c = alone-yes 2 _ (told-yes c.is_valid.ensures c.if-not-is_valid.false)
