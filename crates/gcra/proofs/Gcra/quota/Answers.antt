-- `gcra::Gcra::quota` meets its contract.
use Rattle.gcra.specs.Calls.{gcra_quota}
use Rattle.questions.proofs.Tests.{told-no, told-yes}
use Rattle.questions.proofs.Answers.{alone-no, alone-yes}
use Rattle.gcra.proofs.Gcra.quota.Goals as goal

pub returns-then-not-is_valid : goal.returns-then-not-is_valid
unfolding gcra_quota
returns-then-not-is_valid c = alone-no 2 _ (told-no c.is_valid.ensures c.if-not-is_valid.true)

pub returns : goal.returns
unfolding gcra_quota
returns c = alone-yes 2 _ (told-yes c.is_valid.ensures c.if-not-is_valid.false)
