-- `gcra::Gcra::has_debt` meets its contract.
use Rattle.gcra.specs.Calls.{gcra_has_debt}
use Rattle.gcra.specs.Meter.{has_debt}
use Rattle.questions.proofs.Tests.{told-no, told-yes}
use Rattle.questions.proofs.Answers.{alone-no, alone-yes}
use Rattle.gcra.proofs.Gcra.has_debt.Goals as goal

pub returns-then-not-is_valid : goal.returns-then-not-is_valid
unfolding gcra_has_debt
returns-then-not-is_valid c = alone-no 2 _ (told-no c.is_valid.ensures c.if-not-is_valid.true)

pub returns : goal.returns
unfolding gcra_has_debt has_debt
returns c = rw c.unwrap_or.ensures (alone-yes 2 _ (told-yes c.is_valid.ensures c.if-not-is_valid.false))
