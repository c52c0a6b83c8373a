-- `gcra::Gcra::new` meets its contract.
use Rattle.gcra.specs.Calls.{gcra_new}
use Rattle.questions.proofs.Tests.{told-no, told-yes}
use Rattle.questions.proofs.Answers.{alone-no, alone-yes}
use Rattle.gcra.proofs.Gcra.new.Goals as goal

pub returns-then-not-is_valid : goal.returns-then-not-is_valid
unfolding gcra_new
returns-then-not-is_valid c = alone-no 2 _ (told-no c.is_valid.ensures c.if-not-is_valid.true)

pub returns : goal.returns
unfolding gcra_new
returns c = alone-yes 2 _ (told-yes c.is_valid.ensures c.if-not-is_valid.false)
