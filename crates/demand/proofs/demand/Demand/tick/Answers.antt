-- `Demand::tick` meets its contract.
use Rattle.questions.proofs.Tests.{told-no, told-yes}
use Rattle.questions.proofs.Answers.{no, yes, value}
use Rattle.demand.proofs.demand.Demand.tick.Goals as goal

pub returns-then-not-is_valid : goal.returns-then-not-is_valid
returns-then-not-is_valid c = no 2 _ _ (told-no c.is_valid.ensures c.if-not-is_valid.true)

pub returns : goal.returns
returns c = yes 2 _ _ (told-yes c.is_valid.ensures c.if-not-is_valid.false) (value c.ticked.ensures)
