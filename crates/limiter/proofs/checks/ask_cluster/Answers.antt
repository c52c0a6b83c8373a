-- `ask_cluster` meets its contract.
use Rattle.questions.proofs.Tests.{told-no, told-yes}
use Rattle.questions.proofs.Answers.{first-no, first-yes, first-none}
use Rattle.limiter.proofs.checks.ask_cluster.Goals as goal

pub returns-then-not-is_cluster_size : goal.returns-then-not-is_cluster_size
returns-then-not-is_cluster_size c = first-no 7 _ (told-no c.is_cluster_size.ensures c.if-not-is_cluster_size.true)

pub returns : goal.returns
returns c = first-yes 7 _ (told-yes c.is_cluster_size.ensures c.if-not-is_cluster_size.false) first-none
