-- `stale_after_rounds` meets its contract: question 7, then the greater of 10 and three times the cluster size.
use Rattle.std.proofs.Common.{ap, ◌∙◌, arith}
use Rattle.questions.specs.Questions.{given}
use Rattle.questions.proofs.Tests.{told-no, told-yes}
use Rattle.questions.proofs.Answers.{alone-no, alone-yes}
use Rattle.peers.proofs.Peers.Reports.RoundLaws.{cluster-small}
use Rattle.peers.proofs.peer_demand.stale_after_rounds.Goals as goal

pub returns-then-not-is_cluster_size : goal.returns-then-not-is_cluster_size
returns-then-not-is_cluster_size c = alone-no 7 _ (told-no c.is_cluster_size.ensures c.if-not-is_cluster_size.true)

pub overflow_mul-cluster_size : goal.overflow_mul-cluster_size
overflow_mul-cluster_size c = omega (arith, cluster-small c.args.cluster_size (told-yes c.is_cluster_size.ensures c.if-not-is_cluster_size.false))

pub returns : goal.returns
returns c = ap given (omega (arith, c.max.ensures)) ∙ alone-yes 7 _ (told-yes c.is_cluster_size.ensures c.if-not-is_cluster_size.false)
