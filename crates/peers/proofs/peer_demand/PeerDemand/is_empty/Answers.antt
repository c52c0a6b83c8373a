-- `is_empty` meets its contract.
use Rattle.std.proofs.Common.{ℕ, eqb, ap, ◌∙◌}
use Rattle.questions.specs.Refusals.{answer_of}
use Rattle.questions.proofs.RefusalLaws.{handed, refused-any}
use Rattle.peers.proofs.Peers.CallLaws.{given_by}
use Rattle.peers.proofs.peer_demand.PeerDemand.is_empty.Goals as goal

pub returns-in_err-n : goal.returns-in_err-n
returns-in_err-n c = ap answer_of (handed _ c.from_residual.result c.from_residual.ensures.1) ∙ refused-any _ _ _ _ c.in_err-n.ensures

pub returns : goal.returns
returns c = given_by (λ (n : ℕ). eqb n 0) _ _ _ c.in_ok-n.ensures
