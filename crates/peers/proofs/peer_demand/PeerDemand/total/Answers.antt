-- `total` meets its contract.
use Rattle.std.proofs.Common.{refl, ap, ◌∙◌}
use Rattle.questions.specs.Refusals.{answer_of}
use Rattle.peers.specs.Peers.Readers.{total}
use Rattle.peers.proofs.Peers.Readers.EachLaws.{one-refused, one-given}
use Rattle.questions.proofs.RefusalLaws.{handed}
use Rattle.peers.proofs.peer_demand.PeerDemand.total.Goals as goal

pub returns-in_err-total_of_each : goal.returns-in_err-total_of_each
returns-in_err-total_of_each c =
    ap answer_of (handed _ c.from_residual.result c.from_residual.ensures.1) ∙ one-refused total _ _ _ _ _ _ c.in_err-total_of_each.ensures _ refl

pub returns : goal.returns
returns c = one-given total _ _ _ _ _ _ c.in_ok-total_of_each.ensures _ refl
