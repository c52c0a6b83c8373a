-- `hot_elsewhere` meets its contract.
use Rattle.std.proofs.Common.{refl, ap, ◌∙◌}
use Rattle.questions.specs.Refusals.{answer_of}
use Rattle.peers.specs.Peers.Readers.{hot_elsewhere}
use Rattle.peers.proofs.Peers.Readers.EachLaws.{one-refused, one-given}
use Rattle.questions.proofs.RefusalLaws.{handed}
use Rattle.peers.proofs.peer_demand.PeerDemand.hot_elsewhere.Goals as goal

pub returns-in_err-hot_elsewhere_of_each : goal.returns-in_err-hot_elsewhere_of_each
returns-in_err-hot_elsewhere_of_each c =
    ap answer_of (handed _ c.from_residual.result c.from_residual.ensures.1) ∙ one-refused hot_elsewhere _ _ _ _ _ _ c.in_err-hot_elsewhere_of_each.ensures _ refl

pub returns : goal.returns
returns c = one-given hot_elsewhere _ _ _ _ _ _ c.in_ok-hot_elsewhere_of_each.ensures _ refl
