-- `get` meets its contract.
use Rattle.std.proofs.Common.{refl}
use Rattle.questions.proofs.RefusalLaws.{refusal-is}
use Rattle.peers.proofs.Peers.Readers.ReaderLaws.{answer-yes, asked-ready}
use Rattle.peers.proofs.peer_demand.PeerDemand.get.Goals as goal

pub returns-in_err-ask : goal.returns-in_err-ask
returns-in_err-ask c = refusal-is _ _ c.in_err-ask.ensures _ c.from_residual.ensures.1 _

pub heard_by-requires : goal.heard_by-requires
heard_by-requires c =
    asked-ready _ _ _ c.in_ok-ask.ensures refl (λ i. (c.type_inv.peers i).fits) (λ i. (c.type_inv.snapshot_keys i).fits) (λ i. (c.type_inv.contested i).fits)

pub returns : goal.returns
returns c = answer-yes _ _ _ _ _ c.in_ok-ask.ensures refl c.heard_by.ensures
