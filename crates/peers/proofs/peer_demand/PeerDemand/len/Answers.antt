-- `len` meets its contract.
use Rattle.std.proofs.Common.{refl, ◌∙◌}
use Rattle.peers.specs.Peers.State.{tables}
use Rattle.questions.proofs.RefusalLaws.{refusal-is}
use Rattle.peers.proofs.Peers.Readers.LenLaws.{asked-counted}
use Rattle.peers.proofs.Peers.Readers.ReaderLaws.{answer-yes, asked-ready}
use Rattle.peers.proofs.peer_demand.PeerDemand.len.Goals as goal

pub returns-in_err-ask : goal.returns-in_err-ask
returns-in_err-ask c = refusal-is _ _ c.in_err-ask.ensures _ c.from_residual.ensures.1 _

pub count_keys-requires : goal.count_keys-requires
count_keys-requires c =
    asked-ready _ _ _ c.in_ok-ask.ensures refl (λ i. (c.type_inv.peers i).fits) (λ i. (c.type_inv.snapshot_keys i).fits) (λ i. (c.type_inv.contested i).fits)

pub returns : goal.returns
returns c =
    let s = c.args in
    answer-yes _ _ _ _ _ c.in_ok-ask.ensures refl
    (c.count_keys.ensures ∙ asked-counted s.self (tables s.peers.now s.snapshot_keys.now s.contested.now) _ c.in_ok-ask.ensures refl)
