-- `ask_for_starts` meets its contract.
use Rattle.peers.specs.Peers.State.{tables}
use Rattle.peers.proofs.Peers.Readers.ReaderLaws.{asked-no, asked-by}
use Rattle.questions.proofs.Tests.{told-no, told-yes}
use Rattle.questions.proofs.Answers.{first-no}
use Rattle.peers.proofs.peer_demand.PeerDemand.ask_for_starts.Goals as goal

pub returns-then-not-has_room : goal.returns-then-not-has_room
returns-then-not-has_room c = asked-no _ _ _ (first-no 1 _ (told-no c.has_room.ensures c.if-not-has_room.true))

pub returns : goal.returns
returns c =
    let s = c.args in
    asked-by s.self (tables s.peers.now s.snapshot_keys.now s.contested.now) _ _ c.ok_or.ensures.value (told-yes c.has_room.ensures c.if-not-has_room.false) c.starts.ensures.value c.starts.ensures.started
    (λ i. (c.type_inv.peers i).fits) (λ i. (c.type_inv.snapshot_keys i).fits) (λ i. (c.type_inv.contested i).fits)
