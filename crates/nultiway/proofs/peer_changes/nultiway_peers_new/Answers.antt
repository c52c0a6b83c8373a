-- By the length of the lent words.
use mathlib.Core.Path.{refl}
use Rattle.nultiway.proofs.Calls.RoomLaws.{called-short, called-room}
use Rattle.nultiway.proofs.peer_changes.nultiway_peers_new.Goals as goal

pub returns-then-peers-lt-PEERS_WORDS : goal.returns-then-peers-lt-PEERS_WORDS
returns-then-peers-lt-PEERS_WORDS c = called-short c.if-peers-lt-PEERS_WORDS.true refl

pub returns : goal.returns
returns c =
    let if1 = c.if-peers-lt-PEERS_WORDS in
    let new = c.new in
    let put-new-peers = c.put_answer in
    called-room if1.false
    record {
      result = new.result;
      kept = new.ensures;
      number = put-new-peers.ensures.value;
      answer = put-new-peers.ensures.to_after;
    }
