-- By the length of the lent words.
use mathlib.Core.Path.{refl}
use Rattle.nultiway.proofs.Calls.CallLaws.{changes}
use Rattle.nultiway.proofs.Calls.RoomLaws.{called-short, called-room}
use Rattle.nultiway.proofs.peer_changes.nultiway_peers_expire.Goals as goal

pub returns-then-peers-lt-PEERS_WORDS : goal.returns-then-peers-lt-PEERS_WORDS
returns-then-peers-lt-PEERS_WORDS c = called-short c.if-peers-lt-PEERS_WORDS.true (refl, refl)

pub peers_of-p-requires : goal.peers_of-p-requires
peers_of-p-requires c = c.if-peers-lt-PEERS_WORDS.false

pub put_peers-requires : goal.put_peers-requires
put_peers-requires c =
    let if1 = c.if-peers-lt-PEERS_WORDS in
    if1.false

pub returns : goal.returns
returns c =
    let if1 = c.if-peers-lt-PEERS_WORDS in
    let peers-of = c.peers_of-p in
    let expire = c.expire-changed in
    let put-peers = c.put_peers in
    called-room if1.false (changes peers-of.ensures expire.result expire.ensures c.change_number.ensures put-peers.ensures)
