-- By the length of the lent words.
use mathlib.Core.Path.{refl}
use Rattle.nultiway.proofs.Calls.RoomLaws.{called-short, called-room}
use Rattle.nultiway.proofs.Calls.PeerCallLaws.{says}
use Rattle.nultiway.proofs.peer_calls.nultiway_peers_total_of_each.Goals as goal

pub returns-then-peers-lt-PEERS_WORDS : goal.returns-then-peers-lt-PEERS_WORDS
returns-then-peers-lt-PEERS_WORDS c = called-short c.if-peers-lt-PEERS_WORDS.true refl

pub peers_of-p-requires : goal.peers_of-p-requires
peers_of-p-requires c = c.if-peers-lt-PEERS_WORDS.false

pub returns : goal.returns
returns c =
    let if1 = c.if-peers-lt-PEERS_WORDS in
    let peers-of = c.peers_of-p in
    let total-of-each = c.total_of_each in
    called-room if1.false (says peers-of.ensures total-of-each.result total-of-each.ensures c.change_number.ensures)
