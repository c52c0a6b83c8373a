-- By the length of the lent words.
use Rattle.nultiway.proofs.Calls.RoomLaws.{called-short, called-room}
use Rattle.nultiway.proofs.Calls.PeerCallLaws.{asks_of}
use mathlib.Core.Path.{◌∙◌}
use Rattle.nultiway.proofs.Calls.CallLaws.{number-asked}
use Rattle.nultiway.proofs.peer_calls.nultiway_peers_ask.Goals as goal

pub returns-then-peers-lt-PEERS_WORDS : goal.returns-then-peers-lt-PEERS_WORDS
returns-then-peers-lt-PEERS_WORDS c = called-short c.if-peers-lt-PEERS_WORDS.true tt

pub returns : goal.returns
returns c =
    called-room c.if-peers-lt-PEERS_WORDS.false
    (asks_of _ c.peers_of.ensures (c.change_number.ensures ∙ number-asked c.ask.result ∙ c.ask.ensures))
