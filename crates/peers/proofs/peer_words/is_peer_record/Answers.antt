-- `is_peer_record` meets its contract.
use Rattle.peers.specs.Peers.Records.{peer_words, peer_of}
use Rattle.peers.specs.Peers.State.{valid_peer}
use Rattle.peers.specs.Peers.Steps.Scan.{are_peer_words}
use Rattle.peers.proofs.Peers.Validity.ScanLaws.{peer-words-pass}
use Rattle.records.proofs.Tables.ScanLaws.{scanned-record}
use Rattle.peers.proofs.peer_words.is_peer_record.Goals as goal

pub returns-then-words-eq-PEER_WORDS : goal.returns-then-words-eq-PEER_WORDS
returns-then-words-eq-PEER_WORDS c =
    scanned-record 12 peer_words peer_of valid_peer c.args.words.now are_peer_words peer-words-pass c.if-words-eq-PEER_WORDS.true
    (λ i. (c.type_inv.words i).fits) c.are_peer_words.result c.are_peer_words.ensures
