-- `is_snapshot_key_record` meets its contract.
use Rattle.std.proofs.Common.{◌∙◌}
use Rattle.peers.specs.Peers.Records.{snapshot_key_words, snapshot_key_of}
use Rattle.peers.specs.Peers.State.{valid_snapshot_key}
use Rattle.peers.specs.Peers.Steps.Scan.{are_key_words}
use Rattle.peers.proofs.Peers.Validity.ScanLaws.{key-words-pass}
use Rattle.records.proofs.Tables.ScanLaws.{scanned-record}
use Rattle.peers.proofs.peer_words.is_snapshot_key_record.Goals as goal

pub returns-then-words-eq-SNAPSHOT_KEY_WORDS : goal.returns-then-words-eq-SNAPSHOT_KEY_WORDS
returns-then-words-eq-SNAPSHOT_KEY_WORDS c =
    scanned-record 4 snapshot_key_words snapshot_key_of valid_snapshot_key c.args.words.now (are_key_words 4) key-words-pass c.if-words-eq-SNAPSHOT_KEY_WORDS.true
    (λ i. (c.type_inv.words i).fits) c.are_key_words.result (c.are_key_words.ensures ∙ (λ k. are_key_words (c.if-words-eq-SNAPSHOT_KEY_WORDS.true k) c.args.words.now))
