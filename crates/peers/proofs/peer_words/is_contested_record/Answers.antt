-- `is_contested_record` meets its contract.
use Rattle.std.proofs.Common.{◌∙◌}
use Rattle.peers.specs.Peers.Records.{contested_words, contested_of}
use Rattle.peers.specs.Peers.State.{valid_contested}
use Rattle.peers.specs.Peers.Steps.Scan.{are_key_words}
use Rattle.peers.proofs.Peers.Validity.ScanLaws.{contested-words-pass}
use Rattle.records.proofs.Tables.ScanLaws.{scanned-record}
use Rattle.peers.proofs.peer_words.is_contested_record.Goals as goal

pub returns-then-words-eq-CONTESTED_WORDS : goal.returns-then-words-eq-CONTESTED_WORDS
returns-then-words-eq-CONTESTED_WORDS c =
    scanned-record 6 contested_words contested_of valid_contested c.args.words.now (are_key_words 6) contested-words-pass c.if-words-eq-CONTESTED_WORDS.true
    (λ i. (c.type_inv.words i).fits) c.are_key_words.result (c.are_key_words.ensures ∙ (λ k. are_key_words (c.if-words-eq-CONTESTED_WORDS.true k) c.args.words.now))
