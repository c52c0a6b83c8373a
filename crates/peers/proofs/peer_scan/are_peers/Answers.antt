-- `are_peers` meets its contract.
use Rattle.std.proofs.Common.{◌≡◌, ℕ, ◌<◌, ◌≤◌, true, false, leb, List, length, sym, ap, ◌∙◌, arith, le-leb}
use borrow.Author.Tests.{lt-leb}
use Rattle.records.specs.Records.{records, keyed, ascending}
use Rattle.records.specs.Typed.{are_records}
use Rattle.questions.proofs.Tests.{and-skip, contradiction, stop, goes}
use Rattle.records.proofs.Words.RecordLaws.{length-records}
use Rattle.records.proofs.Words.RowLaws.{keyed-fit}
use Rattle.peers.specs.Peers.Steps.Scan.{are_peers}
use Rattle.peers.proofs.peer_scan.are_peers.Goals.{then-n-le-MAX_PEERS, else-n-le-MAX_PEERS}
use Rattle.peers.proofs.peer_scan.are_peers.Goals as goal

few : (n : ℕ) (xs : List ℕ) → n ≤ 32 → leb (length (records 12 n xs)) 32 ≡ true
few n xs h = ap (λ (m : ℕ). leb m 32) (length-records 12 n xs) ∙ le-leb n 32 h

many : (n : ℕ) (xs : List ℕ) → 32 < n → leb (length (records 12 n xs)) 32 ≡ false
many n xs h = ap (λ (m : ℕ). leb m 32) (length-records 12 n xs) ∙ lt-leb n 32 h

pub returns-then-are_all_peer_words : goal.returns-then-are_all_peer_words
unfolding are_peers are_records
returns-then-are_all_peer_words c =
    let s = c.args in
    elim c.if-n-le-MAX_PEERS.branch [
      | then-n-le-MAX_PEERS w ↦
          goes _ _ _ (few s.n s.t.now w.if-n-le-MAX_PEERS.true)
          (goes _ _ _ (sym w.are_all_peer_words.ensures ∙ sym w.value-is ∙ c.if-are_all_peer_words.true)
          (c.is_ascending.ensures ∙ and-skip (keyed (length s.t.now) 12 1 s.n) (ascending 1 (records 12 s.n s.t.now)) (keyed-fit (length s.t.now) 12 1 s.n (omega arith) (omega arith) (omega arith) (omega arith))))
      | else-n-le-MAX_PEERS w ↦ contradiction (sym c.if-are_all_peer_words.true ∙ w.value-is ∙ lt-leb s.n 32 w.if-n-le-MAX_PEERS.false)
    ]

pub returns-else-are_all_peer_words : goal.returns-else-are_all_peer_words
unfolding are_peers are_records
returns-else-are_all_peer_words c =
    let s = c.args in
    elim c.if-n-le-MAX_PEERS.branch [
      | then-n-le-MAX_PEERS w ↦
          goes _ _ _ (few s.n s.t.now w.if-n-le-MAX_PEERS.true) (c.if-are_all_peer_words.false ∙ stop _ _ (sym w.are_all_peer_words.ensures ∙ sym w.value-is ∙ c.if-are_all_peer_words.false))
      | else-n-le-MAX_PEERS w ↦ w.value-is ∙ lt-leb s.n 32 w.if-n-le-MAX_PEERS.false ∙ stop _ _ (many s.n s.t.now w.if-n-le-MAX_PEERS.false)
    ]
