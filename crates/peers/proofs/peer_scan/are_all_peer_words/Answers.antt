-- `are_all_peer_words` meets its contract.
use Rattle.std.proofs.Common.{sym, ap, ◌∙◌, arith}
use Rattle.records.proofs.Words.RecordLaws.{lent-record}
use Rattle.peers.specs.Peers.Steps.Scan.{are_peer_words}
use Rattle.records.proofs.Words.RowLaws.{scan-fails, scan-goes, scan-ends}
use Rattle.peers.proofs.peer_scan.are_all_peer_words.Goals as goal

pub returns-then-not-are_peer_words : goal.returns-then-not-are_peer_words
returns-then-not-are_peer_words c =
    let s = c.args in
    let l = c.loop-i in
    scan-fails are_peer_words 12 s.n s.t.now l.i l.invariant (omega arith) (sym (c.are_peer_words.ensures ∙ ap are_peer_words (lent-record 12 s.n s.t.now l.i (omega arith))) ∙ c.if-not-are_peer_words.true)

pub loop-i-preserved : goal.loop-i-preserved
loop-i-preserved c =
    let s = c.args in
    let l = c.loop-i in
    scan-goes are_peer_words 12 s.n s.t.now l.i l.invariant (omega arith) (sym (c.are_peer_words.ensures ∙ ap are_peer_words (lent-record 12 s.n s.t.now l.i (omega arith))) ∙ c.if-not-are_peer_words.false)

pub returns : goal.returns
returns c =
    let s = c.args in
    let l = c.loop-i in
    scan-ends are_peer_words 12 s.n s.t.now l.i l.invariant (omega arith)
