-- `mark_table` meets its contract.
use Rattle.std.proofs.Common.{sym, ◌∙◌}
use Rattle.records.specs.Records.{records}
use Rattle.records.proofs.Words.RecordLaws.{lent-record}
use Rattle.peers.specs.Peers.Steps.Each.{has_primary, marked}
use Rattle.peers.proofs.Peers.Readers.MarkLaws.{mark-goes, mark-ends}
use Rattle.peers.proofs.peer_each.Keys.mark_table.Goals as goal

pub loop-i-preserved : goal.loop-i-preserved
loop-i-preserved c =
    let s = c.args in
    let l = c.loop-i in
    mark-goes (records s.self.width s.self.count s.self.words.now) s.v s.m s.t.now l.out _ l.i c.loop-i-test.true
    (c.mark_record.ensures ∙ (λ k. marked (λ key. has_primary key (lent-record s.v s.m s.t.now l.i c.loop-i-test.true k)) (records s.self.width s.self.count s.self.words.now) l.out))
    ∙ l.invariant

pub returns : goal.returns
returns c =
    let s = c.args in
    let l = c.loop-i in
    sym (mark-ends (records s.self.width s.self.count s.self.words.now) s.v s.m s.t.now l.out l.i c.loop-i-test.false) ∙ l.invariant
