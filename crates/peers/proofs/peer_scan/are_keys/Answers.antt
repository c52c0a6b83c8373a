-- `are_keys` meets its contract.
use Rattle.std.proofs.Common.{ℕ, ◌*◌, leb, length, ap, ◌∙◌, arith, le-leb}
use borrow.Author.Tests.{lt-leb}
use Rattle.records.specs.Records.{records}
use Rattle.questions.proofs.Tests.{stop, goes}
use Rattle.records.proofs.Words.RecordLaws.{length-records}
use Rattle.records.proofs.Tables.TableLaws.{wide-records}
use Rattle.peers.specs.Peers.Steps.Scan.{are_keys}
use Rattle.peers.proofs.Peers.Validity.ScanRunLaws.{runs-are-valid}
use Rattle.peers.proofs.Peers.Validity.ValidLaws.{keys-ready}
use Rattle.peers.proofs.peer_scan.are_keys.Goals as goal

pub returns-then-bound-n-clause-value : goal.returns-then-bound-n-clause-value
unfolding are_keys
returns-then-bound-n-clause-value c =
    let s = c.args in
    stop _ _ (ap (λ (m : ℕ). leb m (32 * s.bound)) (length-records s.w s.n s.t.now) ∙ lt-leb s.n (32 * s.bound) c.if-bound-n.true)

pub returns-clause-value : goal.returns-clause-value
unfolding are_keys
returns-clause-value c =
    let s = c.args in
    let k = keys-ready s.w s.n (32 * s.bound) s.t.now c.requires.le_w.0 c.requires.le_w.2 c.if-bound-n.false in
    goes (leb (length (records s.w s.n s.t.now)) (32 * s.bound)) _ _
    (ap (λ (m : ℕ). leb m (32 * s.bound)) (length-records s.w s.n s.t.now) ∙ le-leb s.n (32 * s.bound) c.if-bound-n.false)
    (c.are_runs.ensures.value ∙ runs-are-valid s.w s.least s.bound (omega (arith, k.wide)) (records 12 s.p s.peers.now) (wide-records 12 s.p s.peers.now c.requires.peers_ready.fit) c.requires.peers_ready.ascend (records s.w s.n s.t.now) (wide-records s.w s.n s.t.now k.fit))
