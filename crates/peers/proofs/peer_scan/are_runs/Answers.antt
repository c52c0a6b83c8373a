-- `are_runs` meets its contract.
use Rattle.std.proofs.Common.{◌≡◌, eqb, ◌+◌, is_some, sym, ◌∙◌, length-set, arith, rules}
use Rattle.peers.proofs.Peers.Validity.StartLaws.{starts-next}
use Rattle.peers.proofs.Peers.Validity.ScanRunLaws.{runs-fail, runs-go, runs-end}
use Rattle.peers.proofs.peer_scan.are_runs.Goals as goal

pub returns-then-not-is_run-clause-value : goal.returns-then-not-is_run-clause-value
returns-then-not-is_run-clause-value c =
    let s = c.args in
    let l = c.loop-i in
    runs-fail s.w s.least s.bound s.n s.p l.from l.i s.t.now s.peers.now l.invariant.0 c.run_end-to.result c.loop-i-test.true c.run_end-to.ensures (sym c.is_run.ensures ∙ c.if-not-is_run.true)

pub overflow_cast-starts : goal.overflow_cast-starts
overflow_cast-starts c =
    let s = c.args in
    let l = c.loop-i in
    let next = runs-go s.w s.least s.bound s.n s.p l.from l.i s.t.now s.peers.now l.invariant.0 c.run_end-to.result c.loop-i-test.true c.run_end-to.ensures (sym c.is_run.ensures ∙ c.if-not-is_run.false) in
    omega (arith, next.within, c.requires.few_keys)

pub loop-i-preserved : goal.loop-i-preserved
loop-i-preserved c =
    let s = c.args in
    let l = c.loop-i in (
      runs-go s.w s.least s.bound s.n s.p l.from l.i s.t.now s.peers.now l.invariant.0 c.run_end-to.result c.loop-i-test.true c.run_end-to.ensures (sym c.is_run.ensures ∙ c.if-not-is_run.false),
      starts-next s.w s.n s.t.now s.peers.now l.i l.from c.run_end-to.result l.starts l.invariant.1 (omega (arith, c.requires.few_peers, c.loop-i-test.true, l.invariant.2)) c.run_end-to.ensures,
      length-set l.starts (l.i + 1) c.run_end-to.result ∙ l.invariant.2,
    )

pub returns-clause-value : goal.returns-clause-value
returns-clause-value c =
    let s = c.args in
    let l = c.loop-i in
    let v : is_some c.then_some.result ≡ eqb l.from s.n = search rules in
    v ∙ runs-end s.w s.least s.bound s.n s.p l.from l.i s.t.now s.peers.now l.invariant.0 c.loop-i-test.false
