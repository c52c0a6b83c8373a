-- `run_end` meets its contract.
use Rattle.std.proofs.Common.{◌≡◌, sym, ◌∙◌, arith}
use Rattle.peers.proofs.Peers.Validity.ScanRunLaws.{lent-here, run_out, run_none, run-begins, run-next, run-ended, run-full}
use Rattle.peers.proofs.peer_scan.run_end.Goals.{then-n-from-via-then-n-from, then-n-from-via-else-n-from+then-not-is_key_of}
use Rattle.peers.proofs.peer_scan.run_end.Goals as goal

pub returns-then-n-from : goal.returns-then-n-from
returns-then-n-from c =
    let s = c.args in
    elim c.then-n-from.branch [
      | then-n-from-via-then-n-from w ↦ run_out s.w s.n s.id s.from s.t.now c.requires.wide w.if-n-from.true
      | then-n-from-via-else-n-from+then-not-is_key_of w ↦
          run_none s.w s.n s.id s.from s.t.now c.requires.wide w.if-n-from.false (sym (w.is_key_of.ensures ∙ lent-here s.w s.n s.id s.t.now c.requires.fit 0 s.from w.if-n-from.false) ∙ w.if-not-is_key_of.true)
    ]

pub loop-i-init : goal.loop-i-init
loop-i-init c =
    let s = c.args in
    run-begins s.w s.n s.id s.from s.t.now c.requires.wide c.if-n-from.false (sym (c.is_key_of.ensures ∙ lent-here s.w s.n s.id s.t.now c.requires.fit 0 s.from c.if-n-from.false) ∙ c.if-not-is_key_of.false)

pub returns-then-not-is_next_key_of : goal.returns-then-not-is_next_key_of
returns-then-not-is_next_key_of c =
    let s = c.args in
    let l = c.loop-i in
    run-ended s.w s.n s.id s.from s.t.now c.requires.wide l.i l.invariant c.loop-i-test.true (sym (c.is_next_key_of.ensures ∙ lent-here s.w s.n s.id s.t.now c.requires.fit _ l.i c.loop-i-test.true) ∙ c.if-not-is_next_key_of.true)

pub loop-i-preserved : goal.loop-i-preserved
loop-i-preserved c =
    let s = c.args in
    let l = c.loop-i in
    run-next s.w s.n s.id s.from s.t.now c.requires.wide l.i l.invariant c.loop-i-test.true (sym (c.is_next_key_of.ensures ∙ lent-here s.w s.n s.id s.t.now c.requires.fit _ l.i c.loop-i-test.true) ∙ c.if-not-is_next_key_of.false)

pub returns : goal.returns
returns c =
    let s = c.args in
    let l = c.loop-i in
    let end : s.n ≡ l.i = omega arith in
    end ∙ run-full s.w s.n s.id s.from s.t.now c.requires.wide l.i l.invariant c.loop-i-test.false
