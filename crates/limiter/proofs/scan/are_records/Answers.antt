use Rattle.std.proofs.Common.{◌∙◌, ap, arith, sym}
use Rattle.questions.proofs.Tests.{told-no, told-yes, contradiction}
use Rattle.records.proofs.Words.RecordLaws.{lent-record}
use Rattle.records.proofs.Tables.ScanLaws.{scan_step, scan-done, scan-order, scan-record}
use Rattle.limiter.specs.Steps.Scan.{are_words}
use Rattle.limiter.specs.Steps.KeySteps.{units}
use Rattle.limiter.proofs.scan.are_records.Goals as goal
use Rattle.limiter.proofs.scan.are_records.Goals.{then-follows, else-follows}

pub returns-then-not-is_record : goal.returns-then-not-is_record
returns-then-not-is_record c =
    let a = c.args in
    let i = c.loop-i.i in
    elim c.if-follows.branch [
      | then-follows w ↦
          scan-record (are_words units) a.w a.n a.t.now (omega arith) c.requires.1 i c.loop-i-test.true
          (sym (w.is_record.ensures ∙ ap (are_words units) (lent-record a.w a.n a.t.now i c.loop-i-test.true)) ∙ sym w.value-is ∙ c.if-not-is_record.true)
      | else-follows w ↦
          scan-order (are_words units) a.w a.n a.t.now (omega arith) c.requires.1 i c.loop-i-test.true (told-no c.follows.ensures w.if-follows.false)
    ]

pub loop-i-preserved : goal.loop-i-preserved
loop-i-preserved c =
    let a = c.args in
    let i = c.loop-i.i in
    elim c.if-follows.branch [
      | then-follows w ↦
          scan_step (are_words units) a.w a.n a.t.now i c.loop-i.invariant c.loop-i-test.true (told-yes c.follows.ensures w.if-follows.true)
          (sym (w.is_record.ensures ∙ ap (are_words units) (lent-record a.w a.n a.t.now i c.loop-i-test.true)) ∙ sym w.value-is ∙ c.if-not-is_record.false)
      | else-follows w ↦ contradiction (sym c.if-not-is_record.false ∙ w.value-is ∙ w.if-follows.false)
    ]

pub returns : goal.returns
returns c =
    scan-done (are_words units) c.args.w c.args.n c.args.t.now (omega arith) c.requires.1 c.loop-i.i c.loop-i.invariant c.loop-i-test.false
