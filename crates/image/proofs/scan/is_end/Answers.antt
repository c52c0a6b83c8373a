-- Test by test.
use Rattle.std.proofs.Common.{sym, ◌∙◌, arith, eqb}
use borrow.Author.Tests.{eqb-true, eqb-false}
use lib.ListN.{length-drop}
use Rattle.questions.proofs.Tests.{contradiction}
use Rattle.image.proofs.Loading.ReadLaws.{begins-room}
use Rattle.image.proofs.Loading.ScanLaws.{end_none, end-other, end-last}
use Rattle.image.proofs.scan.is_end.Goals as goal
use Rattle.image.proofs.scan.is_end.Goals.{then-begins, else-begins}

pub record_word-requires : goal.record_word-requires
record_word-requires c = omega (arith, begins-room 0 c.args.at c.args.from.now (sym c.if-begins.ensures))

pub returns-then-record_word-count : goal.returns-then-record_word-count
returns-then-record_word-count c =
    let s = c.args in
    elim c.if-begins.branch [
      | then-begins w ↦ (λ i. eqb (sym (length-drop s.at s.from.now) i) (c.size.ensures i))
          ∙ sym (end-last s.count s.at s.from.now (sym c.begins.ensures ∙ w.if-begins.true) (sym w.record_word.ensures ∙ eqb-true _ _ (sym w.value-is ∙ c.if-record_word-count.true)))
      | else-begins w ↦ contradiction (sym c.if-record_word-count.true ∙ w.value-is ∙ w.if-begins.false)
    ]

pub returns-else-record_word-count : goal.returns-else-record_word-count
returns-else-record_word-count c =
    let s = c.args in
    c.if-record_word-count.false
    ∙ sym (elim c.if-begins.branch [
      | then-begins w ↦ end-other s.count s.at s.from.now (sym c.begins.ensures ∙ w.if-begins.true) (λ z. eqb-false _ _ (sym w.value-is ∙ c.if-record_word-count.false) (w.record_word.ensures ∙ z))
      | else-begins w ↦ end_none s.count s.at s.from.now (sym c.begins.ensures ∙ w.if-begins.false)
    ])
