use Rattle.std.proofs.Common.{◌∙◌, sym, arith}
use borrow.Author.Tests.{lt-leb}
use Rattle.questions.proofs.Tests.{told-no, told-yes, contradiction}
use Rattle.records.proofs.Tables.TypedLaws.{all_words}
use Rattle.hot.specs.HotSet.Steps.{are_entry_words}
use Rattle.limiter.proofs.Validity.ValidLaws.{entries-told}
use Rattle.limiter.proofs.Validity.MergeLaws.{too_many, not-records, by-merge}
use Rattle.limiter.proofs.scan.are_hot.Goals as goal
use Rattle.limiter.proofs.scan.are_hot.Goals.{then-n-size, else-n-size}

pub returns-then-are_valid : goal.returns-then-are_valid
returns-then-are_valid c =
    let a = c.args in
    elim c.if-n-size.branch [
      | then-n-size w ↦
          let few = w.if-n-size.true in
          c.are_among.ensures ∙ by-merge are_entry_words 6 a.n a.size a.m a.t.now a.keys.now few (omega arith) (omega arith) c.requires.0
          (told-yes (w.value-is ∙ w.are_valid.ensures ∙ entries-told a.n a.t.now (omega arith) (all_words a.t.now (λ i. omega (arith, c.type_inv.t i)))) c.if-are_valid.true)
      | else-n-size w ↦ contradiction (sym c.if-are_valid.true ∙ w.value-is ∙ lt-leb _ _ w.if-n-size.false)
    ]

pub returns-else-are_valid : goal.returns-else-are_valid
returns-else-are_valid c =
    let a = c.args in
    elim c.if-n-size.branch [
      | then-n-size w ↦
          let few = w.if-n-size.true in
          c.if-are_valid.false ∙ not-records are_entry_words 6 a.n a.size a.m a.t.now a.keys.now few
          (told-no (w.value-is ∙ w.are_valid.ensures ∙ entries-told a.n a.t.now (omega arith) (all_words a.t.now (λ i. omega (arith, c.type_inv.t i)))) c.if-are_valid.false)
      | else-n-size w ↦ c.if-are_valid.false ∙ too_many are_entry_words 6 a.n a.size a.m a.t.now a.keys.now w.if-n-size.false
    ]
