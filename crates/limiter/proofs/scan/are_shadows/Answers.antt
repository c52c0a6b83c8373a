use Rattle.std.proofs.Common.{◌∙◌, sym, arith}
use borrow.Author.Tests.{lt-leb}
use Rattle.questions.proofs.Tests.{told-no, told-yes, contradiction}
use Rattle.limiter.proofs.Validity.MergeLaws.{too_many, not-records, by-merge}
use Rattle.limiter.specs.Steps.Scan.{are_words}
use Rattle.limiter.specs.Steps.KeySteps.{units}
use Rattle.limiter.proofs.scan.are_shadows.Goals as goal
use Rattle.limiter.proofs.scan.are_shadows.Goals.{then-n-size, else-n-size}

pub returns-then-are_records : goal.returns-then-are_records
returns-then-are_records c =
    let a = c.args in
    elim c.if-n-size.branch [
      | then-n-size w ↦
          let few = w.if-n-size.true in
          c.are_among.ensures ∙ by-merge (are_words units) 4 a.n a.size a.m a.t.now a.keys.now few (omega arith) (omega arith) c.requires.0
          (told-yes (w.value-is ∙ w.are_records.ensures) c.if-are_records.true)
      | else-n-size w ↦ contradiction (sym c.if-are_records.true ∙ w.value-is ∙ lt-leb _ _ w.if-n-size.false)
    ]

pub returns-else-are_records : goal.returns-else-are_records
returns-else-are_records c =
    let a = c.args in
    elim c.if-n-size.branch [
      | then-n-size w ↦
          c.if-are_records.false ∙ not-records (are_words units) 4 a.n a.size a.m a.t.now a.keys.now w.if-n-size.true
          (told-no (w.value-is ∙ w.are_records.ensures) c.if-are_records.false)
      | else-n-size w ↦ c.if-are_records.false ∙ too_many (are_words units) 4 a.n a.size a.m a.t.now a.keys.now w.if-n-size.false
    ]
