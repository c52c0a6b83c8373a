use Rattle.std.proofs.Common.{◌∙◌}
use borrow.Author.Tests.{lt-leb}
use Rattle.limiter.proofs.Validity.ValidLaws.{too-many-keys, few_keys}
use Rattle.limiter.specs.Steps.KeySteps.{units}
use Rattle.limiter.proofs.scan.are_keys.Goals as goal

pub returns-then-n-size : goal.returns-then-n-size
returns-then-n-size c =
    let a = c.args in
    c.are_records.ensures ∙ few_keys units a.size a.n a.t.now c.if-n-size.true

pub returns-else-n-size : goal.returns-else-n-size
returns-else-n-size c =
    let a = c.args in
    lt-leb _ _ c.if-n-size.false ∙ too-many-keys units a.size a.n a.t.now c.if-n-size.false
