use Rattle.std.proofs.Common.{◌∙◌, ap, not, eq-eqb}
use Rattle.limiter.proofs.Validity.ScanWordLaws.{no-rate, by-magnitude}
use Rattle.limiter.proofs.scan.is_rate.Goals as goal

pub returns-then-word-ne0 : goal.returns-then-word-ne0
returns-then-word-ne0 c = c.is_magnitude_bits.ensures ∙ by-magnitude _ c.if-word-ne0.true

pub returns-else-word-ne0 : goal.returns-else-word-ne0
returns-else-word-ne0 c = ap not (eq-eqb _ _ c.if-word-ne0.false) ∙ no-rate _ c.if-word-ne0.false
