-- The bounds of alpha are the literals 0 and 1.
use Rattle.std.proofs.Common.{◌∙◌}
use Rattle.limiter.proofs.Validity.SettingsLaws.{some-alpha, no-alpha}
use Rattle.limiter.proofs.is_alpha.Goals as goal

pub returns-then-x : goal.returns-then-x
returns-then-x c = some-alpha _ c.if-x.true

pub returns-else-x : goal.returns-else-x
returns-else-x c = c.if-x.false ∙ no-alpha _ c.if-x.false
