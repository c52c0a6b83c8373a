-- The rate is an f64 by its type.
use Rattle.std.proofs.Common.{◌∙◌}
use Rattle.questions.proofs.Tests.{told-no, told-yes, stop, goes}
use Rattle.limiter.specs.State.{valid_limit}
use Rattle.limiter.proofs.Limit.is_valid.Goals as goal

pub returns-then-is_rate : goal.returns-then-is_rate
unfolding valid_limit
returns-then-is_rate c = goes _ _ _ c.well_formed.0.1.1.0.1 (goes _ _ _ (told-yes c.is_rate.ensures c.if-is_rate.true) c.burst_fits.ensures)

pub returns-else-is_rate : goal.returns-else-is_rate
unfolding valid_limit
returns-else-is_rate c = goes _ _ _ c.well_formed.0.1.1.0.1 (c.if-is_rate.false ∙ stop _ _ (told-no c.is_rate.ensures c.if-is_rate.false))
