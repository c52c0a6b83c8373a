use Rattle.std.proofs.Common.{◌∙◌, sym, ap}
use Rattle.limiter.proofs.Walking.CapLaws.{is_at, not-at, hot-found}
use Rattle.limiter.proofs.ticks.is_hot.Goals as goal

pub returns-in-At : goal.returns-in-At
returns-in-At c = sym (ap is_at c.in-At.is) ∙ hot-found _ _ _ c.requires c.find.result c.find.ensures

pub returns-in_default : goal.returns-in_default
returns-in_default c = not-at c.find.result c.in_default.not-At ∙ hot-found _ _ _ c.requires c.find.result c.find.ensures
